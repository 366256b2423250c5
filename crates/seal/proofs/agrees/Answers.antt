use mathlib.Core.List.{List}
use mathlib.Core.Path.{◌≡◌, sym, ap, ◌∙◌}
use Prim.Native.Nat.{ℕ, ◌-◌, ◌≤◌}
use native.Mathlib.Omega.{arith}
use lib.ListN.{length, take, drop, length-drop}
use lib.Seq.{length-take-le, take_all}
use Rattle.little_endian.specs.LittleEndian.{word}
use Rattle.seal.specs.Seal.{is_signed, check_of, body_of, tail_of}
use Rattle.list_parts.proofs.Ranges.{rest_part}
use borrow.Author.Rules.{rules}
use Rattle.seal.proofs.agrees.Goals as goal

pub slice_bounds-check-end : goal.slice_bounds-check-end
slice_bounds-check-end c = sym (length-take-le _ _ (search rules))

pub returns : goal.returns
unfolding is_signed
returns c =
    let l = c.args.bytes.now in
    let n = c.body_length-end.result in
    let e : n ≡ length l - 4 = c.body_length-end.ensures in
    let short : length (drop n l) ≤ 8 = rw (length-drop n l) (omega arith) in
    let check : c.wide.result ≡ check_of (body_of l) =
    c.wide.ensures ∙ c.check.ensures ∙ ap (λ (k : ℕ). check_of (take k l)) e in
    let kept : c.get.result ≡ word (tail_of l) =
    c.get.ensures ∙ ap (λ (x : List ℕ). word (take 8 x)) (rest_part l n) ∙ ap word (take_all 8 (drop n l) short) ∙ ap (λ (k : ℕ). word (drop k l)) e in
    rw (check, kept)
