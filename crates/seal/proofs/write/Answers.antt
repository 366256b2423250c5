use mathlib.Core.List.{List, ◌++◌}
use Rattle.little_endian.specs.LittleEndian.{bytes_of}
use mathlib.Core.Path.{◌≡◌, sym, ap, ◌∙◌}
use Prim.Native.Nat.{ℕ, ◌-◌}
use lib.ListN.{length, take, drop}
use lib.Seq.{length-take-le}
use Rattle.seal.specs.Seal.{resigned, check_of, body_of}
use Rattle.list_parts.proofs.Ranges.{rest_part, put_rest}
use borrow.Author.Rules.{rules}
use Rattle.seal.proofs.write.Goals as goal

pub slice_bounds-check-end-2 : goal.slice_bounds-check-end-2
slice_bounds-check-end-2 c = sym (length-take-le _ _ (search rules))

pub returns : goal.returns
unfolding resigned
returns c =
    let l = c.args.bytes.now in
    let n = c.body_length-end.result in
    let e : n ≡ length l - 4 = c.body_length-end.ensures in
    let check : c.wide-sum.result ≡ check_of (body_of l) =
    c.wide-sum.ensures ∙ c.check.ensures ∙ ap (λ (k : ℕ). check_of (take k l)) e in
    let sign : c.put.new.bytes ≡ bytes_of (length (drop n l)) (check_of (body_of l)) =
    c.put.ensures ∙ ap (λ (x : List ℕ). bytes_of (length x) c.wide-sum.result) (rest_part l n)
    ∙ ap (bytes_of (length (drop n l))) check in
    put_rest l n c.put.new.bytes ∙ ap (λ (x : List ℕ). take n l ++ x) sign ∙ ap (λ (k : ℕ). take k l ++ bytes_of (length (drop k l)) (check_of (body_of l))) e
