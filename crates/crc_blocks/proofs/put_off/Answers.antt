-- `crc_blocks::put_off` meets its contract: byte by byte.
-- Assumes nothing.
use mathlib.Core.Path.{◌≡◌, subst}
use mathlib.Core.List.{List}
use Prim.Native.Nat.{ℕ, ◌+◌}
use native.Mathlib.Omega.{arith}
use lib.ListN.{length, get_or, take, drop, set, length-set}
use lib.Seq.{take_all}
use Rattle.std.proofs.Common.{rules}
use Rattle.crc_words.proofs.Passed.{passed_none, passed_more}
use Rattle.crc_blocks.specs.Sparse.{pend, taken_in, left, Off}
use Rattle.crc_blocks.proofs.Pending.{off_byte}
use Rattle.crc_blocks.proofs.put_off.Goals as goal

pub loop-j-init : goal.loop-j-init
loop-j-init c = record { made_length = omega arith; put_off = passed_none left 515 (pend (take 515 c.args.made.now)) }

pub loop-j-preserved : goal.loop-j-preserved
loop-j-preserved c =
    let bytes = c.args.bytes.now in
    let y = c.loop-j.made in
    let j = c.loop-j.j in
    let a = get_or bytes j 0 in
    record {
      made_length = simp length-set (omega arith);
      put_off = passed_more left 515 bytes j 0 (pend (take 515 c.args.made.now)) (pend (take 515 (drop j y)))
          (pend (take 515 (drop (j + 1) (set y (j + 515) (taken_in y j a)))))
          (omega arith)
          c.loop-j.invariant.put_off
          (off_byte a y j (c.type_inv.bytes j).fits (λ k. search rules) (omega arith));
    }

pub returns : goal.returns
returns c =
    let bytes = c.args.bytes.now in
    let y = c.loop-j.made in
    let z = pend (take 515 c.args.made.now) in
    let e : c.loop-j.j ≡ length bytes = omega arith in
    subst (λ (m : ℕ). Off bytes z (pend (take 515 (drop m y)))) e
    (subst (λ (bs : List ℕ). Off bs z (pend (take 515 (drop c.loop-j.j y)))) (take_all c.loop-j.j bytes (omega arith)) c.loop-j.invariant.put_off)
