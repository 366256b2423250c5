-- `crc_blocks::slide` meets its contract: what stood after the block stands in front.
-- Assumes nothing.
use mathlib.Core.Path.{◌≡◌, ap, ◌∙◌}
use mathlib.Core.List.{List}
use Prim.Native.Nat.{ℕ, ◌-◌}
use native.Mathlib.Omega.{arith}
use lib.ListN.{length, take, drop, length-drop}
use lib.Seq.{paste}
use Rattle.std.specs.List.{copy_within}
use Rattle.std.proofs.lemmas.List.Edits.{take-paste}
use Rattle.crc_blocks.proofs.slide.Goals as goal

moved_front : (y : List ℕ) → length y ≡ 2563 → take 515 (copy_within y 2048 (length y) 0) ≡ take 515 (drop 2048 y)
moved_front y l =
    let e : length y - 2048 ≡ 515 = omega arith in
    ap (λ (n : ℕ). take 515 (paste y 0 (drop 2048 y) n)) e ∙ take-paste y 0 (drop 2048 y) 515 (omega arith) (simp length-drop (omega arith))

pub returns : goal.returns
returns c =
    ap (take 515) c.copy_within.ensures.after ∙ moved_front c.args.made.now c.told-made
