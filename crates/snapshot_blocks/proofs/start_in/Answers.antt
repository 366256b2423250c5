-- Where so many rows of the width that the version has end (`start_le`).
use mathlib.Core.Path.{ap, ◌∙◌}
use Prim.Native.Nat.{ℕ, ◌+◌, ◌*◌, ◌≤◌}
use native.Mathlib.Omega.{arith}
use Rattle.snapshot_blocks.specs.Formats.{format_of, row_length}
use Rattle.snapshot_blocks.specs.Blocks.{version_in}
use Rattle.snapshot_blocks.proofs.Turns.{format_of_sound, start_le}
use Rattle.snapshot_blocks.proofs.start_in.Goals as goal

pub start_of-requires : goal.start_of-requires
start_of-requires c = (rw c.width_in-width.ensures (format_of_sound (version_in c.args.block.now)).narrow, omega (arith, c.min-place.ensures))

pub returns : goal.returns
returns c =
    let w = c.width_in-width in
    let k = c.min-place in
    let narrow : w.result ≤ 80 = rw w.ensures (format_of_sound (version_in c.args.block.now)).narrow in
    let few : k.result ≤ 20 = omega (arith, k.ensures) in (
      c.start_of.ensures ∙ ap (λ (x : ℕ). 8 + (16 + x) * k.result) w.ensures ∙ ap (λ (x : ℕ). 8 + row_length (format_of (version_in c.args.block.now)) * x) k.ensures,
      omega (arith, c.start_of.ensures, start_le w.result k.result narrow few),
    )
