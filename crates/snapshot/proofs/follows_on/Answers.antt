-- The block before is of the same version (`follows_other`), and full, so that its last row is the last of which it has room (`follows_same`).
use mathlib.Core.Path.{sym, ap, ◌∙◌}
use Prim.Native.Nat.{ℕ, ◌-◌}
use native.Mathlib.Omega.{arith}
use borrow.Author.Tests.{ne_eqb}
use Rattle.snapshot_blocks.specs.Formats.{format_of}
use Rattle.snapshot_blocks.specs.Blocks.{version_in}
use Rattle.snapshot_blocks.proofs.Blocks.{per_block_some}
use Rattle.snapshot_blocks.proofs.Turns.{format_of_sound}
use Rattle.snapshot.proofs.Turns.{follows_other, follows_same}
use Rattle.snapshot.proofs.follows_on.Goals as goal

pub overflow_sub-last : goal.overflow_sub-last
overflow_sub-last c =
    let v = version_in c.args.block.now in
    omega (arith, c.most_in-last.ensures, per_block_some (format_of v) (format_of_sound v).narrow)

pub returns-then-version_in : goal.returns-then-version_in
returns-then-version_in c =
    let a = c.args in
    let e = sym c.version_in.ensures ∙ c.if-version_in.true ∙ c.version_in-2.ensures in
    follows_same a.before.now a.block.now c.requires _ _ _ e (ap (λ (x : ℕ). x - 1) c.most_in-last.ensures) c.id_at.ensures c.id_at-then-version_in.ensures

pub returns-else-version_in : goal.returns-else-version_in
returns-else-version_in c =
    ne_eqb _ _ c.if-version_in.false
    ∙ follows_other _ _ c.requires (λ e. c.if-version_in.false (c.version_in.ensures ∙ e ∙ sym c.version_in-2.ensures))
