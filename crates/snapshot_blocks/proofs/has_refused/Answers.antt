-- Version 1 refuses nothing that a row carries.
use mathlib.Core.Path.{sym, ◌∙◌}
use Rattle.list_parts.proofs.Ranges.{rest_part}
use Rattle.snapshot_blocks.proofs.Turns.{format_of_now}
use Rattle.snapshot_blocks.proofs.has_refused.Goals as goal

pub returns-then-version_in-eq-VERSION : goal.returns-then-version_in-eq-VERSION
returns-then-version_in-eq-VERSION c =
    let e = format_of_now _ (sym c.version_in.ensures ∙ c.if-version_in-eq-VERSION.true) in
    rw (rest_part c.args.block.now 8) at c.any_refused.ensures ∙ simp e
