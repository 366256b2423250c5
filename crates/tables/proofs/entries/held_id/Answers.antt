use Rattle.std.proofs.Common.{◌∙◌, arith, le-ltb, lt-ltb}
use Rattle.tables.specs.Entries.{held_in}
use Rattle.tables.proofs.entries.held_id.Goals as goal

pub returns-then-id-lt1 : goal.returns-then-id-lt1
unfolding held_in
returns-then-id-lt1 c = simp (le-ltb 0 c.args.id (omega arith))

pub returns-then-ids-id : goal.returns-then-ids-id
unfolding held_in
returns-then-ids-id c = simp (lt-ltb _ _ c.if-id-lt1.false, le-ltb _ _ c.if-ids-id.true)

pub returns : goal.returns
unfolding held_in
returns c = c.is_held.ensures ∙ simp (lt-ltb _ _ c.if-id-lt1.false, lt-ltb _ _ c.if-ids-id.false, c.get-hint.ensures, c.get-waiting.ensures)
