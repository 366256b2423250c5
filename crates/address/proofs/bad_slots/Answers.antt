use borrow.Author.Tests.{lt-ltb, le-ltb}
use Rattle.address.specs.Address.{bad_slots}
use Rattle.address.proofs.bad_slots.Goals as goal

pub returns-then-slots-lt1 : goal.returns-then-slots-lt1
unfolding bad_slots
returns-then-slots-lt1 c = simp (lt-ltb _ _ c.if-slots-lt1.true)

pub returns-else-slots-lt1 : goal.returns-else-slots-lt1
unfolding bad_slots
returns-else-slots-lt1 c = simp (le-ltb _ _ c.if-slots-lt1.false)
