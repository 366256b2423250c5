use borrow.Author.Tests.{le-leb, lt-leb}
use Rattle.sizes.specs.Sizes.{field_width}
use Rattle.sizes.proofs.field_width.Goals as goal

pub returns-then-s-le255 : goal.returns-then-s-le255
unfolding field_width
returns-then-s-le255 c = simp (le-leb _ _ c.if-s-le255.true)

pub returns-then-s-le65535 : goal.returns-then-s-le65535
unfolding field_width
returns-then-s-le65535 c = simp (lt-leb _ _ c.if-s-le255.false, le-leb _ _ c.if-s-le65535.true)

pub returns-then-s-le4294967295 : goal.returns-then-s-le4294967295
unfolding field_width
returns-then-s-le4294967295 c = simp (lt-leb _ _ c.if-s-le255.false, lt-leb _ _ c.if-s-le65535.false, le-leb _ _ c.if-s-le4294967295.true)

pub returns-else-s-le4294967295 : goal.returns-else-s-le4294967295
unfolding field_width
returns-else-s-le4294967295 c = simp (lt-leb _ _ c.if-s-le255.false, lt-leb _ _ c.if-s-le65535.false, lt-leb _ _ c.if-s-le4294967295.false)
