use borrow.Author.Tests.{eq-eqb, ne_eqb}
use Rattle.settings.specs.Settings.{storing}
use Rattle.settings.proofs.Laws.{written}
use Rattle.settings.proofs.PersistentSettings.serialize.Goals as goal

pub returns-then-cookie-ne-COOKIE_LENGTH : goal.returns-then-cookie-ne-COOKIE_LENGTH
unfolding storing
returns-then-cookie-ne-COOKIE_LENGTH c = simp (ne_eqb _ _ c.if-cookie-ne-COOKIE_LENGTH.true, c.of.ensures)

pub returns : goal.returns
unfolding storing
returns c =
    let a = c.args in
    let n = c.if-cookie-ne-COOKIE_LENGTH.false in
    let done = written a.cookie.now _ _ _ c.write.new.bytes a.leaf_fanout n c.put_at.ensures c.put_at-2.ensures c.put_at-3.ensures c.write.ensures in
    simp (eq-eqb _ _ n, done)
