use mathlib.Core.Path.{sym, ◌∙◌}
use lib.Seq.{length-take-le}
use borrow.Author.Tests.{eq-eqb, ne_eqb, lt-ltb, le-ltb, not-true, not-false}
use Rattle.settings.specs.Settings.{settings_of}
use borrow.Author.Rules.{rules}
use Rattle.settings.proofs.PersistentSettings.deserialize.Goals as goal

pub returns-then-cookie-lt-COOKIE_LENGTH : goal.returns-then-cookie-lt-COOKIE_LENGTH
unfolding settings_of
returns-then-cookie-lt-COOKIE_LENGTH c = simp (lt-ltb _ _ c.if-cookie-lt-COOKIE_LENGTH.true, c.of.ensures)

pub slice_bounds-agrees-end : goal.slice_bounds-agrees-end
slice_bounds-agrees-end c = sym (length-take-le 64 c.args.cookie.now (search rules))

pub returns-then-not-agrees : goal.returns-then-not-agrees
unfolding settings_of
returns-then-not-agrees c = simp (le-ltb _ _ c.if-cookie-lt-COOKIE_LENGTH.false, sym c.agrees.ensures ∙ not-true _ c.if-not-agrees.true-raw, c.of-then-not-agrees.ensures)

pub returns-then-get_at-ne-VERSION : goal.returns-then-get_at-ne-VERSION
unfolding settings_of
returns-then-get_at-ne-VERSION c =
    let other = rw c.get_at.ensures at (ne_eqb _ _ c.if-get_at-ne-VERSION.true) in
    simp (le-ltb _ _ c.if-cookie-lt-COOKIE_LENGTH.false, sym c.agrees.ensures ∙ not-false _ c.if-not-agrees.false-raw, other, c.of-then-get_at-ne-VERSION.ensures)

pub returns : goal.returns
unfolding settings_of
returns c =
    let first = rw c.get_at.ensures at (eq-eqb _ _ c.if-get_at-ne-VERSION.false) in
    simp (le-ltb _ _ c.if-cookie-lt-COOKIE_LENGTH.false, sym c.agrees.ensures ∙ not-false _ c.if-not-agrees.false-raw, first, c.get_at-2.ensures)
