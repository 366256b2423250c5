-- What unpacks to an address is a location. Assumes nothing.
use Rattle.std.proofs.Common.{sym, ap, ◌∙◌, refl, false, rules, Ok}
use Rattle.address.proofs.Laws.{none_unpacked, none_refused}
use Rattle.tables.proofs.LawsEntries.{else_is}
use Rattle.rebuild_rows.proofs.Turns.{is_at, is_at_unpacked}
use Rattle.rebuild_rows.proofs.is_location.Goals as goal

pub returns-in-Ok-Some : goal.returns-in-Ok-Some
returns-in-Ok-Some c =
    let u = c.in-Ok-Some in
    sym (ap is_at (u.is ∙ ap Ok u.field-0-is)) ∙ ap is_at c.unpack.ensures ∙ is_at_unpacked c.args.slots c.args.location c.requires

pub returns-in_default : goal.returns-in_default
returns-in_default c =
    let u = c.unpack.result in
    sym (else_is is_at false refl (λ r. refl) u (none_unpacked u (search rules))) ∙ ap is_at c.unpack.ensures ∙ is_at_unpacked c.args.slots c.args.location c.requires

pub returns-in_default-2 : goal.returns-in_default-2
returns-in_default-2 c =
    let u = c.unpack.result in
    sym (else_is is_at false refl (λ r. refl) u (none_refused u _ c.in_default.is)) ∙ ap is_at c.unpack.ensures ∙ is_at_unpacked c.args.slots c.args.location c.requires
