-- By what unpacks: no address is bad but for zero (bad_in_none), an address is where the id is not its owner (bad_in_at). Assumes nothing.
use Rattle.std.proofs.Common.{not, sym, ap, ◌∙◌, rules}
use Rattle.std.specs.Prelude.{Ok}
use Rattle.address.proofs.Laws.{none_unpacked, none_refused}
use Rattle.tables.proofs.LawsEntries.{bad_in_none, bad_in_at}
use Rattle.tables.proofs.entries.bad_location.Goals as goal
use Rattle.tables.proofs.entries.bad_location.Goals.{in_default-via-in-Ok+in_default, in_default-via-in_default}

pub returns-in_default : goal.returns-in_default
returns-in_default c =
    let u = c.unpack.result in
    let none = bad_in_none _ _ _ _ _ _ u c.unpack.ensures in
    elim c.in_default.branch [
      | in_default-via-in-Ok+in_default w ↦ sym (none (none_unpacked u (search rules)))
      | in_default-via-in_default w ↦ sym (none (none_refused u _ w.in_default.is))
    ]

pub returns : goal.returns
returns c =
    let u = c.in-Ok-Some in
    ap not c.is_owner.ensures ∙ sym (bad_in_at _ _ _ _ _ _ _ (sym c.unpack.ensures ∙ u.is ∙ ap Ok u.field-0-is))
