-- A location is at an address or nowhere. Assumes nothing.
use mathlib.Core.Path.{sym, ap, ◌∙◌}
use native.Mathlib.Omega.{arith}
use Prim.Native.Nat.{◌+◌, ◌*◌, pred}
use lib.ListN.{set}
use Rattle.std.proofs.Common.{rules, Ok}
use Rattle.address.proofs.Laws.{unpacked_at, none_unpacked, none_refused}
use Rattle.tables.proofs.LawsEntries.{start_lt}
use Rattle.batch_kept.proofs.Laws.{nowhere, somewhere}
use Rattle.commit.proofs.put_owner.Goals as goal

pub returns-in_default : goal.returns-in_default
returns-in_default c =
    let a = c.args in
    let t = a.owners.now in
    nowhere a.slots a.location c.requires (λ k j. set t (pred k * a.slots + j) a.id) t _ c.unpack.ensures (none_unpacked c.unpack.result (search rules))

pub returns-in_default-2 : goal.returns-in_default-2
returns-in_default-2 c =
    let a = c.args in
    let t = a.owners.now in
    nowhere a.slots a.location c.requires (λ k j. set t (pred k * a.slots + j) a.id) t _ c.unpack.ensures (none_refused c.unpack.result _ c.in_default.is)

pub overflow_mul-slab : goal.overflow_mul-slab
overflow_mul-slab c =
    let u = unpacked_at _ _ _ (sym c.unpack.ensures ∙ c.in-Ok-Some.is ∙ ap Ok c.in-Ok-Some.field-0-is) in
    omega (arith, start_lt _ _ u.slab_lt u.capacity)

pub returns : goal.returns
returns c =
    let a = c.args in
    let t = a.owners.now in
    let u = c.in-Ok-Some in
    c.put.ensures
    ∙ somewhere a.slots a.location c.requires (λ k j. set t (pred k * a.slots + j) a.id) t u.address (sym c.unpack.ensures ∙ u.is ∙ ap Ok u.field-0-is)
