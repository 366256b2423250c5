-- `updates::kind` meets its contract: the slab is that of the class (class_of). Assumes nothing.
use mathlib.Core.Bool.{not}
use mathlib.Core.Path.{sym, ap, ◌∙◌}
use Rattle.offer_updates.proofs.Laws.{kind_of_free, kind_of_slab, kind_of_none}
use Rattle.offer_updates.proofs.kind.Goals as goal

pub returns-then-not-store : goal.returns-then-not-store
returns-then-not-store c = kind_of_free c.args.store c.args.length (ap not c.if-not-store.true)

pub returns-in-Ok : goal.returns-in-Ok
returns-in-Ok c = kind_of_slab c.args.store c.args.length _ (ap not c.if-not-store.false) (sym c.slab_for_size.ensures ∙ c.in-Ok.is)

pub returns-in-Err : goal.returns-in-Err
returns-in-Err c = kind_of_none c.args.store c.args.length _ (ap not c.if-not-store.false) (sym c.slab_for_size.ensures ∙ c.in-Err.is)
