-- The law of the two levels: what is read from the memory after a call is the store after it, for every call and any contents. So whoever
-- believes the store's rules and `read` need not look at hints and waiting words. Assumes nothing.
use mathlib.Core.Path.{◌≡◌, refl, ap, subst}
use mathlib.Core.Bool.{Bool, true}
use mathlib.Core.List.{[]}
use Prim.Native.Nat.{pred}
use Rattle.model.specs.Batches.{updates_in}
use Rattle.model.specs.Lending.{Lending, lending_of}
use Rattle.model.specs.Lent.{fits}
use Rattle.model.specs.Memory.{Memory, read}
use Rattle.model.specs.MemoryAfter.{slots_of, memory_effect, memory_after}
use Rattle.model.specs.Rebuild.{rows_in}
use Rattle.model.specs.Columns.{offered_column, committed_column, rebuilt_column}
use Rattle.model.specs.Step.{effect, refusal, next, unless}
use Rattle.model.specs.Store.{with_carried, Call, new_id, release, offer, commit, abandon, fresh, rebuild, ask, truncation, report}
use Rattle.model.specs.Tables.{slab_tip, kept}
use Rattle.model.specs.Verdict.{ok, Verdict, refuse}
use Rattle.model.proofs.Batches.{ids_updates_of}
use Rattle.model.proofs.Granted.{granted_fits, offer_granted}
use Rattle.model.proofs.ReadAbandon.{read_abandon}
use Rattle.model.proofs.ReadCommit.{read_commit}
use Rattle.model.proofs.ReadOffer.{read_offer}
use Rattle.model.proofs.ReadIds.{read_new_id, read_rebuilt, read_raise, high_words_lem}
use Rattle.model.proofs.ReadRelease.{read_release}
use Rattle.model.proofs.Sizes.{When, fits_range, fits_slot_marks, fits_batch, fits_tallies}
use Rattle.model.proofs.Steps.{Fits}

-- a call that is lent slots and tallies
pub slots_fit : (l : Lending) (m : Memory) → fits l m ≡ true → l.slot_marks ≡ true → l.tallies ≡ true → Fits m.slots (slots_of m)
slots_fit l m e p q = record {
  low = (fits_range l m e).slots_from;
  high = (fits_range l m e).slots_to;
  marks_long = lent p (fits_slot_marks l m e);
  words_long = lent q (fits_tallies l m e);
}
  where
    lent : {b : Bool} {A : Type 0} → b ≡ true → When b A → A
    lent {b} {A} e x = subst (λ y. When y A) e x

pub read_effect : (m : Memory) (c : Call) → refusal (read m) c ≡ ok → read (memory_effect m c) ≡ effect (read m) c
unfolding effect memory_effect read
read_effect m new_id e = read_new_id m (fits_tallies (lending_of new_id) m (granted_fits m new_id e))
read_effect m release e = read_release m (slots_fit (lending_of release) m (granted_fits m release e) refl refl)
read_effect m (offer o) e =
    let f = granted_fits m (offer o) e in
    let g = offer_granted (read m) o e in
    ap (λ s. with_carried s (offered_column m.ids o m.carried))
    (read_offer m o.ids (updates_in o) (slots_fit (lending_of (offer o)) m f refl refl) (fits_batch (lending_of (offer o)) m f) g.few
    (ids_updates_of o.ids o.stores o.lengths g.stores g.lengths))
read_effect m commit e =
    ap (λ s. with_carried s (committed_column m.ids (kept (read m)) m.carried))
    (read_commit m (slots_fit (lending_of commit) m (granted_fits m commit e) refl refl))
read_effect m abandon e = read_abandon m (slots_fit (lending_of abandon) m (granted_fits m abandon e) refl refl)
read_effect m fresh e = read_rebuilt m.ids m.slots []
read_effect m (rebuild rs) e = ap (λ s. with_carried s (rebuilt_column m.ids rs)) (read_rebuilt m.ids m.slots (rows_in rs))
read_effect m (ask q) e = refl
read_effect m (truncation k t) e = read_raise m k (slab_tip (read m) k)
read_effect m (report k t) e = high_words_lem m k (pred (slab_tip (read m) k))

pub read_after : (m : Memory) (c : Call) → read (memory_after m c) ≡ next (read m) c
unfolding memory_after next
read_after m c = go (refusal (read m) c) refl
  where
    go : (w : Verdict) → refusal (read m) c ≡ w → read (unless w m (memory_effect m c)) ≡ unless w (read m) (effect (read m) c)
    go ok e = read_effect m c e
    go (refuse n i) e = refl
