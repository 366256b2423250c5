-- Laws of exported answers. Assumes nothing.
use mathlib.Core.Path.{◌≡◌, refl, sym, ap, ◌∙◌}
use mathlib.Core.List.{List, [], ◌∷◌, ◌++◌, append-nil}
use Prim.Native.Nat.{ℕ, ◌+◌, ◌*◌, ◌^◌, ◌<◌}
use native.Mathlib.Omega.{arith}
use lib.ListN.{length, set, drop}
use lib.Seq.{sets, sets-eq, drop-length}
use borrow.Author.Tests.{eq-eqb, ne_eqb}
use Rattle.refusal.specs.Refusals.{number_of}
use Rattle.refusal.specs.declared.Kind.{Kind}
use Rattle.refusal.specs.Outcomes.{Values, refused, finished_outcome}
use Rattle.model.specs.Store.{Offer, offer, Answer}
use Rattle.model.specs.Batches.{taken_by, updates_in}
use Rattle.model.specs.Columns.{offered_column}
use Rattle.model.specs.Memory.{Memory, carrying, read}
use Rattle.model.specs.MemoryAfter.{with_kept, with_slots, memory_offer, memory_effect, memory_after}
use Rattle.model.specs.Outcomes.{outcome_of}
use Rattle.model.specs.Step.{refusal, unless}
use Rattle.model.specs.Verdict.{Verdict, ok, refuse}
use Rattle.lookup.specs.Lookup.{looked_answer}
use Rattle.lookup_page.specs.Page as Page
use Rattle.snapshot_writer.specs.Outcome as Written
use Rattle.exports_status.specs.Status.{status_of, values_in, exported}
use Rattle.exports.specs.Answers.{where_fits}
use Rattle.exports.specs.Pages.{ExportedPage, exported_page}
use Rattle.std.specs.Prelude.{Result, Ok, Err, ⊤}
use Rattle.refusal.specs.declared.Refusal.{Refusal}

-- an index below 2^56 comes back from a status
pub status_exact : (kind : Kind) (index : ℕ) → number_of kind < 256 → index < 2 ^ 56 → status_of (refused kind index) ≡ number_of kind + 256 * index
status_exact kind index h i = omega arith

module _ (n : ℕ) (lent : List ℕ) where
  pub exported_short : (o : Values) → (length lent ≡ n → ⊥) → record { status = 1; lent = lent } ≡ exported n o lent
  unfolding exported
  exported_short o h = simp (ne_eqb (length lent) n h)

  pub exported_is : (o : Values) (s : ℕ) (l : List ℕ) → length lent ≡ n → status_of o ≡ s → values_in o lent ≡ l → record { status = s; lent = l } ≡ exported n o lent
  unfolding exported
  exported_is o s l h p q = simp (eq-eqb (length lent) n h, p, q)

-- ---- a slice written word by word
pub all_words : (vs l : List ℕ) → length l ≡ length vs → vs ≡ sets l 0 vs
all_words vs l h =
    let z : 0 + length vs ≡ length l = omega arith in
    sym (sets-eq vs l 0 (omega arith) ∙ ap (λ n. vs ++ drop n l) z ∙ ap (λ (x : List ℕ). vs ++ x) (drop-length l) ∙ append-nil vs)

pub one_word : (l : List ℕ) (v : ℕ) → length l ≡ 1 → v ∷ [] ≡ set l 0 v
one_word l v h = all_words (v ∷ []) l h

-- ---- a store's answers

-- what an enum says is the outcome: so are its status and its values, once the enum is told
module _ {E : Type 0} (says : E → Values) (e e' : E) (o : Values) (p : says e ≡ o) (q : e ≡ e') where
  pub said_status : status_of (says e') ≡ status_of o
  said_status = ap status_of (sym (ap says q) ∙ p)

  pub said_exported :
      (n : ℕ) (lent : List ℕ) (s : ℕ) (l : List ℕ) → length lent ≡ n → status_of (says e') ≡ s → values_in (says e') lent ≡ l
      → record { status = s; lent = l } ≡ exported n o lent
  said_exported n lent s l h u v =
      let t : o ≡ says e' = sym p ∙ ap says q in
      exported_is n lent o s l h (ap status_of t ∙ u) (ap (λ (x : Values). values_in x lent) t ∙ v)

-- the same where it says the model's answer
module _ {E : Type 0} (says : E → Answer) (e e' : E) (a : Answer) (p : says e ≡ a) (q : e ≡ e') where
  pub told_status : status_of (outcome_of (says e')) ≡ status_of (outcome_of a)
  told_status = said_status (λ (x : E). outcome_of (says x)) e e' (outcome_of a) (ap outcome_of p) q

  pub told_exported :
      (n : ℕ) (lent : List ℕ) (s : ℕ) (l : List ℕ) → length lent ≡ n → status_of (outcome_of (says e')) ≡ s → values_in (outcome_of (says e')) lent ≡ l
      → record { status = s; lent = l } ≡ exported n (outcome_of a) lent
  told_exported = said_exported (λ (x : E). outcome_of (says x)) e e' (outcome_of a) (ap outcome_of p) q

-- a lookup's status and value do not depend on the row, which its other promise tells
pub looked_exported :
    (r r' : Result ℕ Refusal) (row left : List ℕ) (a : Answer) → row ≡ left → looked_answer r row ≡ a → r ≡ r' → (lent : List ℕ) (s : ℕ) (l : List ℕ) → length lent ≡ 1
    → status_of (outcome_of (looked_answer r' [])) ≡ s → values_in (outcome_of (looked_answer r' [])) lent ≡ l → record { status = s; lent = l } ≡ exported 1 (outcome_of a) lent
looked_exported r r' row left a k p q lent s l h u v =
    told_exported (λ (x : Result ℕ Refusal). looked_answer x row) r r' a p q 1 lent s l h (ap status_of (any r') ∙ u) (ap (λ (x : Values). values_in x lent) (any r') ∙ v)
  where
    any : (x : Result ℕ Refusal) → outcome_of (looked_answer x row) ≡ outcome_of (looked_answer x [])
    any (Ok location) = refl
    any (Err r) = refl

module _ {A : Type 0} (n : ℕ) (lent : List ℕ) (after before : A) where
  pub where_fits_fits : length lent ≡ n → after ≡ where_fits n lent after before
  unfolding where_fits
  where_fits_fits h = simp (eq-eqb (length lent) n h)

  pub where_fits_short : (length lent ≡ n → ⊥) → before ≡ where_fits n lent after before
  unfolding where_fits
  where_fits_short h = simp (ne_eqb (length lent) n h)

-- the status of a call that is done or refused, whatever else it answers
pub finished_status : (says : Result ⊤ Refusal → Answer) → ((x : Result ⊤ Refusal) → outcome_of (says x) ≡ finished_outcome x)
    → (x : Result ⊤ Refusal) (a : Answer) → says x ≡ a → status_of (finished_outcome x) ≡ status_of (outcome_of a)
finished_status says h x a p = ap status_of (sym (h x) ∙ ap outcome_of p)

-- a page's status is that of its outcome
pub page_exported :
    (o : Result ⊤ Refusal) (numbers locations carried : List ℕ) (l : Page.Left) (s : ℕ)
    → record { outcome = finished_outcome o; numbers = numbers; locations = locations; carried = carried } ≡ l → s ≡ status_of (finished_outcome o)
    → ◌≡◌ {A = ExportedPage} (record { status = s; numbers = numbers; locations = locations; carried = carried }) (exported_page l)
page_exported o numbers locations carried l s e u =
    (λ k. record { status = u k; numbers = numbers; locations = locations; carried = carried }) ∙ ap exported_page e

-- an offer changes four tables
pub offer_memory :
    (m : Memory) (o : Offer) (sm b t c : List ℕ) → sm ≡ (memory_after m (offer o)).slot_marks
    → b ≡ (memory_after m (offer o)).batch → t ≡ (memory_after m (offer o)).tallies → c ≡ (memory_after m (offer o)).carried
    → carrying (with_kept (with_slots m (record { marks = sm; words = t })) b) c ≡ memory_after m (offer o)
unfolding memory_after memory_effect
offer_memory m o sm b t c p q r x =
    (λ k. carrying (with_kept (with_slots m (record { marks = p k; words = r k })) (q k)) (x k)) ∙ go (refusal (read m) (offer o))
  where
    new : Memory
    new = carrying (memory_offer m o.ids (taken_by (read m) (updates_in o))) (offered_column m.ids o m.carried)

    go : (v : Verdict)
        → carrying (with_kept (with_slots m (record { marks = (unless v m new).slot_marks; words = (unless v m new).tallies })) (unless v m new).batch)
        (unless v m new).carried ≡ unless v m new
    go ok = refl
    go (refuse n i) = refl
