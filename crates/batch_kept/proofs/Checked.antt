-- What a check's answer tells of the call that it checks, and what the call then answers and leaves. Assumes nothing.
use mathlib.Core.Bool.{Bool, true}
use mathlib.Core.Path.{◌≡◌, sym, ap, ◌∙◌}
use Prim.Native.Nat.{ℕ, pred}
use native.Mathlib.Omega.{arith}
use lib.ListN.{length, get_or}
use Rattle.refusal.specs.declared.Kind.{Kind}
use Rattle.refusal.specs.declared.Refusal.{Refusal}
use Rattle.model.specs.Store.{Row, Call}
use Rattle.refusal.specs.Outcomes.{granted, refused}
use Rattle.model.specs.Verdict.{ok, refuse, ◌⨾◌}
use Rattle.model.specs.Tables.{kept}
use Rattle.model.specs.Lending.{lending_of}
use Rattle.model.specs.Lent.{fits}
use Rattle.model.specs.Memory.{Memory, read, batch_words}
use Rattle.model.specs.MemoryAfter.{memory_effect, memory_after}
use Rattle.model.specs.Step.{refusal_of, refusal, grant, answer}
use Rattle.model.specs.Tests.{one_open}
use Rattle.model.proofs.Granted.{fits_rest, granted_rest}
use Rattle.model.proofs.Verdicts.{first_ok}
use Rattle.batch_kept.specs.Kept.{count_of, kept_from, rows_then, rows_as, first_bad}
use Rattle.batch_kept.proofs.Laws.{one_open_rows, one_open_few, count_of_count, kept_rows}
use Rattle.std.specs.Prelude.{Result, Ok, Err}

-- ---- once the lengths are right: the opened word, then the first bad row
module _ (m : Memory) (call : Call) (bad : Row → Bool) (fit : fits (lending_of call) m ≡ true) (long : length m.batch ≡ batch_words)
    (e : refusal_of (read m) call ≡ (one_open (read m) ⨾ first_bad bad 0 (kept (read m)))) where
  opened_then : (x : Result ℕ Refusal) → count_of m.batch ≡ x → refusal (read m) call ≡ rows_then x (first_bad bad 0 (kept (read m)))
  opened_then x q =
      fits_rest m call fit ∙ e ∙ one_open_rows m (first_bad bad 0 (kept (read m))) ∙ ap (λ y. rows_then y (first_bad bad 0 (kept (read m)))) q

  pub check_count : (n : ℕ) → count_of m.batch ≡ Ok n
      → rows_as (first_bad bad 0 (kept_from m.batch n 0)) n ≡ rows_as (refusal (read m) call) (pred (get_or m.batch 0 0))
  check_count n q =
      let z = count_of_count m.batch n q in
      let r = opened_then (Ok n) q ∙ ap (first_bad bad 0) (kept_rows m n long z.0 z.1) in
      λ i. rows_as (sym r i) (z.0 i)

  pub check_refused : (r : Refusal) (p : ℕ) → count_of m.batch ≡ Err r → Err r ≡ rows_as (refusal (read m) call) p
  check_refused r p q = sym (ap (λ v. rows_as v p) (opened_then (Err r) q))

  -- where nothing is refused, the kept rows are as many as the opened word says
  pub check_kept : refusal (read m) call ≡ ok → (n : ℕ) → n ≡ pred (get_or m.batch 0 0) → kept (read m) ≡ kept_from m.batch n 0
  check_kept g n q =
      let few = one_open_few m (first_ok (one_open (read m)) _ (sym e ∙ granted_rest (read m) call g)) in
      kept_rows m n long q (omega arith)

-- ---- refused, and granted
module _ (m : Memory) (call : Call) where
  pub refused_answer : (number : Kind) (index : ℕ) → refusal (read m) call ≡ refuse number index → answer (read m) call ≡ refused number index
  unfolding answer
  refused_answer number index e = rw e

  pub refused_after : (number : Kind) (index : ℕ) → refusal (read m) call ≡ refuse number index → memory_after m call ≡ m
  unfolding memory_after
  refused_after number index e = rw e

  pub granted_answer : refusal (read m) call ≡ ok → answer (read m) call ≡ granted (grant (read m) call)
  unfolding answer
  granted_answer e = rw e

  pub granted_after : refusal (read m) call ≡ ok → memory_after m call ≡ memory_effect m call
  unfolding memory_after
  granted_after e = rw e
