-- The refusal of a commit in what the code reads: lengths, the opened word, the kept rows. Assumes nothing.
use mathlib.Core.Bool.{Bool, true, false, ◌||◌}
use mathlib.Core.Path.{◌≡◌, refl, sym, ap, ◌∙◌}
use mathlib.Core.List.{List, [], ◌∷◌}
use Prim.Native.Nat.{ℕ, zero, suc, ◌+◌, ◌*◌, ◌≤◌, pred}
use native.Mathlib.Nat.{zero-add}
use native.Mathlib.Omega.{arith}
use lib.ListN.{length, get_or, set}
use Rattle.refusal.specs.Outcomes.{granted}
use Rattle.refusal.specs.Refusals.{tables_disagree}
use Rattle.refusal.specs.Refusals as Refusals
use Rattle.refusal.specs.declared.Refusal.{Refusal}
use Rattle.address.specs.Address.{bad_slots, slabs}
use Rattle.carried.specs.Carried.{width, committed}
use Rattle.model.specs.Store as S
use Rattle.model.specs.Store.{Row}
use Rattle.model.specs.Verdict.{ok, refuse, ◌⨾◌}
use Rattle.model.specs.Tables.{most_updates, kept, bad_location}
use Rattle.model.specs.Batches.{bad_row}
use Rattle.model.specs.Columns.{committed_column}
use Rattle.model.specs.Memory.{Memory, memory_of, carrying, read}
use Rattle.model.specs.MemoryAfter.{with_kept, commit_row, commit_all, memory_effect, memory_after}
use Rattle.model.specs.Step.{refusal_of, refusal, grant, answer}
use Rattle.model.specs.Tests.{one_open}
use Rattle.tables.specs.Entries.{bad_in}
use Rattle.model.specs.Lending.{every_table}
use Rattle.model.specs.Lent.{fits}
use Rattle.model.proofs.Granted.{granted_fits, granted_rest}
use Rattle.model.proofs.Sizes.{fits_range, fits_slot_marks, fits_batch}
use Rattle.model.proofs.Verdicts.{first_ok}
use Rattle.tables.proofs.LawsEntries.{bad_in_read}
use Rattle.batch_kept.specs.Kept.{bad_kept, count_of, kept_from, rows_as, first_bad}
use Rattle.batch_kept.proofs.Laws.{bad_row_read, commit_rows_first, one_open_few, rows_as_count, rows_as_refused}
use Rattle.batch_kept.proofs.Checked.{check_count, check_refused, check_kept, granted_answer, granted_after}
use Rattle.commit.specs.Commit.{own_as, not_own, row_bad}
use Rattle.std.specs.Prelude.{Result, Ok, Err}

-- ---- one row
row_bad_read : (m : Memory) (r : Row) → bad_slots m.slots ≡ false → length m.slot_marks ≡ slabs * m.slots
    → (bad_row (read m) r || bad_location (read m) r.0) ≡ row_bad m.ids m.slots m.locations m.slot_marks m.owners m.tallies r
unfolding not_own read
row_bad_read m r c l = λ k. bad_row_read m r c k || sym (bad_in_read m r.0 (get_or m.locations r.0 0) c l) k

-- as it is read
pub not_own_read : (slots : ℕ) (locations marks owners words : List ℕ) (id old x y : ℕ) (r told : Bool) → id ≡ x → old ≡ get_or locations (0 + id) 0
    → r ≡ bad_in slots marks owners words id old → r ≡ told → not_own slots locations marks owners words (x, y) ≡ told
unfolding not_own
not_own_read slots locations marks owners words id old x y r told p q e h =
    let z : 0 + id ≡ id = zero-add id in
    (λ k. bad_in slots marks owners words (sym p k) (get_or locations (sym p k) 0))
    ∙ ap (λ o. bad_in slots marks owners words id o) (ap (λ a. get_or locations a 0) (sym z) ∙ sym q) ∙ sym e ∙ h

module _ (ids slots : ℕ) (locations marks owners words : List ℕ) (id l x y : ℕ) (r : Bool) (p : id ≡ x) (q : l ≡ y) (e : r ≡ bad_kept ids slots id l) where
  out_of_range : bad_kept ids slots x y ≡ r
  out_of_range = (λ k. bad_kept ids slots (sym p k) (sym q k)) ∙ sym e

  pub row_out : r ≡ true → row_bad ids slots locations marks owners words (x, y) ≡ true
  row_out h = ap (λ b. b || not_own slots locations marks owners words (x, y)) (out_of_range ∙ h)

  pub row_own : {told : Bool} → r ≡ false → not_own slots locations marks owners words (x, y) ≡ told → row_bad ids slots locations marks owners words (x, y) ≡ told
  row_own h o = λ k. (out_of_range ∙ h) k || o k

-- ---- what is said of a row
pub own_as_refused : (bad : Bool) (i : ℕ) (r : Refusal) → own_as bad i ≡ Err r → (bad ≡ true) × (r ≡ Refusals.refusal tables_disagree i)
own_as_refused true i r e = let q : Refusals.refusal tables_disagree i ≡ r = cc in (refl, sym q)
own_as_refused false i r e = let z : ◌≡◌ {A = ℕ} 0 1 = cc in absurd (omega arith)

pub own_as_passed : (bad : Bool) (i : ℕ) → own_as bad i ≡ (Ok tt) → bad ≡ false
own_as_passed true i e = let z : ◌≡◌ {A = ℕ} 0 1 = cc in absurd (omega arith)
own_as_passed false i e = refl

-- ---- the rows leave what they carry to others
abbrev bare : Memory → Memory
bare m = memory_of m.ids m.slots m.id_marks m.locations m.slot_marks m.owners m.batch m.tallies

commit_row_carrying : (m : Memory) (t : List ℕ) (i l o : ℕ) → commit_row (carrying m t) i l o ≡ carrying (commit_row m i l o) t
commit_row_carrying m t i zero o = refl
commit_row_carrying m t i (suc l) o = refl

commit_all_carrying : (m : Memory) (t : List ℕ) (rs : List Row) → commit_all (carrying m t) rs ≡ carrying (commit_all m rs) t
commit_all_carrying m t [] = refl
commit_all_carrying m t (r ∷ rs) =
    let o = get_or m.locations r.0 0 in
    ap (λ (x : Memory). commit_all x rs) (commit_row_carrying m t r.0 r.1 o) ∙ commit_all_carrying (commit_row m r.0 r.1 o) t rs

-- ---- the refusal
module _ (m : Memory) where
  abbrev bad : Row → Bool
  bad = row_bad m.ids m.slots m.locations m.slot_marks m.owners m.tallies

  commit_rows : fits every_table m ≡ true → refusal_of (read m) S.commit ≡ (one_open (read m) ⨾ first_bad bad 0 (kept (read m)))
  unfolding refusal_of
  commit_rows e =
      ap (λ v. one_open (read m) ⨾ v)
      (commit_rows_first (read m) bad (λ r. row_bad_read m r (fits_range every_table m e).slots_good (fits_slot_marks every_table m e)) 0 (kept (read m)))

  pub commit_count : fits every_table m ≡ true → (n : ℕ) → count_of m.batch ≡ Ok n
      → rows_as (first_bad bad 0 (kept_from m.batch n 0)) n ≡ rows_as (refusal (read m) S.commit) (pred (get_or m.batch 0 0))
  commit_count e n q = check_count m S.commit bad e (fits_batch every_table m e) (commit_rows e) n q

  pub commit_refused : fits every_table m ≡ true → (r : Refusal) (p : ℕ) → count_of m.batch ≡ Err r
      → Err r ≡ rows_as (refusal (read m) S.commit) p
  commit_refused e r p q = check_refused m S.commit bad e (fits_batch every_table m e) (commit_rows e) r p q

  -- the check's answer, read back: it counted, or it refused
  pub check_counted : (r : Result ℕ Refusal) (n : ℕ) → r ≡ rows_as (refusal (read m) S.commit) (pred (get_or m.batch 0 0)) → r ≡ Ok n
      → (refusal (read m) S.commit ≡ ok) × (n ≡ pred (get_or m.batch 0 0))
  check_counted r n e q = rows_as_count _ _ n (sym e ∙ q)

  pub check_told : (r : Result ℕ Refusal) (f : Refusal) → r ≡ rows_as (refusal (read m) S.commit) (pred (get_or m.batch 0 0)) → r ≡ Err f
      → refusal (read m) S.commit ≡ refuse f.kind f.index
  check_told r f e q = rows_as_refused _ _ f (sym e ∙ q)

  -- ---- where nothing is refused
  module _ (e : refusal (read m) S.commit ≡ ok) where
    pub commit_done : answer (read m) S.commit ≡ granted S.done
    unfolding grant
    commit_done = granted_answer m S.commit e

    commit_after : (n : ℕ) → n ≡ pred (get_or m.batch 0 0)
        → memory_after m S.commit
        ≡ carrying (with_kept (commit_all m (kept_from m.batch n 0)) (set m.batch 0 0)) (committed width m.ids (kept_from m.batch n 0) m.carried)
    unfolding memory_effect committed_column
    commit_after n q =
        let f = granted_fits m S.commit e in
        granted_after m S.commit e
        ∙ ap (λ (rs : List Row). carrying (with_kept (commit_all m rs) (set m.batch 0 0)) (committed width m.ids rs m.carried))
        (check_kept m S.commit bad f (fits_batch every_table m f) (commit_rows f) e n q)

    -- there are at most 256 rows
    pub commit_few : (n : ℕ) → n ≡ pred (get_or m.batch 0 0) → n ≤ most_updates
    unfolding refusal_of
    commit_few n q = let few = one_open_few m (first_ok (one_open (read m)) _ (granted_rest (read m) S.commit e)) in omega (arith, few)

    -- the rows are applied, what they carry is settled, and then the batch is closed
    pub commit_leaves : (n : ℕ) (rows : Memory) (closed column : List ℕ) → n ≡ pred (get_or m.batch 0 0) → rows ≡ commit_all (bare m) (kept_from m.batch n 0)
        → closed ≡ set m.batch 0 0 → column ≡ committed width m.ids (kept_from m.batch n 0) m.carried
        → carrying (with_kept rows closed) column ≡ memory_after m S.commit
    commit_leaves n rows closed column q a b d =
        (λ k. carrying (with_kept (a k) (b k)) (d k))
        ∙ ap (λ (x : Memory). carrying (with_kept x (set m.batch 0 0)) (committed width m.ids (kept_from m.batch n 0) m.carried))
        (sym (commit_all_carrying (bare m) m.carried (kept_from m.batch n 0)))
        ∙ sym (commit_after n q)
