-- Request 2026-05: what is promised of a cut. Statements; proofs/Cuts.antt has the proofs, each under the name said beside it. Assumes nothing.
use Rattle.std.specs.Prelude.{◌≡◌, ℕ, suc, ◌+◌, ◌*◌, ◌<◌, ◌≤◌, max, pred}
use Rattle.refusal.specs.Outcomes.{granted, refused}
use Rattle.refusal.specs.Refusals.{nothing_to_cut}
use Rattle.sizes.specs.Sizes.{size_of}
use Rattle.model.specs.Store.{Store, Cut, keep, cut, done, truncated, Answer, truncation, report}
use Rattle.model.specs.Tables.{slab_tip}
use Rattle.model.specs.Truncation.{high_mark, bytes_to, fill, target_length, new_length, cut_of}
use Rattle.model.specs.Step.{answer, next}

-- the new length is a whole number of slots, has room for every slot in use and is below the length before; the bytes given back are above 0 and,
-- with the new length, make the length before
pub record WholeCut (size top high length back : ℕ) : Type 0 where
  pub slots : ℕ
  pub whole : length ≡ slots * size
  pub covers : suc top ≤ slots
  pub below : length < bytes_to size high
  pub gives : 0 < back
  pub together : length + back ≡ bytes_to size high

-- so is every cut, by the slab's size, its top, its high mark and t (cut_whole)
abbrev pub CutWhole : Type 0
CutWhole = (size top high t length back : ℕ) → 1 ≤ size → cut_of size top high t ≡ cut length back → WholeCut size top high length back

-- and so is every cut that a store answers, whatever its tables hold (answer_whole)
abbrev pub AnswerWhole : Type 0
AnswerWhole = (s : Store) (k t length back : ℕ) → answer s (truncation k t) ≡ granted (truncated (cut length back))
    → WholeCut (size_of k) (pred (slab_tip s k)) (max (high_mark s k) (pred (slab_tip s k))) length back

-- no fewer bytes than the target, and less than a slot more (rounded_up)
abbrev pub RoundedUp : Type 0
RoundedUp = (size top : ℕ) → 1 ≤ size → (target_length size top ≤ new_length size top) × (new_length size top < target_length size top + size)

-- where less than t percent is in use, rounding alone can leave nothing to cut: the target is below the length before (target_below)
abbrev pub TargetBelow : Type 0
TargetBelow = (size top high t : ℕ) → 1 ≤ size → t ≤ 86 → fill size top high < t → target_length size top < bytes_to size high

-- a done report after an answer: 17 after keep (report_after)
abbrev pub report_answer : Cut → Answer
report_answer keep = refused nothing_to_cut 0
report_answer (cut length back) = granted done

abbrev pub ReportAfter : Type 0
ReportAfter = (s : Store) (k t : ℕ) (c : Cut) → answer s (truncation k t) ≡ granted (truncated c)
    → answer (next s (truncation k t)) (report k t) ≡ report_answer c
