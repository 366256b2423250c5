-- That an outcome tells which answer it is: two answers of one outcome are one. Each crate has the law of its own answers, named after their
-- outcome, with -one. It is enough to read the answer back. Assumes nothing.
use mathlib.Core.Bool.{Bool, true, false}
use mathlib.Core.List.{[], ◌∷◌}
use mathlib.Core.Path.{◌≡◌, refl, sym, ap, ◌∙◌}
use Prim.Native.Nat.{ℕ, ◌-◌}
use lib.ListN.{get_or}
use Rattle.std.proofs.Math.Bool.{Bool-set}
use Rattle.std.specs.Prelude.{Result, Ok, Err, ⊤}
use Rattle.refusal.specs.Outcomes.{Outcome, granted, refused, outcome_by, finished_outcome}
use Rattle.refusal.specs.Refusals.{refusal, number_of}
use Rattle.refusal.specs.Numbers.{is_unlisted}
use Rattle.refusal.specs.declared.Unlisted.{Unlisted}
use Rattle.refusal.specs.declared.Refusal.{Refusal}
use Rattle.refusal.specs.declared.Kind.{Kind}
use Rattle.refusal.specs.declared.Kind.TheVariants as K
use Rattle.refusal.proofs.Tests.{clash}

-- what is read back everywhere is one-to-one
pub one_by : {A B : Type 0} (f : A → B) (back : B → A) → ((a : A) → back (f a) ≡ a) → (a b : A) → f a ≡ f b → a ≡ b
one_by f back h a b e = sym (h a) ∙ ap back e ∙ h b

-- an answer read back from what is granted, or from the refusal
abbrev pub read_back : {A B : Type 0} → (B → A) → Outcome B → Result A Refusal
read_back grants (granted b) = Ok (grants b)
read_back grants (refused kind index) = Err (refusal kind index)

-- the law of all answers, by how what is granted is read back
pub outcome_one : {A B : Type 0} (says : A → B) (grants : B → A) → ((a : A) → grants (says a) ≡ a)
    → (a b : Result A Refusal) → outcome_by says a ≡ outcome_by says b → a ≡ b
outcome_one says grants h = one_by (outcome_by says) (read_back grants) λ r. elim r as (λ k. read_back grants (outcome_by says k) ≡ k) [ Ok a ↦ ap Ok (h a) | Err r ↦ refl ]

pub finished_outcome_one : (a b : Result ⊤ Refusal) → finished_outcome a ≡ finished_outcome b → a ≡ b
finished_outcome_one = outcome_one (λ _. []) (λ _. tt) (λ a. refl)

-- ---- a kind by its number
abbrev listed : ℕ → Kind
listed n = get_or (K.WrongShape ∷ K.TooLarge ∷ K.OutOfRange ∷ K.CheckDiffers ∷ K.TooLong ∷ K.UnknownVersion ∷ K.FanoutDiffers ∷ K.NoSuchId ∷ K.RepeatedId ∷ K.NoneFree ∷ K.BatchOpen ∷ K.NoBatch ∷ K.TablesDisagree ∷ K.RatioOutOfRange ∷ K.TooMany ∷ K.RepeatedLocation ∷ K.NothingToCut ∷ K.GapNotZero ∷ K.WrongBlock ∷ K.WrongEnd ∷ K.KeyTooLong ∷ K.SettingsDiffer ∷ K.BadMove ∷ K.NoFace ∷ K.BadFace ∷ K.TotalsRefused ∷ []) (n - 1) K.TotalsRefused

-- by whether the number is unlisted
abbrev kind_where : (n : ℕ) (b : Bool) → is_unlisted n ≡ b → Kind
kind_where n true h = K.Unlisted (record { number = n; unlisted = h })
kind_where n false h = listed n

abbrev pub kind_of : ℕ → Kind
kind_of n = kind_where n (is_unlisted n) refl

-- one number is unlisted in one way
kind_where_unlisted : (u : Unlisted) (b : Bool) (h : is_unlisted u.number ≡ b) → b ≡ true → kind_where u.number b h ≡ K.Unlisted u
kind_where_unlisted u true h e = λ k. K.Unlisted (record { number = u.number; unlisted = Bool-set (is_unlisted u.number) true h u.unlisted k })
kind_where_unlisted u false h e = clash (sym e)

pub kind_of_number : (k : Kind) → kind_of (number_of k) ≡ k
kind_of_number K.WrongShape = refl
kind_of_number K.TooLarge = refl
kind_of_number K.OutOfRange = refl
kind_of_number K.CheckDiffers = refl
kind_of_number K.TooLong = refl
kind_of_number K.UnknownVersion = refl
kind_of_number K.FanoutDiffers = refl
kind_of_number K.NoSuchId = refl
kind_of_number K.RepeatedId = refl
kind_of_number K.NoneFree = refl
kind_of_number K.BatchOpen = refl
kind_of_number K.NoBatch = refl
kind_of_number K.TablesDisagree = refl
kind_of_number K.RatioOutOfRange = refl
kind_of_number K.TooMany = refl
kind_of_number K.RepeatedLocation = refl
kind_of_number K.NothingToCut = refl
kind_of_number K.GapNotZero = refl
kind_of_number K.WrongBlock = refl
kind_of_number K.WrongEnd = refl
kind_of_number K.KeyTooLong = refl
kind_of_number K.SettingsDiffer = refl
kind_of_number K.BadMove = refl
kind_of_number K.NoFace = refl
kind_of_number K.BadFace = refl
kind_of_number K.TotalsRefused = refl
kind_of_number (K.Unlisted u) = kind_where_unlisted u (is_unlisted u.number) refl u.unlisted

-- two kinds of one number are one
pub number_one : (a b : Kind) → number_of a ≡ number_of b → a ≡ b
number_one = one_by number_of kind_of kind_of_number
