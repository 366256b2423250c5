-- A page in what the code reads and writes: one turn of the loop, the lists after the last, and the answer. Assumes nothing.
use mathlib.Core.Bool.{Bool, true, false, not, ◌&&◌}
use mathlib.Core.List.{List, [], ◌∷◌, ◌++◌, map, append-nil, append_assoc}
use mathlib.Core.Path.{◌≡◌, refl, sym, ap, ◌∙◌}
use Prim.Native.Nat.{ℕ, suc, ◌+◌, ◌*◌, ◌≤◌, ◌<◌}
use native.Mathlib.Nat.{zero-add, suc-mul, zero-mul}
use native.Mathlib.Numerals.{add-one}
use native.Mathlib.Omega.{arith}
use lib.Dec.{ltb}
use lib.ListN.{length, get_or, set, take, drop, length-append, length-map, drop_of_length-le, length-replicate}
use lib.Seq.{sets, sets-eq, drop-cons, take_all, take_at, length-take-le}
use borrow.Author.Tests.{eqb-true, lt-ltb, le-ltb}
use Rattle.refusal.specs.Outcomes.{granted, refused}
use Rattle.refusal.specs.declared.Kind.{Kind}
use Rattle.refusal.specs.Refusals.{wrong_shape, too_many}
use Rattle.refusal.specs.declared.Refusal.{Refusal}
use Rattle.refusal.proofs.Tests.{and_true}
use Rattle.list_parts.specs.Parts.{part}
use Rattle.list_parts.proofs.Parts.{part_end, length_part_full}
use Rattle.carried.specs.Carried.{width, row_in, put_row}
use Rattle.carried.proofs.Laws.{row_in_part, put_row_done, length_put_row}
use Rattle.lookup.specs.Lookup.{located_as, looked_in}
use Rattle.lookup.proofs.Laws.{looked_at, unfound_read, found_within, over_whole}
use Rattle.model.specs.Lending.{row_tables}
use Rattle.model.specs.Lent.{fits}
use Rattle.model.specs.Memory.{Memory, read}
use Rattle.model.specs.Columns.{carries_for}
use Rattle.model.specs.Outcomes.{over, told_carried}
use Rattle.model.specs.Questions.{most_asked, told_by, told_of, ask_refusal, reply}
use Rattle.model.specs.Step as S
use Rattle.model.specs.Step.{answer, answer_by, refusal_of, grant}
use Rattle.model.specs.Store.{Page, Told, Call, ask, lookups, told}
use Rattle.model.specs.Tests.{lists, as_long}
use Rattle.model.specs.Verdict.{Verdict, ok, refuse, test, ◌⨾◌}
use Rattle.model.proofs.Sizes.{shape_read}
use Rattle.model.proofs.Verdicts.{tests_join}
use Rattle.lookup_page.specs.Page.{Left, left_by}
use Rattle.lookup_page.specs.Rows.{told_as, told_in, put_number, put_location, put_carried, written}
use Rattle.std.specs.Prelude.{Result}

-- ---- one row

-- what the code reads of one id
pub told_row : (ids slots : ℕ) (id_marks locations slot_marks owners words carried : List ℕ) (i : ℕ) (looked : Result ℕ Refusal) (row : List ℕ)
    → looked ≡ located_as (looked_in ids slots id_marks locations slot_marks owners words i) (get_or locations i 0) → row ≡ row_in width carried i
    → told_as looked row ≡ told_in ids slots id_marks locations slot_marks owners words carried i
unfolding told_in
told_row ids slots id_marks locations slot_marks owners words carried i looked row e r = λ k. told_as (e k) (r k)

-- ---- the loop, for any of the lists

module _ (put : List ℕ → ℕ → Told → List ℕ) (f : ℕ → Told) (asked t : List ℕ) (p : ℕ) where
  pub written_turn : p < length asked → (after : List ℕ) → after ≡ put t p (f (get_or asked p 0))
      → written put after (p + 1) (map f (drop (p + 1) asked)) ≡ written put t p (map f (drop p asked))
  unfolding written
  written_turn h after e =
      (λ k. written put (e k) (add-one p k) (map f (drop (add-one p k) asked))) ∙ ap (λ (is : List ℕ). written put t p (map f is)) (sym (drop-cons asked p 0 h))

  pub written_end : length asked ≤ p → written put t p (map f (drop p asked)) ≡ t
  unfolding written
  written_end h = ap (λ (is : List ℕ). written put t p (map f is)) (drop_of_length-le asked h)

-- ---- the lists after it

-- numbers and locations
written_sets : (g : Told → ℕ) (t : List ℕ) (p : ℕ) (xs : List Told) → written (λ u q x. set u q (g x)) t p xs ≡ sets t p (map g xs)
unfolding written
written_sets g t p [] = refl
written_sets g t p (x ∷ xs) = written_sets g (set t p (g x)) (suc p) xs

pub written_all : (g : Told → ℕ) (t : List ℕ) (xs : List Told) → length t ≡ length (map g xs) → written (λ u q x. set u q (g x)) t 0 xs ≡ over (map g xs) t
written_all g t xs e = written_sets g t 0 xs ∙ sets-eq (map g xs) t 0 (omega arith) ∙ ap (λ n. map g xs ++ drop n t) (zero-add (length (map g xs)))

-- and what rows carry, over any width
abbrev AllWide : ℕ → List Told → Type 0
AllWide w [] = Unit
AllWide w (x ∷ xs) = (length x.carried ≡ w) × AllWide w xs

take_next : (w : ℕ) (t : List ℕ) (p : ℕ) (r : List ℕ) → p * w + w ≤ length t → length r ≡ w → take (suc p * w) (put_row w t p r) ≡ take (p * w) t ++ r
take_next w t p r h e =
    let n : length (take (p * w) t) ≡ p * w = length-take-le (p * w) t (omega arith) in
    let l : length (take (p * w) t ++ r) ≡ suc p * w = length-append (take (p * w) t) r ∙ omega (arith, n, e, suc-mul p w) in
    ap (take (suc p * w)) (put_row_done w t p r h e ∙ sym (append_assoc (take (p * w) t) r _)) ∙ take_at (take (p * w) t ++ r) _ (suc p * w) l

written_rows : (w : ℕ) (t : List ℕ) (p : ℕ) (xs : List Told) → length t ≡ (p + length xs) * w → AllWide w xs
    → written (λ u q x. put_row w u q x.carried) t p xs ≡ take (p * w) t ++ told_carried xs
unfolding written
written_rows w t p [] h wide =
    let z : p + 0 ≡ p = omega arith in
    let l : length t ≡ p * w = h ∙ ap (λ n. n * w) z in
    sym (append-nil (take (p * w) t) ∙ take_all (p * w) t (omega arith))
written_rows w t p (x ∷ xs) h wide =
    let z : p + suc (length xs) ≡ suc p + length xs = omega arith in
    let b : p * w + w ≤ length t = rw h (part_end w (p + suc (length xs)) p (omega arith)) in
    written_rows w (put_row w t p x.carried) (suc p) xs (length_put_row w t p x.carried ∙ h ∙ ap (λ n. n * w) z) wide.1
    ∙ ap (λ (y : List ℕ). y ++ told_carried xs) (take_next w t p x.carried b wide.0) ∙ append_assoc (take (p * w) t) x.carried (told_carried xs)

length_carried : (w : ℕ) (xs : List Told) → AllWide w xs → length (told_carried xs) ≡ length xs * w
length_carried w [] wide = sym (zero-mul w)
length_carried w (x ∷ xs) wide =
    length-append x.carried (told_carried xs) ∙ omega (arith, wide.0, length_carried w xs wide.1, suc-mul (length xs) w)

written_carried : (w : ℕ) (t : List ℕ) (xs : List Told) → length t ≡ length xs * w → AllWide w xs → written (λ u q x. put_row w u q x.carried) t 0 xs ≡ over (told_carried xs) t
written_carried w t xs h wide =
    let z : 0 * w ≡ 0 = zero-mul w in
    written_rows w t 0 xs (h ∙ ap (λ n. n * w) (sym (zero-add (length xs)))) wide ∙ ap (λ n. take n t ++ told_carried xs) z ∙ sym (over_whole (told_carried xs) t (length_carried w xs wide ∙ sym h))

-- ---- one row of tables that fit

module _ (m : Memory) (f : fits row_tables m ≡ true) where
  abbrev Row : ℕ → Told
  Row = told_in m.ids m.slots m.id_marks m.locations m.slot_marks m.owners m.tallies m.carried

  row_read : (i : ℕ) → Row i ≡ told_of (read m) i
  unfolding told_in read
  row_read i =
      let l = get_or m.locations i 0 in
      let c = part width m.carried i in
      go (looked_at m i) (λ o. row_in_part width m.carried i (found_within m f i o)) ∙ ap (λ v. told_by v l c) (sym (unfound_read m f i))
    where
      go : (v : Verdict) → (v ≡ ok → row_in width m.carried i ≡ part width m.carried i)
          → told_as (located_as v (get_or m.locations i 0)) (row_in width m.carried i) ≡ told_by v (get_or m.locations i 0) (part width m.carried i)
      go ok e = ap (told_by ok (get_or m.locations i 0)) (e refl)
      go (refuse n k) e = refl

  rows_read : (is : List ℕ) → map Row is ≡ map (told_of (read m)) is
  rows_read [] = refl
  rows_read (i ∷ is) = λ k. row_read i k ∷ rows_read is k

  row_wide : (i : ℕ) → length (told_of (read m) i).carried ≡ width
  unfolding read
  row_wide i =
      ap (λ v. length (told_by v (get_or m.locations i 0) (part width m.carried i)).carried) (unfound_read m f i)
      ∙ go (looked_at m i) (λ o. length_part_full width m.carried i (found_within m f i o))
    where
      go : (v : Verdict) → (v ≡ ok → length (part width m.carried i) ≡ width)
          → length (told_by v (get_or m.locations i 0) (part width m.carried i)).carried ≡ width
      go ok e = e refl
      go (refuse n k) e = length-replicate {A = ℕ} width 0

  rows_wide : (is : List ℕ) → AllWide width (map (told_of (read m)) is)
  rows_wide [] = tt
  rows_wide (i ∷ is) = (row_wide i, rows_wide is)

-- ---- the answer, and the lent lists

module _ (m : Memory) (p : Page) where
  abbrev asked : Call
  asked = ask (lookups p)

  abbrev ListsFit : Bool
  ListsFit = as_long p.ids p.numbers && as_long p.ids p.locations && carries_for p.ids p.carried

  abbrev pub AllFit : Bool
  AllFit = fits row_tables m && ListsFit

  abbrev many : Verdict
  many = test (ltb most_asked (length p.ids)) too_many 0

  page_refusal : S.refusal (read m) asked ≡ (test (not AllFit) wrong_shape 0 ⨾ many)
  unfolding S.refusal refusal_of ask_refusal
  page_refusal = (λ k. shape_read asked m k ⨾ lists ListsFit ⨾ many) ∙ tests_join (fits row_tables m) ListsFit wrong_shape 0 many

  abbrev Leaves : Left → Type 0
  Leaves l = l ≡ left_by p (answer (read m) asked)

  abbrev refusing : Kind → Left
  refusing n = record { outcome = refused n 0; numbers = p.numbers; locations = p.locations; carried = p.carried }

  refused_leaves : (n : Kind) → S.refusal (read m) asked ≡ refuse n 0 → Leaves (refusing n)
  unfolding answer
  refused_leaves n e = ap (λ v. left_by p (answer_by v (grant (read m) asked))) (sym e)

  pub leaves_shape : AllFit ≡ false → Leaves (refusing wrong_shape)
  unfolding test ◌⨾◌
  leaves_shape e = refused_leaves wrong_shape (page_refusal ∙ ap (λ b. test (not b) wrong_shape 0 ⨾ many) e)

  module _ (fit : AllFit ≡ true) where
    rest : S.refusal (read m) asked ≡ many
    unfolding test ◌⨾◌
    rest = page_refusal ∙ ap (λ b. test (not b) wrong_shape 0 ⨾ many) fit

    pub lists_long : (length p.numbers ≡ length p.ids) × (length p.locations ≡ length p.ids) × (length p.carried ≡ length p.ids * width)
    lists_long =
        let two = as_long p.ids p.numbers && as_long p.ids p.locations in
        let b = and_true two (carries_for p.ids p.carried) (and_true (fits row_tables m) ListsFit fit).1 in
        let d = and_true (as_long p.ids p.numbers) (as_long p.ids p.locations) b.0 in
        (eqb-true _ _ d.0, eqb-true _ _ d.1, eqb-true _ _ b.1)

    pub leaves_many : most_asked < length p.ids → Leaves (refusing too_many)
    unfolding test
    leaves_many h = refused_leaves too_many (rest ∙ ap (λ b. test b too_many 0) (lt-ltb _ _ h))

    pub leaves_told : length p.ids ≤ most_asked → (numbers locations carried : List ℕ)
        → numbers ≡ written put_number p.numbers 0 (map (Row m (and_true (fits row_tables m) ListsFit fit).0) p.ids)
        → locations ≡ written put_location p.locations 0 (map (Row m (and_true (fits row_tables m) ListsFit fit).0) p.ids)
        → carried ≡ written put_carried p.carried 0 (map (Row m (and_true (fits row_tables m) ListsFit fit).0) p.ids)
        → Leaves (record { outcome = granted []; numbers = numbers; locations = locations; carried = carried })
    unfolding answer grant reply test
    leaves_told h numbers locations carried en el ec =
        let f = (and_true (fits row_tables m) ListsFit fit).0 in
        let ts = map (told_of (read m)) p.ids in
        let r = rows_read m f p.ids in
        let long : length ts ≡ length p.ids = length-map p.ids (told_of (read m)) in
        let fine : S.refusal (read m) asked ≡ ok = rest ∙ ap (λ b. test b too_many 0) (le-ltb _ _ h) in
        let n = en ∙ ap (written put_number p.numbers 0) r ∙ written_all (λ (t : Told). t.number) p.numbers ts (lists_long.0 ∙ sym (length-map ts (λ (t : Told). t.number) ∙ long)) in
        let l = el ∙ ap (written put_location p.locations 0) r ∙ written_all (λ (t : Told). t.location) p.locations ts (lists_long.1 ∙ sym (length-map ts (λ (t : Told). t.location) ∙ long)) in
        let c = ec ∙ ap (written put_carried p.carried 0) r ∙ written_carried width p.carried ts (lists_long.2 ∙ ap (λ k. k * width) (sym long)) (rows_wide m f p.ids) in
        (λ k. record { outcome = granted []; numbers = n k; locations = l k; carried = c k })
        ∙ ap (λ v. left_by p (answer_by v (told ts))) (sym fine)
