-- Laws of slot tables slab by slab: the marks of a slab count by its own words alone, and what changes one slab is seen in that slab alone
-- (counted_slabs_step, which every call on slots cites). Assumes nothing.
use mathlib.Core.Path.{ap, ◌≡◌, ◌∙◌, sym, refl, subst}
use mathlib.Core.Logic.{◌≢◌}
use mathlib.Core.List.{List, ◌++◌}
use Prim.Native.Nat.{ℕ, ◌≤◌, ◌*◌, ◌<◌, ◌+◌, suc, zero}
use native.Mathlib.Nat.{not-suc-le-zero, suc-mul, add_comm, zero-mul, le_of_suc-le-suc}
use native.Mathlib.Decide.{ℕ_discrete}
use native.Mathlib.Omega.{arith}
use lib.ListN.{length, take, length-append, length-drop, drop, take-append-drop}
use lib.Seq.{length-take-le, take_at, drop-append-add, drop-drop}
use Rattle.list_parts.specs.Parts.{part}
use Rattle.list_parts.proofs.Parts.{ext_parts}
use Rattle.address.specs.Address.{slabs}
use Rattle.id_allocator.specs.Counted.{counted}
use Rattle.id_allocator.proofs.LawsCounted.{counted_length}
use Rattle.model.specs.Memory.{counted_slabs, counted_by, get_word, hint_words, waiting_words}

pub length_counted_slabs : (cap : ℕ) (g : List ℕ) (n k : ℕ) (t : List ℕ) → length (counted_slabs cap g n k t) ≡ length t
unfolding counted_slabs
length_counted_slabs cap g zero k t = refl
length_counted_slabs cap g (suc n) k t =
    length-append (counted_by g (suc k) (take cap t)) _
    ∙ ap (λ x. x + length (counted_slabs cap g n (suc k) (drop cap t))) (counted_length (get_word g hint_words (suc k)) (get_word g waiting_words (suc k)) (take cap t))
    ∙ ap (λ x. length (take cap t) + x) (length_counted_slabs cap g n (suc k) (drop cap t))
    ∙ sym (length-append (take cap t) (drop cap t)) ∙ ap length (take-append-drop cap t)

-- a slab's marks count by its words
pub part_counted_slabs : (cap : ℕ) (g : List ℕ) (n k : ℕ) (t : List ℕ) (i : ℕ) → length t ≡ n * cap → i < n
    → part cap (counted_slabs cap g n k t) i ≡ counted_by g (suc (k + i)) (part cap t i)
unfolding counted_slabs
part_counted_slabs cap g zero k t i l h = absurd (not-suc-le-zero h)
part_counted_slabs cap g (suc n) k t i l h = go i h (λ j b. part_counted_slabs cap g n (suc k) (drop cap t) j (length-drop cap t ∙ omega (arith, l')) b)
  where
    first : List ℕ
    first = counted_by g (suc k) (take cap t)

    rest : List ℕ
    rest = counted_slabs cap g n (suc k) (drop cap t)

    l' : length t ≡ cap + n * cap
    l' = l ∙ suc-mul n cap ∙ add_comm (n * cap) cap

    long : length first ≡ cap
    long = counted_length (get_word g hint_words (suc k)) (get_word g waiting_words (suc k)) (take cap t) ∙ length-take-le cap t (omega arith)

    go : (i : ℕ) → i < suc n → ((j : ℕ) → j < n → part cap rest j ≡ counted_by g (suc (suc k + j)) (part cap (drop cap t) j))
        → part cap (first ++ rest) i ≡ counted_by g (suc (k + i)) (part cap t i)
    go zero h f =
        let z : 0 * cap ≡ 0 = zero-mul cap in
        let s : k + 0 ≡ k = omega arith in
        rw (z, s) (take_at first rest cap long)
    go (suc i) h f =
        let e : suc i * cap ≡ cap + i * cap = suc-mul i cap ∙ add_comm (i * cap) cap in
        let a : suc k + i ≡ k + suc i = omega arith in
        ap (λ x. take cap (drop x (first ++ rest))) (e ∙ ap (λ x. x + i * cap) (sym long))
        ∙ ap (take cap) (drop-append-add first rest (i * cap))
        ∙ f i (le_of_suc-le-suc h)
        ∙ ap (λ x. counted_by g (suc x) (part cap (drop cap t) i)) a
        ∙ ap (λ x. counted_by g (suc (k + suc i)) (take cap x)) (drop-drop (i * cap) cap t ∙ ap (λ x. drop x t) (sym e))

-- the marks depend on the slabs' words alone
pub counted_slabs_words : (cap : ℕ) (g g' : List ℕ) (n k : ℕ) (t : List ℕ)
    → ((a : ℕ) → a < k + n → (get_word g' hint_words (suc a) ≡ get_word g hint_words (suc a)) × (get_word g' waiting_words (suc a) ≡ get_word g waiting_words (suc a)))
    → counted_slabs cap g' n k t ≡ counted_slabs cap g n k t
unfolding counted_slabs
counted_slabs_words cap g g' zero k t h = refl
counted_slabs_words cap g g' (suc n) k t h = λ i.
    counted ((h k (omega arith)).0 i) ((h k (omega arith)).1 i) (take cap t) ++ counted_slabs_words cap g g' n (suc k) (drop cap t) (λ a b. h a (omega arith)) i

-- one slab changes: the table that is read changes there, and nowhere else
pub counted_slabs_step : (cap : ℕ) (g g' t t' u : List ℕ) (k : ℕ) → 1 ≤ cap → length t ≡ slabs * cap → length t' ≡ slabs * cap → length u ≡ slabs * cap
    → ((i : ℕ) → i < slabs → i ≢ k → part cap t' i ≡ part cap t i)
    → ((i : ℕ) → i < slabs → i ≢ k → (get_word g' hint_words (suc i) ≡ get_word g hint_words (suc i)) × (get_word g' waiting_words (suc i) ≡ get_word g waiting_words (suc i)))
    → ((i : ℕ) → i < slabs → i ≢ k → part cap u i ≡ part cap (counted_slabs cap g slabs 0 t) i)
    → counted_by g' (suc k) (part cap t' k) ≡ part cap u k
    → counted_slabs cap g' slabs 0 t' ≡ u
counted_slabs_step cap g g' t t' u k c lt lt' lu ht hg hu here =
    ext_parts cap slabs _ u c (length_counted_slabs cap g' slabs 0 t' ∙ lt') lu (λ i b. go i b (ℕ_discrete i k))
  where
    at_slab : (g t : List ℕ) (i : ℕ) → length t ≡ slabs * cap → i < slabs → part cap (counted_slabs cap g slabs 0 t) i ≡ counted_by g (suc i) (part cap t i)
    at_slab g t i l b = let z : 0 + i ≡ i = omega arith in rw z at (part_counted_slabs cap g slabs 0 t i l b)

    go : (i : ℕ) → i < slabs → Dec (i ≡ k) → part cap (counted_slabs cap g' slabs 0 t') i ≡ part cap u i
    go i b (yes e) = at_slab g' t' i lt' b ∙ subst (λ x. counted_by g' (suc x) (part cap t' x) ≡ part cap u x) (sym e) here
    go i b (no n) =
        at_slab g' t' i lt' b
        ∙ (λ j. counted ((hg i b n).0 j) ((hg i b n).1 j) (ht i b n j))
        ∙ sym (at_slab g t i lt b) ∙ sym (hu i b n)
