-- What is read piece by piece: a part and a part after it, one more, a block of a list of blocks.
-- Assumes nothing.
use mathlib.Core.Path.{◌≡◌, refl, sym, ap, ap₂, ◌∙◌, subst}
use mathlib.Core.List.{List, [], ◌∷◌, ◌++◌}
use Prim.Native.Nat.{ℕ, zero, suc, ◌+◌, ◌*◌, ◌<◌}
use native.Mathlib.Nat.{zero-mul, suc-mul}
use native.Mathlib.Omega.{arith}
use lib.ListN.{length, get_or, take, drop, length-append}
use lib.Seq.{take-suc, take-add}
use Rattle.std.specs.List.{flat_map}
use Rattle.std.specs.Simd.{first_chunks}
use Rattle.std.proofs.Common.{append_assoc, append-nil}
use Rattle.std.proofs.lemmas.List.{take-append-drop}
use Rattle.std.proofs.lemmas.List.Concat.{flat_map-append}
use Rattle.crc_words.specs.Fold.{Passed}

module _ {A : Type 0} (after : List A → ℕ → ℕ) (n : ℕ) where
  pub passed_none : (z : ℕ) → Passed after n [] z z
  unfolding Passed
  passed_none z rest l = refl

  pub passed_append : (xs ys : List A) (z r t : ℕ) → Passed after n xs z r → Passed after n ys r t → Passed after n (xs ++ ys) z t
  unfolding Passed
  passed_append xs ys z r t f g rest l =
      ap (λ (us : List A). after us z) (append_assoc xs ys rest)
      ∙ f (ys ++ rest) (simp length-append (omega arith))
      ∙ g rest l

  pub passed_more : (xs : List A) (i : ℕ) (d : A) (z r t : ℕ) → i < length xs → Passed after n (take i xs) z r → Passed after n (get_or xs i d ∷ []) r t
      → Passed after n (take (i + 1) xs) z t
  passed_more xs i d z r t l f g =
      let e : suc i ≡ i + 1 = omega arith in
      subst (λ (us : List A). Passed after n us z t)
      (sym (take-suc xs i d l) ∙ ap (λ (m : ℕ). take m xs) e)
      (passed_append (take i xs) (get_or xs i d ∷ []) z r t f g)

  pub passed_block : (first : List A) (blocks : List (List A)) (i : ℕ) (z r t : ℕ) → i < length blocks
      → Passed after n (first ++ flat_map (λ block. block) (take i blocks)) z r → Passed after n (get_or blocks i []) r t
      → Passed after n (first ++ flat_map (λ block. block) (take (i + 1) blocks)) z t
  passed_block first blocks i z r t l f g =
      let before = flat_map (λ block. block) (take i blocks) in
      let block = get_or blocks i [] in
      let e : suc i ≡ i + 1 = omega arith in
      subst (λ (us : List A). Passed after n us z t)
      (append_assoc first before block
      ∙ ap (◌++◌ first)
      (ap (◌++◌ before) (sym (append-nil block))
      ∙ sym (flat_map-append (λ block. block) (take i blocks) (block ∷ []))
      ∙ ap (flat_map (λ block. block)) (sym (take-suc blocks i [] l) ∙ ap (λ (m : ℕ). take m blocks) e)))
      (passed_append (first ++ before) block z r t f g)

-- what a list is cut into, joined again
pub flat_chunks : {X : Type 0} (n k : ℕ) (xs : List X) → flat_map (λ chunk. chunk) (first_chunks n k xs) ≡ take (k * n) xs
flat_chunks n zero xs = ap (λ (m : ℕ). take m xs) (sym (zero-mul n))
flat_chunks n (suc k) xs =
    let e : suc k * n ≡ n + k * n = omega (arith, suc-mul k n) in
    ap (◌++◌ (take n xs)) (flat_chunks n k (drop n xs)) ∙ sym (take-add n (k * n) xs) ∙ ap (λ (m : ℕ). take m xs) (sym e)

pub length_chunks : {X : Type 0} (n k : ℕ) (xs : List X) → length (first_chunks n k xs) ≡ k
length_chunks n zero xs = refl
length_chunks n (suc k) xs = ap (λ (j : ℕ). suc j) (length_chunks n k (drop n xs))

pub joined : {X : Type 0} (n k : ℕ) (xs rest : List X) (chunks : List (List X)) → chunks ≡ first_chunks n k xs → rest ≡ drop (k * n) xs
    → flat_map (λ chunk. chunk) chunks ++ rest ≡ xs
joined n k xs rest chunks e f =
    ap₂ (λ us vs. us ++ vs) (ap (flat_map (λ chunk. chunk)) e ∙ flat_chunks n k xs) f ∙ take-append-drop (k * n) xs
