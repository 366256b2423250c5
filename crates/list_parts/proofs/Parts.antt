-- Laws of a list in parts of one length: what a part holds, that a store in one part is seen there and in no other, and that its parts tell a
-- list. Assumes nothing.
use mathlib.Core.Path.{◌≡◌, refl, ◌∙◌, ap, sym}
use mathlib.Core.Logic.{◌≢◌}
use mathlib.Core.List.{List, ◌++◌, map}
use Prim.Native.Nat.{ℕ, zero, ◌<◌, suc, ◌≤◌, ◌/◌, ◌%◌, ◌*◌, ◌+◌, ◌-◌}
use native.Mathlib.Nat.{mul-le-mul_right, zero-mul, suc-mul, div-add-mod', mod-lt, div-lt_iff_lt-mul}
use native.Mathlib.Decide.{dec_lt}
use native.Mathlib.Omega.{arith}
use lib.ListN.{get_or, length, set, take, drop, length-take, length-drop, length-append, get_or-append}
use lib.Seq.{drop-drop, get_or-take, get_or-drop, drop-set-add, take-set-lt, drop-set-lt, take-set-le, length-take-le, drop_at, take_at, get_or-append-add}
use borrow.Rule.Slice.PartMut.{put_mid}
use Rattle.std.specs.Simd.{first_chunks}
use Rattle.list_parts.specs.Parts.{part, put_part}
use Rattle.list_parts.proofs.Lists.{take_map, drop_map, ext_places}

-- ---- part

-- of n parts each ends within the n
pub part_end : (stride n k : ℕ) → k < n → k * stride + stride ≤ n * stride
part_end stride n k h = omega (arith, mul-le-mul_right stride h, suc-mul k stride)

module _ {A : Type 0} (stride : ℕ) (t : List A) (k : ℕ) where
  pub length_part : length (part stride t k) ≤ stride
  length_part = rw (length-take stride (drop (k * stride) t)) (omega arith)

  pub length_part_full : k * stride + stride ≤ length t → length (part stride t k) ≡ stride
  length_part_full h = length-take-le stride (drop (k * stride) t) (rw (length-drop (k * stride) t) (omega arith))

  pub part_at : (j : ℕ) (d : A) → j < stride → get_or (part stride t k) j d ≡ get_or t (k * stride + j) d
  part_at j d h = get_or-take stride (drop (k * stride) t) j d h ∙ get_or-drop (k * stride) t j d

  -- as a range of a slice
  pub part_range : take (k * stride + stride - k * stride) (drop (k * stride) t) ≡ part stride t k
  part_range = let e : k * stride + stride - k * stride ≡ stride = omega arith in ap (λ n. take n (drop (k * stride) t)) e

pub part_map : {A B : Type 0} (stride : ℕ) (f : A → B) (t : List A) (k : ℕ) → part stride (map f t) k ≡ map f (part stride t k)
part_map stride f t k = ap (take stride) (drop_map f (k * stride) t) ∙ take_map f stride (drop (k * stride) t)

-- a store in a part, seen from that part and from each other
module _ {A : Type 0} (stride : ℕ) (t : List A) (k j : ℕ) (v : A) where
  pub part_here : j < stride → part stride (set t (k * stride + j) v) k ≡ set (part stride t k) j v
  part_here h = ap (take stride) (drop-set-add (k * stride) t j v) ∙ take-set-lt stride (drop (k * stride) t) j v h

  pub part_there : (i : ℕ) → j < stride → i ≢ k → part stride (set t (k * stride + j) v) i ≡ part stride t i
  part_there i h n = go (dec_lt k i)
    where
      go : Dec (k < i) → part stride (set t (k * stride + j) v) i ≡ part stride t i
      go (yes q) = ap (take stride) (drop-set-lt (i * stride) t (k * stride + j) v (omega (arith, mul-le-mul_right stride q)))
      go (no q) =
          let lt : suc i ≤ k = omega arith in
          let b = mul-le-mul_right stride lt in
          let e : k * stride + j ≡ i * stride + (k * stride + j - i * stride) = omega arith in
          ap (λ x. take stride (drop (i * stride) (set t x v))) e
          ∙ ap (take stride) (drop-set-add (i * stride) t (k * stride + j - i * stride) v)
          ∙ take-set-le stride (drop (i * stride) t) (k * stride + j - i * stride) v (omega arith)

-- a list is told by its parts
pub ext_parts : {A : Type 0} (stride n : ℕ) (t u : List A) → 1 ≤ stride → length t ≡ n * stride → length u ≡ n * stride
    → ((i : ℕ) → i < n → part stride t i ≡ part stride u i) → t ≡ u
ext_parts stride n t u c lt lu h = ext_places t u (lt ∙ sym lu) (λ d p b.
    let e : p / stride * stride + p % stride ≡ p = div-add-mod' p stride in
    let within : p % stride < stride = mod-lt p c in
    let below : p / stride < n = (div-lt_iff_lt-mul c).1 (rw lt at b) in
    ap (λ x. get_or t x d) (sym e) ∙ sym (part_at stride t (p / stride) (p % stride) d within)
    ∙ ap (λ x. get_or x (p % stride) d) (h (p / stride) below)
    ∙ part_at stride u (p / stride) (p % stride) d within ∙ ap (λ x. get_or u x d) e)

-- ---- put_part

pub put_part_range : {A : Type 0} (stride : ℕ) (t : List A) (k : ℕ) (p : List A) → put_mid (k * stride) (k * stride + stride - k * stride) t p ≡ put_part stride t k p
put_part_range stride t k p =
    let e : k * stride + stride - k * stride ≡ stride = omega arith in
    ap (λ n. take (k * stride) t ++ (p ++ drop n (drop (k * stride) t))) e

module _ {A : Type 0} (stride : ℕ) (t : List A) (k : ℕ) (p : List A) (inside : k * stride + stride ≤ length t) (fits : length p ≡ stride) where
  before : length (take (k * stride) t) ≡ k * stride
  before = length-take-le (k * stride) t (omega arith)

  pub length_put_part : length (put_part stride t k p) ≡ length t
  length_put_part = simp (length-append, length-drop, before, fits) (omega arith)

  pub part_put_part : part stride (put_part stride t k p) k ≡ p
  part_put_part = ap (take stride) (drop_at (take (k * stride) t) _ (k * stride) before) ∙ take_at p _ stride fits

  get_d_low : (d : A) (q : ℕ) → q < k * stride → get_or (put_part stride t k p) q d ≡ get_or t q d
  get_d_low d q h = get_or-append (take (k * stride) t) _ d q (rw before h) ∙ get_or-take (k * stride) t q d h

  get_d_high : (d : A) (r : ℕ) → get_or (put_part stride t k p) (k * stride + (stride + r)) d ≡ get_or t (k * stride + (stride + r)) d
  get_d_high d r =
      ap (λ x. get_or (put_part stride t k p) (x + (stride + r)) d) (sym before)
      ∙ get_or-append-add (take (k * stride) t) (p ++ drop stride (drop (k * stride) t)) (stride + r) d
      ∙ ap (λ x. get_or (p ++ drop stride (drop (k * stride) t)) (x + r) d) (sym fits)
      ∙ get_or-append-add p (drop stride (drop (k * stride) t)) r d
      ∙ get_or-drop stride (drop (k * stride) t) r d
      ∙ get_or-drop (k * stride) t (stride + r) d

  pub part_put_part_other : (i : ℕ) → i ≢ k → part stride (put_part stride t k p) i ≡ part stride t i
  part_put_part_other i n = ext_places _ _ (simp (length-take, length-drop, length_put_part)) (λ d j b.
      let h : j < stride = omega (arith, length_part stride (put_part stride t k p) i) in
      part_at stride (put_part stride t k p) i j d h ∙ go d j h (dec_lt i k) ∙ sym (part_at stride t i j d h))
    where
      go : (d : A) (j : ℕ) → j < stride → Dec (i < k) → get_or (put_part stride t k p) (i * stride + j) d ≡ get_or t (i * stride + j) d
      go d j h (yes q) = get_d_low d (i * stride + j) (omega (arith, mul-le-mul_right stride q))
      go d j h (no q) =
          let m : suc k ≤ i = omega arith in
          let b = mul-le-mul_right stride m in
          let e : k * stride + (stride + (i * stride + j - (k * stride + stride))) ≡ i * stride + j = omega arith in
          rw e at (get_d_high d (i * stride + j - (k * stride + stride)))

-- ---- std's chunks
module _ {A : Type 0} (stride : ℕ) where
  pub length_chunks : (n : ℕ) (t : List A) → length (first_chunks stride n t) ≡ n
  length_chunks zero t = refl
  length_chunks (suc n) t = ap suc (length_chunks n (drop stride t))

  pub chunk_at : (n k : ℕ) (t : List A) (d : List A) → k < n → get_or (first_chunks stride n t) k d ≡ part stride t k
  chunk_at zero k t d h = absurd (omega arith)
  chunk_at (suc n) zero t d h = rw (zero-mul stride)
  chunk_at (suc n) (suc k) t d h =
      let e : k * stride + stride ≡ suc k * stride = omega (arith, suc-mul k stride) in
      let f : stride + k * stride ≡ k * stride + stride = omega arith in
      chunk_at n k (drop stride t) d (omega arith) ∙ ap (take stride) (drop-drop (k * stride) stride t ∙ ap (λ (m : ℕ). drop m t) (f ∙ e))
