-- What a word that was read is put off to, and the turn that does it.
-- Assumes nothing.
use mathlib.Core.Path.{◌≡◌, refl, sym, ap, ap₂, ◌∙◌, subst}
use Prim.Native.Nat.{ℕ, ◌+◌, ◌-◌, ◌*◌, ◌/◌, ◌^◌, ◌≤◌, ◌<◌}
use native.Mathlib.Nat.{add_assoc}
use native.Mathlib.Omega.{arith}
use lib.Dec.{T}
use lib.Bits.{bit_xor, xor_lt, xor_zero_r}
use Rattle.crc_steps.specs.Crc32.{step, steps}
use Rattle.crc_words.specs.Fold.{up, over, num, Turn, fifth}
use Rattle.crc_steps.proofs.Xor.{xor_assoc}
use Rattle.crc_steps.proofs.Linear.{steps_xor, steps_add, steps_shift, steps_zero}
use Rattle.crc_steps.proofs.Agree.{Lin, id, down, both, after, lin_steps, same, agree, falls, down_id, down_after, down_test, descend}
use Rattle.crc_words.proofs.Shifts.{lup, above, over_xor, lin_fifth}

-- the register after a word: the polynomial's inverse, as a series of powers, times the word, and the polynomial times the high half of that
abbrev inverse : ℕ → ℕ
inverse w =
    let u = bit_xor w (up 1 w) in
    let a = bit_xor w (up 16 w) in
    let b = bit_xor a (up 3 a) in
    let low = bit_xor (bit_xor (bit_xor a (up 6 w)) (bit_xor (up 9 b) (up 10 a))) (bit_xor (up 24 w) (up 30 u)) in
    let high = bit_xor (bit_xor (bit_xor (up 29 b) (up 34 b)) (bit_xor (up 44 b) (up 54 u))) (up 58 b) in
    bit_xor low high

abbrev times : ℕ → ℕ
times q =
    let c = bit_xor q (up 6 q) in
    let d = bit_xor c (up 4 c) in
    bit_xor (bit_xor (bit_xor c (up 9 q)) (up 10 c)) (bit_xor (bit_xor (up 20 d) (up 21 d)) (up 22 d))

lin_inverse : Lin inverse
lin_inverse =
    let u = both id (lup 1 id) in
    let a = both id (lup 16 id) in
    let b = both a (lup 3 a) in
    let low = both (both (both a (lup 6 id)) (both (lup 9 b) (lup 10 a))) (both (lup 24 id) (lup 30 u)) in
    let high = both (both (both (lup 29 b) (lup 34 b)) (both (lup 44 b) (lup 54 u))) (lup 58 b) in
    both low high

lin_times : Lin times
lin_times =
    let c = both id (lup 6 id) in
    let d = both c (lup 4 c) in
    both (both (both c (lup 9 id)) (lup 10 c)) (both (both (lup 20 d) (lup 21 d)) (lup 22 d))

pub divided : (x : ℕ) → x < 2 ^ 64 → times (inverse x / 2 ^ 32) / 2 ^ 32 ≡ steps 64 x
unfolding same steps step
divided = agree (λ x. times (inverse x / 2 ^ 32) / 2 ^ 32) (steps 64) (down 32 (after lin_times (down 32 lin_inverse))) (lin_steps 64) 64 tt

-- a map that steps down from power to power says where a word is put off to, if it does at the highest
put_off : (k : ℕ) (f : ℕ → ℕ) → Lin f → T (falls f 63) → steps (64 + k) 0 ≡ steps k (f 0) → steps (64 + k) (2 ^ 63) ≡ steps k (f (2 ^ 63))
    → (y : ℕ) → y < 2 ^ 64 → steps (64 + k) y ≡ steps k (f y)
put_off k f l t z h =
    agree (steps (64 + k)) (λ y. steps k (f y)) (lin_steps (64 + k)) (after (lin_steps k) l) 64
    (descend (steps (64 + k)) (λ y. steps k (f y)) 63 (down_after (64 + k) down_id) (down_after k (down_test 63 f t)) z h)

-- where x^300 puts a word
unfoldable far_of : ℕ → ℕ
far_of y = num 0 (bit_xor (up 17 y) (up 55 y)) (bit_xor (bit_xor (y / 2 ^ 47) (y / 2 ^ 9)) (up 19 y)) (bit_xor (y / 2 ^ 45) (up 44 y)) (y / 2 ^ 20)

lin_zero : Lin (λ x. 0)
lin_zero = record { law = λ a b. refl }

lin_far : Lin far_of
unfolding far_of num
lin_far =
    above lin_zero
    (above (both (lup 17 id) (lup 55 id))
    (above (both (both (down 47 id) (down 9 id)) (lup 19 id)) (above (both (down 45 id) (lup 44 id)) (down 20 id))))

far_zero : steps 332 0 ≡ steps 268 (far_of 0)
unfolding steps step far_of num over
far_zero = refl

far_top : steps 332 (2 ^ 63) ≡ steps 268 (far_of (2 ^ 63))
unfolding steps step far_of num over
far_top = refl

far_falls : T (falls far_of 63)
unfolding falls step far_of num over
far_falls = tt

far_word : (y : ℕ) → y < 2 ^ 64 → steps 332 y ≡ steps 268 (far_of y)
far_word = put_off 268 far_of lin_far far_falls far_zero far_top

-- where x^274 does
unfoldable four_of : ℕ → ℕ
four_of y = num 0 (up 53 y) (bit_xor (bit_xor (y / 2 ^ 11) (up 7 y)) (up 63 y)) (bit_xor (bit_xor (y / 2 ^ 57) (y / 2 ^ 1)) (bit_xor (up 7 y) (up 18 y))) (bit_xor (y / 2 ^ 57) (y / 2 ^ 46))

lin_four : Lin four_of
unfolding four_of num
lin_four = above lin_zero (above (lup 53 id) (above (both (both (down 11 id) (lup 7 id)) (lup 63 id)) (above (both (both (down 57 id) (down 1 id)) (both (lup 7 id) (lup 18 id))) (both (down 57 id) (down 46 id)))))

four_zero : steps 306 0 ≡ steps 242 (four_of 0)
unfolding steps step four_of num over
four_zero = refl

four_top : steps 306 (2 ^ 63) ≡ steps 242 (four_of (2 ^ 63))
unfolding steps step four_of num over
four_top = refl

four_falls : T (falls four_of 63)
unfolding falls step four_of num over
four_falls = tt

four_word : (y : ℕ) → y < 2 ^ 64 → steps 306 y ≡ steps 242 (four_of y)
four_word = put_off 242 four_of lin_four four_falls four_zero four_top

-- where x^212 does
unfoldable three_of : ℕ → ℕ
three_of y = num 0 (bit_xor (bit_xor (bit_xor (up 1 y) (up 10 y)) (up 22 y)) (bit_xor (up 41 y) (up 55 y))) (bit_xor (bit_xor (bit_xor (bit_xor (y / 2 ^ 63) (y / 2 ^ 54)) (y / 2 ^ 42)) (bit_xor (y / 2 ^ 23) (y / 2 ^ 9))) (up 20 y)) (y / 2 ^ 44) 0

lin_three : Lin three_of
unfolding three_of num
lin_three = above lin_zero (above (both (both (both (lup 1 id) (lup 10 id)) (lup 22 id)) (both (lup 41 id) (lup 55 id))) (above (both (both (both (both (down 63 id) (down 54 id)) (down 42 id)) (both (down 23 id) (down 9 id))) (lup 20 id)) (above (down 44 id) lin_zero)))

three_zero : steps 244 0 ≡ steps 180 (three_of 0)
unfolding steps step three_of num over
three_zero = refl

three_top : steps 244 (2 ^ 63) ≡ steps 180 (three_of (2 ^ 63))
unfolding steps step three_of num over
three_top = refl

three_falls : T (falls three_of 63)
unfolding falls step three_of num over
three_falls = tt

three_word : (y : ℕ) → y < 2 ^ 64 → steps 244 y ≡ steps 180 (three_of y)
three_word = put_off 180 three_of lin_three three_falls three_zero three_top

-- where x^135 does
unfoldable two_of : ℕ → ℕ
two_of y =
    num (bit_xor (bit_xor (bit_xor (up 7 y) (up 16 y)) (up 39 y)) (bit_xor (bit_xor (up 55 y) (up 57 y)) (up 59 y)))
    (bit_xor
    (bit_xor (bit_xor (bit_xor (y / 2 ^ 57) (y / 2 ^ 48)) (y / 2 ^ 25)) (bit_xor (bit_xor (y / 2 ^ 9) (y / 2 ^ 7)) (y / 2 ^ 5)))
    (up 7 y))
    (y / 2 ^ 57)
    0
    0

lin_two : Lin two_of
unfolding two_of num
lin_two =
    above (both (both (both (lup 7 id) (lup 16 id)) (lup 39 id)) (both (both (lup 55 id) (lup 57 id)) (lup 59 id)))
    (above
    (both (both (both (both (down 57 id) (down 48 id)) (down 25 id)) (both (both (down 9 id) (down 7 id)) (down 5 id))) (lup 7 id))
    (above (down 57 id) (above lin_zero lin_zero)))

two_zero : steps 192 0 ≡ steps 128 (two_of 0)
unfolding steps step two_of num over
two_zero = refl

two_top : steps 192 (2 ^ 63) ≡ steps 128 (two_of (2 ^ 63))
unfolding steps step two_of num over
two_top = refl

two_falls : T (falls two_of 63)
unfolding falls step two_of num over
two_falls = tt

two_word : (y : ℕ) → y < 2 ^ 64 → steps 192 y ≡ steps 128 (two_of y)
two_word = put_off 128 two_of lin_two two_falls two_zero two_top

-- and x^96
unfoldable one_of : ℕ → ℕ
one_of y = num (fifth y) (fifth (y / 2 ^ 32) / 2 ^ 32) 0 0 0

lin_one : Lin one_of
unfolding one_of num
lin_one = above lin_fifth (above (down 32 (after lin_fifth (down 32 id))) (above lin_zero (above lin_zero lin_zero)))

one_zero : steps 128 0 ≡ steps 64 (one_of 0)
unfolding steps step one_of num over fifth
one_zero = refl

one_top : steps 128 (2 ^ 63) ≡ steps 64 (one_of (2 ^ 63))
unfolding steps step one_of num over fifth
one_top = refl

one_falls : T (falls one_of 63)
unfolding falls step one_of num over fifth
one_falls = tt

one_word : (y : ℕ) → y < 2 ^ 64 → steps 128 y ≡ steps 64 (one_of y)
one_word = put_off 64 one_of lin_one one_falls one_zero one_top

pub num_xor : (a b c d e p q r s t : ℕ)
    → bit_xor (num a b c d e) (num p q r s t) ≡ num (bit_xor a p) (bit_xor b q) (bit_xor c r) (bit_xor d s) (bit_xor e t)
unfolding num
num_xor a b c d e p q r s t =
    over_xor a p (over b (over c (over d e))) (over q (over r (over s t)))
    ∙ ap (over (bit_xor a p))
    (over_xor b q (over c (over d e)) (over r (over s t))
    ∙ ap (over (bit_xor b q)) (over_xor c r (over d e) (over s t) ∙ ap (over (bit_xor c r)) (over_xor d s e t)))

num_low : (a : ℕ) → num a 0 0 0 0 ≡ a
unfolding num over
num_low a = refl

-- a turn with what its word is put off to
turned : (k a b c d e w f : ℕ) → steps (64 + k) (bit_xor w a) ≡ steps k f → Turn k w (num a b c d e) (bit_xor (num b c d e 0) f)
unfolding Turn num over
turned k a b c d e w f h n q =
    let t = over b (over c (over d e)) in
    let y = bit_xor w a in
    ap (steps (64 + (k + n))) (over_xor w a q t)
    ∙ steps_xor (64 + (k + n)) (bit_xor q t * 2 ^ 64) y
    ∙ ap₂ bit_xor
    (steps_add 64 (k + n) (bit_xor q t * 2 ^ 64) ∙ ap (steps (k + n)) (steps_shift 64 (bit_xor q t)))
    (ap (λ (m : ℕ). steps m y) (sym (add_assoc 64 k n)) ∙ steps_add (64 + k) n y ∙ ap (steps n) h ∙ sym (steps_add k n f))
    ∙ sym (steps_xor (k + n) (bit_xor q t) f)
    ∙ ap (steps (k + n)) (xor_assoc q t f)

-- where more bits come after
turn_later : (k m w z r : ℕ) → k ≤ m → Turn k w z r → Turn m w z r
unfolding Turn
turn_later k m w z r l t n q =
    let e : m + n ≡ k + (m - k + n) = omega arith in
    ap (λ (i : ℕ). steps (64 + i) (bit_xor (over w q) z)) e ∙ t (m - k + n) q ∙ ap (λ (i : ℕ). steps i (bit_xor q r)) (sym e)

module _ (a b c d e w : ℕ) (l : w < 2 ^ 64) (m : a < 2 ^ 64) where
  pub far_turn : Turn 268 w (num a b c d e)
      (num b
      (bit_xor c (bit_xor (up 17 (bit_xor w a)) (up 55 (bit_xor w a))))
      (bit_xor d (bit_xor (bit_xor (bit_xor w a / 2 ^ 47) (bit_xor w a / 2 ^ 9)) (up 19 (bit_xor w a))))
      (bit_xor e (bit_xor (bit_xor w a / 2 ^ 45) (up 44 (bit_xor w a))))
      (bit_xor w a / 2 ^ 20))
  unfolding far_of
  far_turn =
      let y = bit_xor w a in
      let f = bit_xor (up 17 y) (up 55 y) in
      let g = bit_xor (bit_xor (y / 2 ^ 47) (y / 2 ^ 9)) (up 19 y) in
      let h = bit_xor (y / 2 ^ 45) (up 44 y) in
      subst (Turn 268 w (num a b c d e))
      (num_xor b c d e 0 0 f g h (y / 2 ^ 20) ∙ ap (λ (x : ℕ). num x (bit_xor c f) (bit_xor d g) (bit_xor e h) (y / 2 ^ 20)) (xor_zero_r b))
      (turned 268 a b c d e w (far_of y) (far_word y (xor_lt 64 w a l m)))

  pub with_four_turn : Turn 256 w (num a b c d e)
      (num b (bit_xor c (up 53 (bit_xor w a))) (bit_xor d (bit_xor (bit_xor ((bit_xor w a) / 2 ^ 11) (up 7 (bit_xor w a))) (up 63 (bit_xor w a)))) (bit_xor e (bit_xor (bit_xor ((bit_xor w a) / 2 ^ 57) ((bit_xor w a) / 2 ^ 1)) (bit_xor (up 7 (bit_xor w a)) (up 18 (bit_xor w a))))) (bit_xor ((bit_xor w a) / 2 ^ 57) ((bit_xor w a) / 2 ^ 46)))
  unfolding four_of
  with_four_turn =
      let y = bit_xor w a in
      let f = (up 53 y) in
      let g = (bit_xor (bit_xor (y / 2 ^ 11) (up 7 y)) (up 63 y)) in
      let h = (bit_xor (bit_xor (y / 2 ^ 57) (y / 2 ^ 1)) (bit_xor (up 7 y) (up 18 y))) in
      turn_later 242 256 w (num a b c d e) _ (omega arith)
      (subst (Turn 242 w (num a b c d e))
      (num_xor b c d e 0 0 f g h (bit_xor (y / 2 ^ 57) (y / 2 ^ 46)) ∙ ap (λ (x : ℕ). num x (bit_xor c f) (bit_xor d g) (bit_xor e h) (bit_xor (y / 2 ^ 57) (y / 2 ^ 46))) (xor_zero_r b))
      (turned 242 a b c d e w (four_of y) (four_word y (xor_lt 64 w a l m))))

  pub with_three_turn : Turn 192 w (num a b c d e)
      (num b (bit_xor c (bit_xor (bit_xor (bit_xor (up 1 (bit_xor w a)) (up 10 (bit_xor w a))) (up 22 (bit_xor w a))) (bit_xor (up 41 (bit_xor w a)) (up 55 (bit_xor w a))))) (bit_xor d (bit_xor (bit_xor (bit_xor (bit_xor ((bit_xor w a) / 2 ^ 63) ((bit_xor w a) / 2 ^ 54)) ((bit_xor w a) / 2 ^ 42)) (bit_xor ((bit_xor w a) / 2 ^ 23) ((bit_xor w a) / 2 ^ 9))) (up 20 (bit_xor w a)))) (bit_xor e ((bit_xor w a) / 2 ^ 44)) 0)
  unfolding three_of
  with_three_turn =
      let y = bit_xor w a in
      let f = (bit_xor (bit_xor (bit_xor (up 1 y) (up 10 y)) (up 22 y)) (bit_xor (up 41 y) (up 55 y))) in
      let g = (bit_xor (bit_xor (bit_xor (bit_xor (y / 2 ^ 63) (y / 2 ^ 54)) (y / 2 ^ 42)) (bit_xor (y / 2 ^ 23) (y / 2 ^ 9))) (up 20 y)) in
      let h = (y / 2 ^ 44) in
      turn_later 180 192 w (num a b c d e) _ (omega arith)
      (subst (Turn 180 w (num a b c d e))
      (num_xor b c d e 0 0 f g h 0 ∙ ap (λ (x : ℕ). num x (bit_xor c f) (bit_xor d g) (bit_xor e h) 0) (xor_zero_r b))
      (turned 180 a b c d e w (three_of y) (three_word y (xor_lt 64 w a l m))))

  pub with_two_turn : Turn 128 w (num a b c d e)
      (num
      (bit_xor b
      (bit_xor (bit_xor (bit_xor (up 7 (bit_xor w a)) (up 16 (bit_xor w a))) (up 39 (bit_xor w a)))
      (bit_xor (bit_xor (up 55 (bit_xor w a)) (up 57 (bit_xor w a))) (up 59 (bit_xor w a)))))
      (bit_xor c
      (bit_xor
      (bit_xor (bit_xor (bit_xor (bit_xor w a / 2 ^ 57) (bit_xor w a / 2 ^ 48)) (bit_xor w a / 2 ^ 25))
      (bit_xor (bit_xor (bit_xor w a / 2 ^ 9) (bit_xor w a / 2 ^ 7)) (bit_xor w a / 2 ^ 5)))
      (up 7 (bit_xor w a))))
      (bit_xor d (bit_xor w a / 2 ^ 57))
      e
      0)
  unfolding two_of
  with_two_turn =
      let y = bit_xor w a in
      let f = bit_xor (bit_xor (bit_xor (up 7 y) (up 16 y)) (up 39 y)) (bit_xor (bit_xor (up 55 y) (up 57 y)) (up 59 y)) in
      let g = bit_xor (bit_xor (bit_xor (bit_xor (y / 2 ^ 57) (y / 2 ^ 48)) (y / 2 ^ 25)) (bit_xor (bit_xor (y / 2 ^ 9) (y / 2 ^ 7)) (y / 2 ^ 5))) (up 7 y) in
      let h = y / 2 ^ 57 in
      subst (Turn 128 w (num a b c d e))
      (num_xor b c d e 0 f g h 0 0 ∙ ap (λ (x : ℕ). num (bit_xor b f) (bit_xor c g) (bit_xor d h) x 0) (xor_zero_r e))
      (turned 128 a b c d e w (two_of y) (two_word y (xor_lt 64 w a l m)))

  pub with_one_turn : Turn 64 w (num a b c d e)
      (num (bit_xor b (fifth (bit_xor w a))) (bit_xor c (fifth (bit_xor w a / 2 ^ 32) / 2 ^ 32)) d e 0)
  unfolding one_of
  with_one_turn =
      let y = bit_xor w a in
      let f = fifth y in
      let g = fifth (y / 2 ^ 32) / 2 ^ 32 in
      subst (Turn 64 w (num a b c d e))
      (num_xor b c d e 0 f g 0 0 0 ∙ ap₂ (λ (x z : ℕ). num (bit_xor b f) (bit_xor c g) x z 0) (xor_zero_r d) (xor_zero_r e))
      (turned 64 a b c d e w (one_of y) (one_word y (xor_lt 64 w a l m)))

pub last_turn : (a b c d e w : ℕ) → Turn 0 w (num a b c d e) (num (bit_xor b (steps 64 (bit_xor w a))) c d e 0)
last_turn a b c d e w =
    let f = steps 64 (bit_xor w a) in
    subst (Turn 0 w (num a b c d e))
    (num_xor b c d e 0 f 0 0 0 0
    ∙ ap₂ (λ (x y : ℕ). num (bit_xor b f) x y (bit_xor e 0) 0) (xor_zero_r c) (xor_zero_r d)
    ∙ ap (λ (x : ℕ). num (bit_xor b f) c d x 0) (xor_zero_r e))
    (turned 0 a b c d e w (num f 0 0 0 0) (sym (steps_zero (num f 0 0 0 0) ∙ num_low f)))
