-- A byte may be taken away at a place and put back 281, 285, 344 and 515 bytes on: antt computes it at the highest power of two below 2 ^ 8, both
-- sides step down from there, and both are linear.
-- Assumes nothing.
use mathlib.Core.Path.{◌≡◌, refl, sym, ap, ap₂, ◌∙◌}
use Prim.Native.Nat.{ℕ, ◌+◌, ◌*◌, ◌^◌, ◌<◌}
use native.Mathlib.Nat.{add_assoc}
use lib.Bits.{bit_xor}
use Rattle.crc_steps.specs.Crc32.{step, steps}
use Rattle.crc_steps.proofs.Xor.{four}
use Rattle.crc_steps.proofs.Linear.{steps_xor, steps_add, steps_shift, steps_zero}
use Rattle.crc_steps.proofs.Agree.{id, both, lin_steps, agree, down_id, down_after, down_both, descend}

abbrev put : ℕ → ℕ
put x = four (steps 1872 x) (steps 1840 x) (steps 1368 x) x

top : steps 4120 (2 ^ 7) ≡ put (2 ^ 7)
unfolding steps step
top = refl

none : steps 4120 0 ≡ put 0
unfolding steps step
none = refl

apart : (x : ℕ) → x < 2 ^ 8 → steps 4120 x ≡ put x
apart =
    agree (steps 4120) put (lin_steps 4120) (both (both (both (lin_steps 1872) (lin_steps 1840)) (lin_steps 1368)) id) 8
    (descend (steps 4120) put 7 (down_after 4120 down_id)
    (down_both (down_both (down_both (down_after 1872 down_id) (down_after 1840 down_id)) (down_after 1368 down_id)) down_id)
    none
    top)

steps_four : (m a b c d : ℕ) → steps m (four a b c d) ≡ four (steps m a) (steps m b) (steps m c) (steps m d)
steps_four m a b c d =
    steps_xor m (bit_xor (bit_xor a b) c) d
    ∙ ap (λ (x : ℕ). bit_xor x (steps m d)) (steps_xor m (bit_xor a b) c ∙ ap (λ (x : ℕ). bit_xor x (steps m c)) (steps_xor m a b))

-- where a byte is put back, once the byte after it is the first
abbrev pub spread : ℕ → ℕ
spread x = four (x * 2 ^ (8 * 280)) (x * 2 ^ (8 * 284)) (x * 2 ^ (8 * 343)) (x * 2 ^ (8 * 514))

term : (k n m x : ℕ) → steps ((k + n) + m) (x * 2 ^ k) ≡ steps m (steps n x)
term k n m x =
    ap (λ (a : ℕ). steps a (x * 2 ^ k)) (add_assoc k n m)
    ∙ steps_add k (n + m) (x * 2 ^ k)
    ∙ ap (steps (n + m)) (steps_shift k x)
    ∙ steps_add n m x

pub push : (r x q : ℕ) → x < 2 ^ 8 → steps (4120 + r) (bit_xor (q * 2 ^ 8) x) ≡ steps (4112 + r) (bit_xor q (spread x))
push r x q l =
    steps_xor (4120 + r) (q * 2 ^ 8) x
    ∙ ap₂ bit_xor
    (term 8 4112 r q ∙ sym (steps_add 4112 r q))
    (steps_add 4120 r x
    ∙ ap (steps r) (apart x l)
    ∙ steps_four r (steps 1872 x) (steps 1840 x) (steps 1368 x) x
    ∙ sym
    (steps_four (4112 + r) (x * 2 ^ (8 * 280)) (x * 2 ^ (8 * 284)) (x * 2 ^ (8 * 343)) (x * 2 ^ (8 * 514))
    ∙ ap₂ (λ (a b : ℕ). four a b (steps (4112 + r) (x * 2 ^ (8 * 343))) (steps (4112 + r) (x * 2 ^ (8 * 514))))
    (term 2240 1872 r x)
    (term 2272 1840 r x)
    ∙ ap₂ (λ (a b : ℕ). four (steps r (steps 1872 x)) (steps r (steps 1840 x)) a b)
    (term 2744 1368 r x)
    (term 4112 0 r x ∙ ap (steps r) (steps_zero x))))
    ∙ sym (steps_xor (4112 + r) q (spread x))
