-- What the code does to a word is linear: its shifts, a word over another, the map of x^96.
-- Assumes nothing.
use mathlib.Core.Path.{◌≡◌, sym, ap, ap₂, ◌∙◌}
use Prim.Native.Nat.{ℕ, ◌*◌, ◌%◌, ◌^◌}
use lib.Bits.{bit_xor, xor_mod}
use Rattle.crc_steps.proofs.Xor.{xor_swap}
use Rattle.crc_steps.proofs.Agree.{Lin, shifted_xor, id, both}
use Rattle.crc_words.specs.Fold.{up, over, fifth}

pub lup : (k : ℕ) {f : ℕ → ℕ} → Lin f → Lin (λ x. up k (f x))
lup k {f} l =
    record {
      law = λ a b.
          ap (up k) (l.law a b) ∙ ap (λ (x : ℕ). x % 2 ^ 64) (shifted_xor k (f a) (f b)) ∙ xor_mod (f a * 2 ^ k) (f b * 2 ^ k) 64;
    }

pub over_xor : (a b h k : ℕ) → bit_xor (over a h) (over b k) ≡ over (bit_xor a b) (bit_xor h k)
unfolding over
over_xor a b h k = xor_swap (h * 2 ^ 64) a (k * 2 ^ 64) b ∙ ap (λ (x : ℕ). bit_xor x (bit_xor a b)) (sym (shifted_xor 64 h k))

pub above : {f g : ℕ → ℕ} → Lin f → Lin g → Lin (λ x. over (f x) (g x))
above {f} {g} l m = record { law = λ a b. ap₂ over (l.law a b) (m.law a b) ∙ sym (over_xor (f a) (f b) (g a) (g b)) }

pub lin_fifth : Lin fifth
unfolding fifth
lin_fifth =
    let u = both id (lup 1 id) in
    let v = both u (lup 4 u) in
    both (both (both (lup 1 u) (lup 3 u)) (lup 7 id)) (both (both (lup 17 v) (lup 18 v)) (lup 26 v))
