-- `crc_words::three` meets its contract: three turns, each with one word of z, and its last two words are taken in.
-- Assumes nothing.
use mathlib.Core.Path.{◌≡◌, sym, ap, ◌∙◌, subst}
use mathlib.Core.List.{[], ◌∷◌}
use Prim.Native.Nat.{ℕ}
use lib.Bits.{bit_xor}
use Rattle.crc_words.specs.Fold.{past, over, num, Far}
use Rattle.crc_words.proofs.Read.{far_cons}
use Rattle.crc_words.proofs.LastWords.{past_zero, num_with}
use Rattle.crc_words.proofs.three.Goals as goal

pub returns : goal.returns
unfolding num
returns c =
    let a = c.args in
    let z = a.z in
    let t₃ = over z.d z.e in
    let t₂ = over z.c t₃ in
    let t₁ = over z.b t₂ in
    let none = c.default.ensures in
    let d = c.default.result in
    let h₁ = past c.turn.result in
    let h₂ = past c.turn-two.result in
    let later = c.from-later.result in
    let r = num (bit_xor later.a z.d) (bit_xor later.b z.e) later.c later.d later.e in
    let e : bit_xor (past d) (over z.a t₁) ≡ over z.a t₁ = ap (λ (x : ℕ). bit_xor x (over z.a t₁)) (past_zero d.p d.q d.r d.s d.t none.0 none.1.0 none.1.1.0 none.1.1.1.0 none.1.1.1.1) in
    let f : bit_xor (past c.turn-2.result) t₃ ≡ r = ap (λ (x : ℕ). bit_xor x t₃) (sym c.from-later.ensures) ∙ num_with later.a later.b later.c later.d later.e z.d z.e in
    far_cons a.first.now (a.second.now ∷ a.third.now ∷ []) (over z.a t₁) (bit_xor h₁ t₁) r
    (subst (λ (x : ℕ). Far (a.first.now ∷ []) x (bit_xor h₁ t₁)) e (c.turn.ensures t₁))
    (far_cons a.second.now (a.third.now ∷ []) (bit_xor h₁ t₁) (bit_xor h₂ t₂) r (c.turn-two.ensures t₂)
    (subst (Far (a.third.now ∷ []) (bit_xor h₂ t₂)) f (c.turn-2.ensures t₃)))
