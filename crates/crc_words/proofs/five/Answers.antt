-- `crc_words::five` meets its contract: five turns, each with one word of x.
-- Assumes nothing.
use mathlib.Core.Path.{sym, subst}
use mathlib.Core.List.{List, [], ◌∷◌}
use Prim.Native.Nat.{ℕ}
use lib.Bits.{bit_xor, xor_zero_r}
use lib.ListN.{get_or}
use Rattle.crc_words.specs.Fold.{past, over, num, Far}
use Rattle.crc_words.proofs.Read.{far_cons, five_words}
use Rattle.crc_words.proofs.five.Goals as goal

pub returns : goal.returns
unfolding num over
returns c =
    let ws = c.args.words.now in
    let x = c.args.x in
    let t₄ = over x.d x.e in
    let t₃ = over x.c t₄ in
    let t₂ = over x.b t₃ in
    let at : ℕ → List ℕ = λ i. get_or ws i [] in
    let h₁ = past c.turn.result in
    let h₂ = past c.turn-two.result in
    let h₃ = past c.turn-2.result in
    let h₄ = past c.turn-four.result in
    let r = past c.turn-3.result in
    let z = bit_xor (past c.args.h) (over x.a t₂) in
    let last : Far (at 4 ∷ []) (bit_xor h₄ x.e) r = subst (Far (at 4 ∷ []) (bit_xor h₄ x.e)) (xor_zero_r r) (c.turn-3.ensures 0) in
    subst (λ (us : List (List ℕ)). Far us z r) (sym (five_words ws c.told-words))
    (far_cons (at 0) (at 1 ∷ at 2 ∷ at 3 ∷ at 4 ∷ []) z (bit_xor h₁ t₂) r (c.turn.ensures t₂)
    (far_cons (at 1) (at 2 ∷ at 3 ∷ at 4 ∷ []) (bit_xor h₁ t₂) (bit_xor h₂ t₃) r (c.turn-two.ensures t₃)
    (far_cons (at 2) (at 3 ∷ at 4 ∷ []) (bit_xor h₂ t₃) (bit_xor h₃ t₄) r (c.turn-2.ensures t₄)
    (far_cons (at 3) (at 4 ∷ []) (bit_xor h₃ t₄) (bit_xor h₄ x.e) r (c.turn-four.ensures x.e) last))))
