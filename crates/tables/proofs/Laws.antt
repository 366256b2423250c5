-- Laws of tests of lengths, and of words. Assumes nothing.
use Rattle.std.proofs.Common.{◌≡◌, ℕ, zero, suc, ◌+◌, ◌*◌, ◌%◌, ◌^◌, Bool, true, false, ◌&&◌, eqb, List, get_or, set, refl, ap, ◌∙◌}
use Rattle.address.specs.Address.{slabs}
use Rattle.model.specs.Tables.{bump, capacities, carried_bytes}
use Rattle.model.specs.Lending.{Lending, if_lent}
use Rattle.model.specs.Memory.{batch_words, tally_words}
use Rattle.model.specs.Lent.{lengths_fit}

-- ---- a test that asks for good capacities too
pub under : (n m : ℕ) (t x : Bool) → t ≡ (capacities n m && x) → capacities n m ≡ true → t ≡ x
under n m t x e h = e ∙ ap (λ k. k && x) h

-- ---- a test for each table, asked of good capacities: true for one that is not lent
pub fit_by : (l : Lending) (n m im lo sm ow b g c : ℕ) {i o s w k y z : Bool}
    → (capacities n m ≡ true → i ≡ if_lent l.id_marks (eqb im n)) → (capacities n m ≡ true → o ≡ if_lent l.locations (eqb lo n))
    → (capacities n m ≡ true → s ≡ if_lent l.slot_marks (eqb sm (slabs * m))) → (capacities n m ≡ true → w ≡ if_lent l.owners (eqb ow (slabs * m)))
    → (capacities n m ≡ true → k ≡ if_lent l.batch (eqb b batch_words)) → (capacities n m ≡ true → y ≡ if_lent l.tallies (eqb g tally_words))
    → (capacities n m ≡ true → z ≡ if_lent l.carried (eqb c (carried_bytes n)))
    → (capacities n m && (i && o && s && w && k && z && y)) ≡ lengths_fit l n m im lo sm ow b g c
unfolding lengths_fit
fit_by l n m im lo sm ow b g c i o s w k y z = go (capacities n m) (λ h j. i h j && o h j && s h j && w h j && k h j && z h j && y h j)
  where
    go : (c : Bool) {x z : Bool} → (c ≡ true → x ≡ z) → (c && x) ≡ (c && z)
    go true f = f refl
    go false f = refl

-- ---- bump
pub bump_nonzero : (t : List ℕ) (base at n : ℕ) → (n ≡ 0 → ⊥) → set t (base + at) ((get_or t (base + at) 0 + n) % 2 ^ 64) ≡ bump t (base + at) n
bump_nonzero t base at zero h = absurd (h refl)
bump_nonzero t base at (suc n) h = refl
