-- Laws of `cutoff` and `cutoff_of`. Assumes nothing.
use mathlib.Core.Bool.{Bool, true, false, not, cond}
use mathlib.Core.Path.{◌≡◌}
use Prim.Native.Nat.{ℕ, ◌≤◌, ◌<◌, min}
use native.Mathlib.Omega.{arith}
use lib.Dec.{ltb}
use lib.Ieee as Ieee
use lib.Ieee.{Float}
use borrow.Author.Tests.{lt-ltb, le-ltb}
use Rattle.address.specs.Address.{most_slots}
use Rattle.fragmentation.specs.Cutoff.{float, quotient, is_ratio, cutoff}
use Rattle.fragmentation.specs.Answer.{cutoff_of}
use Rattle.std.specs.Prelude.{Ok, Some, None}

-- ---- cutoff
module _ (live tip : ℕ) (r : Float) where
  -- full enough
  pub cutoff_full : Ieee.le r (quotient (float live) (float tip)) ≡ true → cutoff live tip r ≡ tip
  unfolding cutoff
  cutoff_full e = rw e

  -- too empty; a quotient past every tip need not be known
  pub cutoff_cut : (n : ℕ) → Ieee.le r (quotient (float live) (float tip)) ≡ false → tip ≤ 65536 → n ≡ min 65536 (Ieee.to_unsigned 64 (quotient (float live) r))
      → cutoff live tip r ≡ min tip n
  unfolding cutoff
  cutoff_cut n e h q = rw e (omega arith)

  pub cutoff_le : cutoff live tip r ≤ tip
  unfolding cutoff
  cutoff_le = by (Ieee.le r (quotient (float live) (float tip))) (Ieee.to_unsigned 64 (quotient (float live) r))
    where
      by : (t : Bool) (n : ℕ) → cond t tip (min tip n) ≤ tip
      by true n = omega arith
      by false n = omega arith

-- ---- cutoff_of, of the counts of a slab and a fill ratio
module _ (live tip : ℕ) (r : Float) (h : ltb most_slots tip ≡ false) (l : ltb tip live ≡ false) (g : not (is_ratio r) ≡ false) where
  pub cutoff_of_from : (n : ℕ) → cutoff live tip r ≡ n → n < tip → cutoff_of live tip r ≡ Ok (Some n)
  unfolding cutoff_of
  cutoff_of_from n e b = simp (h, l, g, e, lt-ltb n tip b)

  pub cutoff_of_nothing : cutoff live tip r ≡ tip → cutoff_of live tip r ≡ (Ok None)
  unfolding cutoff_of
  cutoff_of_nothing e = simp (h, l, g, e, le-ltb tip tip (omega arith))
