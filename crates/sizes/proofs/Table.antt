-- The order of the slab sizes, and the class rule over them, as specs/Table.antt states them: from the laws of `size_of` and `slab_for`. Assumes nothing.
use mathlib.Core.Path.{◌≡◌, ap, ◌∙◌}
use Prim.Native.Nat.{ℕ, ◌≤◌, ◌<◌}
use native.Mathlib.Omega.{arith}
use lib.Dec.{ltb}
use lib.ListN.{length, get_or}
use borrow.Author.Tests.{lt-ltb, le-ltb, ltb-true, ltb-false}
use Rattle.refusal.specs.Refusals.{refusal, too_large}
use Rattle.refusal.proofs.Tests.{by_test}
use Rattle.sizes.specs.Sizes.{slab_sizes, size_of, slabs, slab_for, class_of}
use Rattle.sizes.specs.Table.{Ascends, taking, FirstToTake, ClassRule}
use Rattle.sizes.proofs.Laws.{length_slab_sizes, size_of_ascends, slab_for_takes, slab_for_least, slab_for_upto}
use Rattle.std.specs.Prelude.{Ok, Err}

pub slab_sizes_ascend : Ascends slab_sizes
unfolding size_of
slab_sizes_ascend j k h l = size_of_ascends j k h (omega (arith, length_slab_sizes))

-- ---- the class, by the test that decides it
within : (n : ℕ) → slab_for n < slabs → class_of n ≡ Ok (slab_for n)
unfolding class_of
within n h = rw (lt-ltb _ _ h)

past : (n : ℕ) → slabs ≤ slab_for n → class_of n ≡ Err (refusal too_large 0)
unfolding class_of
past n h = rw (le-ltb _ _ h)

-- where nothing takes n bytes
none_past : (n : ℕ) → ((j : ℕ) → j < length slab_sizes → get_or slab_sizes j 0 < taking n (get_or slab_sizes j 0)) → slabs ≤ slab_for n
unfolding size_of
none_past n h =
    by_test (ltb (slab_for n) slabs)
    (λ t.
    let b = ltb-true (slab_for n) slabs t in
    absurd (omega (arith, slab_for_takes n b, h (slab_for n) (omega (arith, length_slab_sizes)))))
    (ltb-false (slab_for n) slabs)

found_at : (n k : ℕ) → class_of n ≡ Ok k → FirstToTake slab_sizes n k
unfolding size_of
found_at n k e =
    by_test (ltb (slab_for n) slabs)
    (λ t.
    let b = ltb-true (slab_for n) slabs t in
    let s = within n b in
    let q : slab_for n ≡ k = cc in
    record {
      within = omega (arith, length_slab_sizes);
      takes = rw q at (slab_for_takes n b);
      first = λ j h. slab_for_least n j (omega arith);
    })
    (λ t.
    let s = past n (ltb-false _ _ t) in
    let z : ◌≡◌ {A = ℕ} 0 1 = cc in absurd (omega arith))

finds_at : (n k : ℕ) → FirstToTake slab_sizes n k → class_of n ≡ Ok k
unfolding size_of
finds_at n k f =
    let b : k < slabs = omega (arith, f.within, length_slab_sizes) in
    let u = slab_for_upto n k f.takes in
    let q : slab_for n ≡ k =
    by_test (ltb (slab_for n) k)
    (λ t. let l = ltb-true (slab_for n) k t in absurd (omega (arith, slab_for_takes n (omega arith), f.first (slab_for n) l)))
    (λ t. omega (arith, ltb-false (slab_for n) k t)) in
    within n (omega arith) ∙ ap Ok q

none_at : (n : ℕ) → class_of n ≡ Err (refusal too_large 0) → (j : ℕ) → j < length slab_sizes → get_or slab_sizes j 0 < taking n (get_or slab_sizes j 0)
unfolding size_of
none_at n e j h =
    by_test (ltb (slab_for n) slabs)
    (λ t.
    let s = within n (ltb-true _ _ t) in
    let z : ◌≡◌ {A = ℕ} 0 1 = cc in absurd (omega arith))
    (λ t. slab_for_least n j (omega (arith, ltb-false (slab_for n) slabs t, length_slab_sizes)))

pub slab_sizes_class : ClassRule slab_sizes
slab_sizes_class = record { found = found_at; finds = finds_at; none = none_at; refuses = λ n h. past n (none_past n h) }
