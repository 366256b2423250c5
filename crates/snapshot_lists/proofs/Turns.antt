-- One turn of each loop over a file. Assumes nothing.
use mathlib.Core.Bool.{true, ◌&&◌}
use mathlib.Core.Path.{◌≡◌, refl, sym, ap, subst, ◌∙◌}
use mathlib.Core.List.{List}
use Prim.Native.Nat.{ℕ, zero, suc, ◌+◌, ◌-◌, ◌*◌, ◌/◌, ◌%◌, ◌≤◌, ◌<◌}
use native.Mathlib.Numerals.{add-one}
use native.Mathlib.Nat.{mul-suc}
use native.Mathlib.Omega.{arith}
use lib.ListN.{length, set}
use lib.Dec.{eqb, leb, ltb}
use borrow.Author.Tests.{eq-eqb, eqb-true, ltb-true, ltb-false, leb-true, le-leb}
use Rattle.refusal.proofs.Tests.{and_true, both_ways, by_test}
use Rattle.carried.specs.Carried.{width, put_row}
use Rattle.keys.specs.Keys.{brought}
use Rattle.snapshot_blocks.specs.Formats.{Format, Reader, format_of, per_block}
use Rattle.snapshot_blocks.specs.Blocks.{count_in}
use Rattle.snapshot.specs.Snapshot.{block_at, unless_wrong, wrong_at, wrong_by, is_place}
use Rattle.snapshot.proofs.Turns.{is_place_place, wrong_at_count, wrong_at_few}
use Rattle.snapshot_lists.proofs.Versions.{known_first, same_format}
use Rattle.snapshot_lists.specs.Lists.{judged, entry_at, ids_from, carried_from, locations_from, total, is_room, format_in, ReadInto, read_into}
use Rattle.refusal.specs.Refusals.{refusal}
use Rattle.refusal.specs.declared.Refusal.{Refusal}
use Rattle.refusal.specs.declared.Kind.{Kind}
use Rattle.std.specs.Prelude.{Option, Some, None, Ok, Err}

pub minus_zero : (n : ℕ) → n - 0 ≡ n
minus_zero n = omega arith

-- ---- a turn of each loop
module _ (file : List ℕ) (i n : ℕ) (h : i < n) where
  left_one : n - i ≡ suc (n - (i + 1))
  left_one = omega arith

  module _ (reader : Reader) (wrong : Option Kind) (e : wrong ≡ wrong_by reader i file) where
    pub judged_turn : wrong ≡ None → judged reader file (i + 1) (n - (i + 1)) ≡ judged reader file i (n - i)
    unfolding judged
    judged_turn z = rw (left_one, ← e, z, add-one)

    pub judged_here : (kind : Kind) → wrong ≡ Some kind → Err (refusal kind i) ≡ judged reader file i (n - i)
    unfolding judged
    judged_here kind z = rw (left_one, ← e, z)

  module _ (f : Format) (l : List ℕ) where
    pub ids_turn : (m : List ℕ) → m ≡ set l i (entry_at f file i).id → ids_from f file (i + 1) (n - (i + 1)) m ≡ ids_from f file i (n - i) l
    unfolding ids_from
    ids_turn m e = rw (left_one, e, add-one)

    pub locations_turn : (m : List ℕ) → m ≡ set l i (entry_at f file i).location → locations_from f file (i + 1) (n - (i + 1)) m ≡ locations_from f file i (n - i) l
    unfolding locations_from
    locations_turn m e = rw (left_one, e, add-one)

    pub carried_turn : (m : List ℕ) → m ≡ put_row width l i (brought (entry_at f file i).carried) → carried_from f file (i + 1) (n - (i + 1)) m ≡ carried_from f file i (n - i) l
    unfolding carried_from
    carried_turn m e = rw (left_one, e, add-one)

module _ (file : List ℕ) (i n : ℕ) (h : n ≤ i) where
  left_none : n - i ≡ zero
  left_none = omega arith

  pub judged_done : (reader : Reader) → judged reader file i (n - i) ≡ Ok tt
  unfolding judged
  judged_done reader = rw left_none

  module _ (f : Format) (l : List ℕ) where
    pub ids_done : ids_from f file i (n - i) l ≡ l
    unfolding ids_from
    ids_done = rw left_none

    pub carried_done : carried_from f file i (n - i) l ≡ l
    unfolding carried_from
    carried_done = rw left_none

    pub locations_done : locations_from f file i (n - i) l ≡ l
    unfolding locations_from
    locations_done = rw left_none

module _ (f : Format) (file : List ℕ) (n : ℕ) (l : List ℕ) where
  pub ids_start : ids_from f file 0 (n - 0) l ≡ ids_from f file 0 n l
  ids_start = ap (λ (k : ℕ). ids_from f file 0 k l) (minus_zero n)

  pub carried_start : carried_from f file 0 (n - 0) l ≡ carried_from f file 0 n l
  carried_start = ap (λ (k : ℕ). carried_from f file 0 k l) (minus_zero n)

  pub locations_start : locations_from f file 0 (n - 0) l ≡ locations_from f file 0 n l
  locations_start = ap (λ (k : ℕ). locations_from f file 0 k l) (minus_zero n)

-- ---- at a place or past it
pub at_or_past : {P : Type 0} (b i : ℕ) → b ≤ i → (i ≡ b → P) → (b < i → P) → P
at_or_past b i h f g = by_test (ltb b i) (λ p. g (ltb-true b i p)) (λ p. f (omega (arith, ltb-false b i p)))

-- ---- what a verdict on blocks says
module _ (reader : Reader) (file : List ℕ) where
  -- nothing is wrong in any block
  pub judged_right : (number n : ℕ) → judged reader file number n ≡ Ok tt → (i : ℕ) → number ≤ i → i < number + n → wrong_by reader i file ≡ None
  unfolding judged
  judged_right number zero e i l h = absurd (omega arith)
  judged_right number (suc n) e i l h = by (wrong_by reader number file) refl e (λ q k. judged_right (suc number) n q i k (omega arith))
    where
      by : (w : Option Kind) → wrong_by reader number file ≡ w → unless_wrong w number (judged reader file (suc number) n) ≡ Ok tt
          → (judged reader file (suc number) n ≡ Ok tt → suc number ≤ i → wrong_by reader i file ≡ None) → wrong_by reader i file ≡ None
      by None p e f = at_or_past number i l (λ s. rw s p) (λ s. f e (omega arith))
      by (Some kind) p e f = let n : ◌≡◌ {A = ℕ} 0 1 = cc in absurd (omega arith)

  pub right_judged : (number n : ℕ) → ((i : ℕ) → number ≤ i → i < number + n → wrong_by reader i file ≡ None) → judged reader file number n ≡ Ok tt
  unfolding judged
  right_judged number zero g = refl
  right_judged number (suc n) g = rw (g number (omega arith) (omega arith)) (right_judged (suc number) n (λ i l h. g i (omega arith) (omega arith)))

  -- nothing is wrong before the block that is refused, and that is
  pub record Stopped (number n : ℕ) (r : Refusal) : Type 0 where
    pub from : number ≤ r.index
    pub within : r.index < number + n
    pub before : (i : ℕ) → number ≤ i → i < r.index → wrong_by reader i file ≡ None
    pub wrong : wrong_by reader r.index file ≡ Some r.kind

  pub judged_stopped : (number n : ℕ) (r : Refusal) → judged reader file number n ≡ Err r → Stopped number n r
  unfolding judged
  judged_stopped number zero r e = let n : ◌≡◌ {A = ℕ} 0 1 = cc in absurd (omega arith)
  judged_stopped number (suc n) r e = by (wrong_by reader number file) refl e (judged_stopped (suc number) n r)
    where
      by : (w : Option Kind) → wrong_by reader number file ≡ w → unless_wrong w number (judged reader file (suc number) n) ≡ Err r
          → (judged reader file (suc number) n ≡ Err r → Stopped (suc number) n r) → Stopped number (suc n) r
      by None p e f =
          let s = f e in
          record {
            from = omega (arith, s.from);
            within = omega (arith, s.within);
            before = λ i l h. at_or_past number i l (λ z. rw z p) (λ z. s.before i (omega arith) h);
            wrong = s.wrong;
          }
      by (Some kind) p e f =
          let q : refusal kind number ≡ r = cc in
          subst (Stopped number (suc n)) q (record { from = omega arith; within = omega arith; before = λ i l h. absurd (omega arith); wrong = p })

  pub stopped_judged : (number n : ℕ) (r : Refusal) → Stopped number n r → judged reader file number n ≡ Err r
  unfolding judged
  stopped_judged number zero r s = absurd (omega (arith, s.from, s.within))
  stopped_judged number (suc n) r s =
      at_or_past number r.index s.from
      (λ z. rw (rw z at s.wrong) (ap (λ (k : ℕ). Err (refusal r.kind k)) (sym z)))
      (λ z. rw (s.before number (omega arith) z) (stopped_judged (suc number) n r (record { from = omega arith; within = omega (arith, s.within); before = λ i l h. s.before i (omega arith) h; wrong = s.wrong })))

-- ---- how many rows, and whether they have room
pub total_le : (f : Format) (file : List ℕ) → is_place 0 (length file) ≡ true → wrong_at f (length file / 512 - 1) file ≡ None → total f file ≤ per_block f * (length file / 512)
unfolding total
total_le f file p g =
    let q = is_place_place 0 (length file) p in
    let e : length file / 512 ≡ suc (length file / 512 - 1) = omega (arith, q.within) in
    let m = ap (λ (x : ℕ). per_block f * x) e ∙ mul-suc (per_block f) (length file / 512 - 1) in
    let c = wrong_at_count f (length file / 512 - 1) file g in
    omega arith

-- so that all blocks are right by the format of the first, which this library knows
module _ (file : List ℕ) (p : is_place 0 (length file) ≡ true) (h : judged format_of file 0 (length file / 512) ≡ Ok tt) where
  pub by_reader : (i : ℕ) → i < length file / 512 → wrong_by format_of i file ≡ None
  by_reader i l = judged_right format_of file 0 (length file / 512) h i (omega arith) (omega arith)

  pub by_format : (i : ℕ) → i < length file / 512 → wrong_at (format_in file) i file ≡ None
  by_format i l = same_format format_of file i (λ k m. by_reader k (omega arith))

  pub knows_format : format_of (format_in file).version ≡ format_in file
  knows_format = let q = is_place_place 0 (length file) p in known_first format_of file (by_reader 0 q.within)

  -- and the last has no more rows than fit a block
  pub last_few : count_in (block_at (length file / 512 - 1) file) ≤ 20
  last_few = let q = is_place_place 0 (length file) p in wrong_at_few (length file / 512 - 1) file (by_reader (length file / 512 - 1) (omega (arith, q.within)))

  pub total_fits : total (format_in file) file ≤ per_block (format_in file) * (length file / 512)
  total_fits = let q = is_place_place 0 (length file) p in total_le (format_in file) file p (by_format (length file / 512 - 1) (omega (arith, q.within)))

module _ (f : Format) (blocks ids locations carried : ℕ) where
  pub room : is_room f blocks ids locations carried ≡ true → (per_block f * blocks ≤ ids) × (locations ≡ ids) × (carried ≡ ids * width)
  unfolding is_room
  room e =
      let p = and_true (leb (per_block f * blocks) ids) (eqb locations ids && eqb carried (ids * width)) e in
      let q = and_true (eqb locations ids) (eqb carried (ids * width)) p.1 in
      (leb-true (per_block f * blocks) ids p.0, eqb-true locations ids q.0, eqb-true carried (ids * width) q.1)

  pub room_is : per_block f * blocks ≤ ids → locations ≡ ids → carried ≡ ids * width → is_room f blocks ids locations carried ≡ true
  unfolding is_room
  room_is p q r = rw (le-leb (per_block f * blocks) ids p, eq-eqb locations ids q, eq-eqb carried (ids * width) r)

pub eightieth : (carried ids : ℕ) → carried % 80 ≡ 0 → eqb carried (ids * 80) ≡ eqb (carried / 80) ids
eightieth carried ids e =
    both_ways (eqb carried (ids * 80)) (eqb (carried / 80) ids)
    (λ p. eq-eqb (carried / 80) ids (omega (arith, eqb-true carried (ids * 80) p)))
    (λ p. eq-eqb carried (ids * 80) (omega (arith, eqb-true (carried / 80) ids p)))

-- ---- what is taken where nothing is wrong
pub read_into_rows : (f : Format) (file ids locations carried ids' locations' carried' : List ℕ) (n : ℕ) → f ≡ format_in file → is_place 0 (length file) ≡ true
    → is_room f (length file / 512) (length ids) (length locations) (length carried) ≡ true → judged format_of file 0 (length file / 512) ≡ Ok tt → n ≡ total f file
    → ids' ≡ ids_from f file 0 n ids → locations' ≡ locations_from f file 0 n locations → carried' ≡ carried_from f file 0 n carried
    → ◌≡◌ {A = ReadInto} (record { answer = Ok n; ids = ids'; locations = locations'; carried = carried' }) (read_into file ids locations carried)
unfolding read_into
read_into_rows f file ids locations carried ids' locations' carried' n k p r w e e₁ e₂ e₃ =
    let q : is_room (format_in file) (length file / 512) (length ids) (length locations) (length carried) ≡ true = rw k at r in
    rw (p, q, w, e₁, e₂, e₃, e, k)
