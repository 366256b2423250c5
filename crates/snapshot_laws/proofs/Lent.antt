-- The whole reading equals the steps: the same rows, then the same end or the same refusal; and the lent lists start with these rows. The blocks before
-- the first wrong one are of the first one's format. Assumes nothing.
use mathlib.Core.Bool.{Bool, true, false, not, cond}
use mathlib.Core.Path.{◌≡◌, refl, sym, ap, ◌∙◌}
use mathlib.Core.List.{List, [], ◌++◌, map, append_assoc, append-nil}
use Prim.Native.Nat.{ℕ, zero, suc, ◌+◌, ◌-◌, ◌*◌, ◌/◌, ◌≤◌, ◌<◌}
use native.Mathlib.Nat.{mul-suc, mul-zero}
use native.Mathlib.Omega.{arith}
use lib.ListN.{length, take, drop, set, length-set, length-drop, length-append, take-append-drop}
use lib.Seq.{take-suc-set, drop-set-lt, take_at, drop_at, drop-drop, append_snoc}
use borrow.Author.Tests.{eq-eqb}
use Rattle.refusal.specs.Refusals.{refusal, wrong_shape}
use Rattle.refusal.specs.declared.Kind.{Kind}
use Rattle.refusal.specs.declared.Refusal.{Refusal}
use Rattle.carried.specs.Carried.{width, put_row}
use Rattle.carried.proofs.Laws.{put_row_done}
use Rattle.keys.specs.Keys.{brought}
use Rattle.snapshot_blocks.specs.Formats.{Format, Reader, format_of, per_block}
use Rattle.snapshot_blocks.specs.Blocks.{Entry, count_in, version_in, rows_in_block}
use Rattle.snapshot_blocks.specs.Valid.{Sound, All}
use Rattle.snapshot_blocks.proofs.Blocks.{per_block_some}
use Rattle.snapshot_blocks.proofs.Turns.{format_of_sound}
use Rattle.snapshot.specs.Snapshot.{block_at, is_place, is_last, wrong_at, step_of, wrong_by, step_by}
use Rattle.snapshot.proofs.Turns.{is_place_place}
use Rattle.snapshot_lists.specs.Lists.{judged, read_judged, total, entry_at, ids_from, carried_from, locations_from, is_room, format_in, ReadInto, refusing, read_into}
use Rattle.snapshot_lists.proofs.Turns.{by_format, knows_format, total_fits, room, judged_stopped}
use Rattle.snapshot_lists.proofs.Rows.{not_last, full}
use Rattle.snapshot_lists.proofs.Versions.{known_first, same_format}
use Rattle.snapshot_laws.specs.Reading.{Shown, shown_of, position, Reads, ended, Knows, brought_by}
use Rattle.snapshot_laws.specs.Lent.{entries_from, Starts, Lent}
use Rattle.snapshot_laws.proofs.Steps.{map_append, reads_last, reads_full}
use Rattle.snapshot_laws.proofs.Entries.{length_entries_from, entries_from_add, rows_block, rows_full, Brings, brings_block, all_total}
use Rattle.snapshot_blocks.specs.declared.Row.{Row}
use Rattle.snapshot.specs.declared.Position.{Position}
use Rattle.std.specs.Prelude.{⊤, Result, Ok, Err, Option, Some, None}

-- ---- the steps
module _ (reader : Reader) (f : Format) (s : Sound f) (file : List ℕ) (p : is_place 0 (length file) ≡ true) where
  -- from a block to the block at `to`, and on as it goes there
  reads_to : (to : ℕ) → to < length file / 512 → (0 < to → Knows reader f) → ((i : ℕ) → i < to → wrong_at f i file ≡ None) → (stop : Result (Option (Row × Position)) Refusal) (rs : List Shown)
      → Reads reader file stop (position to 0) rs → (m j : ℕ) → j + m ≡ to
      → Reads reader file stop (position j 0) (map shown_of (entries_from f file (per_block f * j) (per_block f * m)) ++ rs)
  unfolding entries_from
  reads_to to h known g stop rs q zero j e = let z : j ≡ to = omega arith in rw (z, mul-zero (per_block f)) q
  reads_to to h known g stop rs q (suc m) j e =
      let gj = g j (omega arith) in
      let n : count_in (block_at j file) ≡ per_block f = full f file p j (omega arith) gj in
      let some = per_block_some f s.narrow in
      let rest = entries_from f file (per_block f * (j + 1)) (per_block f * m) in
      let i = reads_to to h known g stop rs q m (j + 1) (omega arith) in
      let e₁ : per_block f * suc m ≡ per_block f + per_block f * m = omega (arith, mul-suc (per_block f) m) in
      let w : map shown_of (rows_in_block f (block_at j file)) ++ (map shown_of rest ++ rs) ≡ map shown_of (entries_from f file (per_block f * j) (per_block f * suc m)) ++ rs =
      sym (append_assoc (map shown_of (rows_in_block f (block_at j file))) (map shown_of rest) rs)
      ∙ ap (λ (x : List Shown). x ++ rs) (sym (ap (λ (x : ℕ). map shown_of (entries_from f file (per_block f * j) x)) e₁
      ∙ ap (map shown_of) (rows_full f s file j gj n (per_block f * m)) ∙ map_append (rows_in_block f (block_at j file)) rest)) in
      rw (← w) (reads_full f s file j gj reader (known (omega arith)) (not_last f file p j (omega arith)) stop (map shown_of rest ++ rs) i (count_in (block_at j file) - 1) 0 (omega arith))

  -- nothing wrong: the steps show every row, and end
  pub reads_total : Knows reader f → ((i : ℕ) → i < length file / 512 → wrong_at f i file ≡ None)
      → Reads reader file (Ok None) (position 0 0) (map shown_of (entries_from f file 0 (total f file)))
  unfolding total
  reads_total known good =
      let w = is_place_place 0 (length file) p in
      let last : ℕ = length file / 512 - 1 in
      let g : wrong_at f last file ≡ None = good last (omega (arith, w.within)) in
      let t : is_last last file ≡ true = eq-eqb (512 * last + 512) (length file) (omega (arith, w.whole, w.within)) in
      let c = count_in (block_at last file) in
      let z : 0 + per_block f * last ≡ per_block f * last = omega arith in
      let r : Reads reader file (Ok None) (position last 0) (map shown_of (entries_from f file (per_block f * last) c)) =
      rw (← (rows_block f s file last g)) (reads_last f s file last g reader known t c 0 (omega arith)) in
      let all = reads_to last (omega (arith, w.within)) (λ o. known) (λ i l. good i (omega arith)) (Ok None) (map shown_of (entries_from f file (per_block f * last) c)) r last 0 (omega arith) in
      let e : map shown_of (entries_from f file 0 (per_block f * last + c)) ≡ map shown_of (entries_from f file 0 (per_block f * last)) ++ map shown_of (entries_from f file (per_block f * last) c) =
      ap (map shown_of) (entries_from_add f file (per_block f * last) c 0 ∙ ap (λ (x : ℕ). entries_from f file 0 (per_block f * last) ++ entries_from f file x c) z)
      ∙ map_append (entries_from f file 0 (per_block f * last)) (entries_from f file (per_block f * last) c) in
      rw e (rw (mul-zero (per_block f)) at all)

  -- something wrong in a block: the steps show the rows before it, and refuse with the same number and index
  pub reads_wrong : (bad : ℕ) → bad < length file / 512 → (0 < bad → Knows reader f) → ((i : ℕ) → i < bad → wrong_at f i file ≡ None) → (kind : Kind) → wrong_by reader bad file ≡ Some kind
      → Reads reader file (Err (refusal kind bad)) (position 0 0) (map shown_of (entries_from f file 0 (per_block f * bad)))
  unfolding step_of
  reads_wrong bad h known g kind w =
      let e : step_by reader bad 0 file ≡ Err (refusal kind bad) = rw w in
      let all = reads_to bad h known g (Err (refusal kind bad)) [] (ended (position bad 0) e) bad 0 (omega arith) in
      rw (mul-zero (per_block f), append-nil (map shown_of (entries_from f file 0 (per_block f * bad)))) at all

-- ---- what the lent lists hold
module _ (f : Format) (file : List ℕ) where
  ids_from_entries : (n p : ℕ) (l : List ℕ) → p + n ≤ length l → ids_from f file p n l ≡ take p l ++ (map (λ (e : Entry). e.id) (entries_from f file p n) ++ drop (p + n) l)
  unfolding ids_from entries_from
  ids_from_entries zero p l h = let z : p + 0 ≡ p = omega arith in rw z (sym (take-append-drop p l))
  ids_from_entries (suc n) p l h =
      let x = (entry_at f file p).id in
      let s : suc p + n ≡ p + suc n = omega arith in
      ids_from_entries n (suc p) (set l p x) (rw (length-set l p x) (omega arith))
      ∙ rw (take-suc-set l p x (omega arith), drop-set-lt (suc p + n) l p x (omega arith), s) (append_snoc (take p l) x (map (λ (e : Entry). e.id) (entries_from f file (suc p) n) ++ drop (p + suc n) l))

  locations_from_entries : (n p : ℕ) (l : List ℕ) → p + n ≤ length l → locations_from f file p n l ≡ take p l ++ (map (λ (e : Entry). e.location) (entries_from f file p n) ++ drop (p + n) l)
  unfolding locations_from entries_from
  locations_from_entries zero p l h = let z : p + 0 ≡ p = omega arith in rw z (sym (take-append-drop p l))
  locations_from_entries (suc n) p l h =
      let x = (entry_at f file p).location in
      let s : suc p + n ≡ p + suc n = omega arith in
      locations_from_entries n (suc p) (set l p x) (rw (length-set l p x) (omega arith))
      ∙ rw (take-suc-set l p x (omega arith), drop-set-lt (suc p + n) l p x (omega arith), s) (append_snoc (take p l) x (map (λ (e : Entry). e.location) (entries_from f file (suc p) n) ++ drop (p + suc n) l))

  -- a row is stored after those before it
  put_row_next : (p : ℕ) (q rest r : List ℕ) → length q ≡ p * width → width ≤ length rest → length r ≡ width → put_row width (q ++ rest) p r ≡ (q ++ r) ++ drop width rest
  put_row_next p q rest r l h k =
      let n = length-append q rest in
      put_row_done width (q ++ rest) p r (omega arith) k
      ∙ rw (take_at q rest (p * width) l, drop_at q rest (p * width) l) (sym (append_assoc q r (drop width rest)))

  carried_from_entries : (n p : ℕ) (q rest : List ℕ) → length q ≡ p * width → n * width ≤ length rest → All Brings (entries_from f file p n)
      → carried_from f file p n (q ++ rest) ≡ q ++ (brought_by (entries_from f file p n) ++ drop (n * width) rest)
  unfolding carried_from entries_from brought_by
  carried_from_entries zero p q rest l h a = refl
  carried_from_entries (suc n) p q rest l h a =
      let x = brought (entry_at f file p).carried in
      let k : length (q ++ x) ≡ suc p * width = length-append q x ∙ omega (arith, a.0) in
      let m = length-drop width rest in
      let e : width + n * width ≡ suc n * width = omega arith in
      let d : drop (n * width) (drop width rest) ≡ drop (suc n * width) rest = drop-drop (n * width) width rest ∙ ap (λ (y : ℕ). drop y rest) e in
      let c = brought_by (entries_from f file (suc p) n) in
      ap (carried_from f file (suc p) n) (put_row_next p q rest x l (omega arith) a.0)
      ∙ carried_from_entries n (suc p) (q ++ x) (drop width rest) k (omega arith) a.1
      ∙ append_assoc q x (c ++ drop (n * width) (drop width rest))
      ∙ ap (λ (y : List ℕ). q ++ y) (ap (λ (y : List ℕ). x ++ (c ++ y)) d ∙ sym (append_assoc x c (drop (suc n * width) rest)))

  starts_from : (n : ℕ) (ids locations carried : List ℕ) (t : ReadInto) → n ≤ length ids → n ≤ length locations → n * width ≤ length carried
      → All Brings (entries_from f file 0 n) → t.ids ≡ ids_from f file 0 n ids → t.locations ≡ locations_from f file 0 n locations → t.carried ≡ carried_from f file 0 n carried
      → Starts (entries_from f file 0 n) ids locations carried t
  starts_from n ids locations carried t h₁ h₂ h₃ a e₁ e₂ e₃ =
      let l = length_entries_from f file n 0 in
      let z : 0 + n ≡ n = omega arith in
      record {
        ids_hold = rw l (e₁ ∙ (rw z at (ids_from_entries n 0 ids (omega arith))));
        locations_hold = rw l (e₂ ∙ (rw z at (locations_from_entries n 0 locations (omega arith))));
        carried_hold = rw l (e₃ ∙ carried_from_entries n 0 [] carried refl h₃ a);
      }

-- ---- the whole reading
abbrev choice : List ℕ → List ℕ → List ℕ → List ℕ → Bool → Bool → Result ⊤ Refusal → ReadInto
choice file ids locations carried a b d =
    cond (not a) (refusing (refusal wrong_shape 0) ids locations carried) (cond (not b) (refusing (refusal wrong_shape 0) ids locations carried)
    (read_judged d file ids locations carried))

pub read_into_lent : (file ids locations carried : List ℕ) (n : ℕ) → (read_into file ids locations carried).answer ≡ Ok n
    → (is_place 0 (length file) ≡ true) × (judged format_of file 0 (length file / 512) ≡ Ok tt) × (n ≡ total (format_in file) file)
    × Lent file ids locations carried (read_into file ids locations carried) n
unfolding read_into
read_into_lent file ids locations carried n =
    by (is_place 0 (length file)) (is_room (format_in file) (length file / 512) (length ids) (length locations) (length carried))
    (judged format_of file 0 (length file / 512)) refl refl refl
  where
    by : (a b : Bool) (d : Result ⊤ Refusal) → is_place 0 (length file) ≡ a → is_room (format_in file) (length file / 512) (length ids) (length locations) (length carried) ≡ b
        → judged format_of file 0 (length file / 512) ≡ d
        → (choice file ids locations carried a b d).answer ≡ Ok n
        → (is_place 0 (length file) ≡ true) × (judged format_of file 0 (length file / 512) ≡ Ok tt) × (n ≡ total (format_in file) file)
        × Lent file ids locations carried (choice file ids locations carried a b d) n
    by true true (Ok _) p q h e =
        let f = format_in file in
        let s = format_of_sound (version_in (block_at 0 file)) in
        let m : n ≡ total f file = cc in
        let good = by_format file p h in
        let o = room f (length file / 512) (length ids) (length locations) (length carried) q in
        let t = total_fits file p h in
        let brings = all_total f s file p Brings good (λ j g. brings_block (version_in (block_at 0 file)) file j g) in (
          p,
          h,
          m,
          rw m
              (record {
                reads = reads_total format_of f s file p (knows_format file p h) good;
                starts = starts_from f file (total f file) ids locations carried _ (omega arith) (omega arith) (omega arith) brings refl refl refl;
              }),
        )
    by false b d p q r e = let z : ◌≡◌ {A = ℕ} 0 1 = cc in absurd (omega arith)
    by true false d p q r e = let z : ◌≡◌ {A = ℕ} 0 1 = cc in absurd (omega arith)
    by true true (Err _) p q r e = let z : ◌≡◌ {A = ℕ} 0 1 = cc in absurd (omega arith)

-- where it refuses a block, the steps show the rows of the blocks before it, and refuse with the same number and index
pub read_into_stops : (file ids locations carried : List ℕ) (r : Refusal) → is_place 0 (length file) ≡ true
    → is_room (format_in file) (length file / 512) (length ids) (length locations) (length carried) ≡ true
    → (read_into file ids locations carried).answer ≡ Err r
    → Reads format_of file (Err r) (position 0 0) (map shown_of (entries_from (format_in file) file 0 (per_block (format_in file) * r.index)))
unfolding read_into
read_into_stops file ids locations carried r p q e = by (judged format_of file 0 (length file / 512)) refl (rw (p, q) at e)
  where
    by : (d : Result ⊤ Refusal) → judged format_of file 0 (length file / 512) ≡ d → (choice file ids locations carried true true d).answer ≡ Err r
        → Reads format_of file (Err r) (position 0 0) (map shown_of (entries_from (format_in file) file 0 (per_block (format_in file) * r.index)))
    by (Err x) d e =
        let s : x ≡ r = cc in
        let stopped = judged_stopped format_of file 0 (length file / 512) r (d ∙ ap Err s) in
        let before : (i : ℕ) → i < r.index → wrong_by format_of i file ≡ None = λ i k. stopped.before i (omega arith) k in
        reads_wrong format_of (format_in file) (format_of_sound (version_in (block_at 0 file))) file p r.index (omega (arith, stopped.within)) (λ k. known_first format_of file (before 0 k))
        (λ i k. same_format format_of file i (λ a b. before a (omega arith))) r.kind stopped.wrong
    by (Ok _) d e = let z : ◌≡◌ {A = ℕ} 0 1 = cc in absurd (omega arith)
