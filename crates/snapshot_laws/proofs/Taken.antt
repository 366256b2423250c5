-- A file that was written is taken into the lists whole, and what is taken was written: the rows of the file, by their places, are those that it was
-- written from, and the lists start with them. Assumes nothing.
use mathlib.Core.Bool.{true, false}
use mathlib.Core.Path.{◌≡◌, refl, sym, ap, subst, ◌∙◌}
use mathlib.Core.List.{List, [], ◌∷◌, map}
use Prim.Native.Nat.{ℕ, ◌+◌, ◌-◌, ◌*◌, ◌/◌, ◌^◌, ◌≤◌, ◌<◌}
use native.Mathlib.Nat.{div-le_self}
use native.Mathlib.Omega.{arith}
use lib.ListN.{length, take, drop, length-append, length-map}
use lib.Seq.{take_at}
use Rattle.little_endian.specs.LittleEndian.{Bytes}
use Rattle.carried.specs.Carried.{width}
use Rattle.keys.specs.Keys.{brought}
use Rattle.keys.proofs.Laws.{length_brought}
use Rattle.snapshot_blocks.specs.Formats.{Format, format_of, per_block}
use Rattle.snapshot_blocks.specs.Blocks.{Entry, ascending, version_in}
use Rattle.snapshot_blocks.specs.Valid.{Sound, Valid, All}
use Rattle.snapshot_blocks.specs.Files.{file_from, file_of, full_blocks}
use Rattle.snapshot_blocks.proofs.Blocks.{per_block_some}
use Rattle.snapshot_blocks.proofs.Turns.{format_of_sound, format_of_short}
use Rattle.snapshot.specs.Snapshot.{block_at, is_place, wrong_at, wrong_by}
use Rattle.snapshot.proofs.Turns.{place_is_place}
use Rattle.snapshot_lists.specs.Lists.{judged, total, is_room, format_in, ReadInto, read_into}
use Rattle.snapshot_lists.proofs.Turns.{by_format, knows_format, room_is, read_into_rows, right_judged}
use Rattle.snapshot_lists.proofs.Versions.{known_format}
use Rattle.snapshot_laws.specs.Reading.{Knows, brought_by}
use Rattle.snapshot_laws.specs.Lent.{entries_from, Starts, Lent, Holds, Wrote}
use Rattle.snapshot_laws.proofs.Files.{Fit, fit_file_of}
use Rattle.snapshot_laws.proofs.Written.{file_length_lem, good_file_from}
use Rattle.snapshot_laws.proofs.Entries.{Brings, total_file_from, entries_file_from}
use Rattle.snapshot_laws.proofs.Read.{left, rows, few, fit_rows, valid_rows, ordered_rows, file_rows_from, file_written}
use Rattle.snapshot_laws.proofs.Lent.{read_into_lent}
use Rattle.std.specs.Prelude.{Ok, None}

-- ---- a format that this library knows
knows_sound : (f : Format) → Knows format_of f → Sound f
knows_sound f k = subst Sound k (format_of_sound f.version)

knows_brings : (f : Format) → Knows format_of f → (es : List Entry) → All (Valid f) es → All Brings es
knows_brings f k [] a = tt
knows_brings f k (e ∷ es) a =
    let s = knows_sound f k in
    let l : length e.carried ≡ (format_of f.version).width = a.0.wide ∙ ap (λ (x : Format). x.width) (sym k) in
    let r : (format_of f.version).refuses e.carried ≡ false = ap (λ (x : Format). x.refuses e.carried) k ∙ a.0.carries in
    (length_brought e.carried (omega (arith, s.wide, a.0.wide)) (format_of_short f.version e.carried l r), knows_brings f k es a.1)

-- ---- the lists start with these rows
length_brought_by : (es : List Entry) → All Brings es → length (brought_by es) ≡ length es * width
unfolding brought_by
length_brought_by [] a = refl
length_brought_by (e ∷ es) a = length-append (brought e.carried) (brought_by es) ∙ omega (arith, a.0, length_brought_by es a.1)

starts_holds : (es : List Entry) (ids locations carried : List ℕ) (t : ReadInto) → Starts es ids locations carried t → t.answer ≡ Ok (length es) → All Brings es → Holds es t
starts_holds es ids locations carried t s answer a =
    record {
      answered = answer;
      ids_held = ap (take (length es)) s.ids_hold ∙ take_at (map (λ (e : Entry). e.id) es) (drop (length es) ids) (length es) (length-map es (λ (e : Entry). e.id));
      locations_held =
          ap (take (length es)) s.locations_hold
          ∙ take_at (map (λ (e : Entry). e.location) es) (drop (length es) locations) (length es) (length-map es (λ (e : Entry). e.location));
      carried_held = ap (take (length es * width)) s.carried_hold ∙ take_at (brought_by es) (drop (length es * width) carried) (length es * width) (length_brought_by es a);
    }

-- what is lent of a file that was written from so many blocks
lent_holds : (f : Format) (k : Knows format_of f) (left : ℕ) → left < 2 ^ 32 → (es : List Entry) → Fit f left es → All (Valid f) es → ascending es ≡ true
    → (file ids locations carried : List ℕ) (n : ℕ) → file ≡ file_from f 0 left es → format_in file ≡ f → n ≡ total (format_in file) file
    → (t : ReadInto) → t.answer ≡ Ok n → Lent file ids locations carried t n → Holds es t
lent_holds f k left big es fit a o file ids locations carried n written format count t answer lent =
    let s = knows_sound f k in
    let m : n ≡ total f (file_from f 0 left es) = rw (format, written) at count in
    let same : entries_from (format_in file) file 0 n ≡ es =
    ap (λ (x : Format). entries_from x file 0 n) format ∙ ap (λ (x : List ℕ). entries_from f x 0 n) written ∙ ap (entries_from f (file_from f 0 left es) 0) m
    ∙ entries_file_from f s left big es fit a o in
    starts_holds es ids locations carried t (subst (λ (x : List Entry). Starts x ids locations carried t) same lent.starts)
    (answer ∙ ap Ok (m ∙ total_file_from f s left big es fit a o)) (knows_brings f k es a)

-- ---- what was written is taken
module _ (f : Format) (k : Knows format_of f) (es : List Entry) (n : length es < 2 ^ 32) (a : All (Valid f) es) (o : ascending es ≡ true) where
  abbrev blocks : ℕ
  blocks = full_blocks f (length es)

  sound : Sound f
  sound = knows_sound f k

  few_blocks : blocks < 2 ^ 32
  few_blocks = omega (arith, div-le_self (length es - 1) (per_block f))

  fit_es : Fit f blocks es
  fit_es = fit_file_of f es (per_block_some f sound.narrow)

  pub length_file_of : length (file_of f es) ≡ 512 * blocks + 512
  unfolding file_of
  length_file_of = file_length_lem f sound blocks few_blocks es fit_es a o

  pub right_file_of : (j : ℕ) → j ≤ blocks → wrong_at f j (file_of f es) ≡ None
  unfolding file_of
  right_file_of = good_file_from f sound blocks few_blocks es fit_es a o

  format_file_of : format_in (file_of f es) ≡ f
  format_file_of = known_format format_of (file_of f es) f 0 k (right_file_of 0 (omega arith))

  right_by : (j : ℕ) → j ≤ blocks → wrong_by format_of j (file_of f es) ≡ None
  right_by j h =
      let g = right_file_of j h in
      ap (λ (x : Format). wrong_at x j (file_of f es)) (known_format format_of (file_of f es) f j k g) ∙ g

  none_wrong : judged format_of (file_of f es) 0 (length (file_of f es) / 512) ≡ Ok tt
  none_wrong =
      let l = length_file_of in
      right_judged format_of (file_of f es) 0 (length (file_of f es) / 512) (λ i k h. right_by i (omega arith))

  -- the lists need room for whole blocks
  pub read_into_file_of : (ids locations carried : List ℕ) → per_block f * (full_blocks f (length es) + 1) ≤ length ids → length locations ≡ length ids
      → length carried ≡ length ids * width → Holds es (read_into (file_of f es) ids locations carried)
  unfolding file_of
  read_into_file_of ids locations carried r e₁ e₂ =
      let file = file_of f es in
      let l = length_file_of in
      let p : is_place 0 (length file) ≡ true = place_is_place 0 (length file) (omega arith) (omega arith) in
      let b : length file / 512 ≡ blocks + 1 = omega arith in
      let q : is_room f (length file / 512) (length ids) (length locations) (length carried) ≡ true =
      room_is f (length file / 512) (length ids) (length locations) (length carried) (rw b r) e₁ e₂ in
      let t = read_into file ids locations carried in
      let answer : t.answer ≡ Ok (total f file) =
      sym (ap (λ (x : ReadInto). x.answer) (read_into_rows f file ids locations carried _ _ _ (total f file) (sym format_file_of) p q none_wrong refl refl refl refl)) in
      let lent = read_into_lent file ids locations carried (total f file) answer in
      lent_holds f k blocks few_blocks es fit_es a o file ids locations carried (total f file) whole format_file_of lent.2 t answer lent.3
    where
      whole : file_of f es ≡ file_from f 0 blocks es
      whole = refl

-- ---- what is taken was written
pub read_into_wrote : (file ids locations carried : List ℕ) (n : ℕ) → Bytes file → (read_into file ids locations carried).answer ≡ Ok n → Wrote file (read_into file ids locations carried)
read_into_wrote file ids locations carried n b answer =
    let f = format_in file in
    let s = format_of_sound (version_in (block_at 0 file)) in
    let lent = read_into_lent file ids locations carried n answer in
    let p = lent.0 in
    let known : Knows format_of f = knows_format file p lent.1 in
    let good = by_format file p lent.1 in
    record {
      format = f;
      known = known;
      rows = rows f s file b p good;
      valid = valid_rows f s file b p good;
      ordered = ordered_rows f s file b p good;
      written = file_written f s file b p good;
      holds =
          lent_holds f known (left f s file b p good) (few f s file b p good) (rows f s file b p good) (fit_rows f s file b p good) (valid_rows f s file b p good)
          (ordered_rows f s file b p good) file ids locations carried n (file_rows_from f s file b p good) refl lent.2 (read_into file ids locations carried) answer lent.3;
    }
