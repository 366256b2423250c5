-- Versions: a block after one of another version is refused with 19, since all that comes after the version is 19, so a reading of a file that mixes
-- versions shows the blocks before it and stops there; and a block of a version that the reader does not know is refused with 6, before anything else
-- of it is judged. Assumes nothing.
use mathlib.Core.Bool.{Bool, true, false, not, cond}
use mathlib.Core.Path.{◌≡◌, refl, sym, ap, ◌∙◌}
use mathlib.Core.Logic.{◌≢◌, ◌⊎◌, inl, inr}
use mathlib.Core.List.{List}
use Prim.Native.Nat.{ℕ, suc, ◌-◌, ◌*◌, ◌/◌, ◌^◌, ◌<◌}
use native.Mathlib.Omega.{arith}
use lib.ListN.{length}
use borrow.Author.Tests.{eq-eqb, ne_eqb}
use Rattle.refusal.specs.Refusals.{refusal, unknown_version, wrong_block}
use Rattle.refusal.specs.declared.Refusal.{Refusal}
use Rattle.refusal.specs.declared.Kind.{Kind}
use Rattle.seal.specs.Seal.{is_signed}
use Rattle.snapshot_blocks.specs.Formats.{Format, format_of, format_before, version2, per_block}
use Rattle.snapshot_blocks.specs.Blocks.{Entry, block_of, version_in, right_in, wrong_in}
use Rattle.snapshot_blocks.specs.Valid.{Sound, Valid, All}
use Rattle.snapshot_blocks.specs.Files.{file_from, file_of}
use Rattle.snapshot_blocks.proofs.Rows.{all_wide}
use Rattle.snapshot_blocks.proofs.Blocks.{per_block_some, version_in_block_of, intact_block_of}
use Rattle.snapshot_blocks.proofs.Turns.{version2_sound, format_of_sound}
use Rattle.snapshot.specs.Snapshot.{block_at, is_place, is_last, follows, wrong_at, step_of, format_at}
use Rattle.snapshot.proofs.Turns.{is_place_place, place_is_place}
use Rattle.snapshot_lists.specs.Lists.{judged, is_room, format_in, read_into}
use Rattle.snapshot_lists.proofs.Turns.{stopped_judged}
use Rattle.snapshot_lists.proofs.Versions.{known_first, same_format}
use Rattle.snapshot_laws.specs.Reading.{position, ended}
use Rattle.snapshot_laws.specs.Statements.{VersionsApart, MixedStops, MixedLists, UnknownVersion, UnknownFile, UnknownBefore, ReadersKnow}
use Rattle.snapshot_laws.proofs.Lists.{all_take, all_drop}
use Rattle.snapshot_laws.proofs.Lent.{reads_wrong}
use Rattle.snapshot_laws.proofs.Files.{fit_file_of, chunk, length_chunk_le, length_file_from, block_at_file_from}
use Rattle.std.specs.Prelude.{Err, Option, Some, None}

-- ---- after the version all that is wrong is 19
wrong_in_late : (f : Format) (number : ℕ) (last : Bool) (block : List ℕ) → is_signed block ≡ true → version_in block ≡ f.version
    → (wrong_in f number last block ≡ None) ⊎ (wrong_in f number last block ≡ Some wrong_block)
unfolding wrong_in
wrong_in_late f number last block i v = rw (i, eq-eqb (version_in block) f.version v) (by (right_in f number last block))
  where
    by : (right : Bool) → (◌≡◌ {A = Option Kind} (cond (not right) (Some wrong_block) None) None) ⊎ (◌≡◌ {A = Option Kind} (cond (not right) (Some wrong_block) None) (Some wrong_block))
    by false = inr refl
    by true = inl refl

wrong_at_apart : (f : Format) (before : ℕ) (file : List ℕ) → is_place (suc before) (length file) ≡ true → is_signed (block_at (suc before) file) ≡ true
    → version_in (block_at (suc before) file) ≡ f.version → version_in (block_at before file) ≢ f.version → wrong_at f (suc before) file ≡ Some wrong_block
unfolding wrong_at follows
wrong_at_apart f before file p i v n = by (wrong_in_late f (suc before) (is_last (suc before) file) (block_at (suc before) file) i v)
  where
    e : suc before - 1 ≡ before
    e = omega arith

    by : (wrong_in f (suc before) (is_last (suc before) file) (block_at (suc before) file) ≡ None) ⊎ (wrong_in f (suc before) (is_last (suc before) file) (block_at (suc before) file) ≡ Some wrong_block)
        → wrong_at f (suc before) file ≡ Some wrong_block
    by (inl w) = rw (p, w, e, ne_eqb (suc before) 0 (λ x. omega arith), ne_eqb (version_in (block_at before file)) f.version n)
    by (inr w) = rw (p, w)

pub versions_differ : VersionsApart
unfolding step_of
versions_differ reader before row file p i v n =
    let f = format_at reader (suc before) file in
    rw (wrong_at_apart f before file p i (sym v) (λ e. n (e ∙ v)))

-- ---- reading a file of mixed versions
read_into_refused : (file ids locations carried : List ℕ) (r : Refusal) → is_place 0 (length file) ≡ true
    → is_room (format_in file) (length file / 512) (length ids) (length locations) (length carried) ≡ true → judged format_of file 0 (length file / 512) ≡ Err r
    → (read_into file ids locations carried).answer ≡ Err r
unfolding read_into
read_into_refused file ids locations carried r p q e = rw (p, q, e)

pub mixed_stop : MixedStops
mixed_stop reader sound before file g p i v n =
    let f = format_at reader 0 file in
    let q = is_place_place (suc before) (length file) p in
    let w = wrong_at_apart (format_at reader (suc before) file) before file p i (sym v) (λ e. n (e ∙ v)) in
    let first : is_place 0 (length file) ≡ true = place_is_place 0 (length file) q.whole (omega (arith, q.within)) in
    reads_wrong reader f (sound (version_in (block_at 0 file))) file first (suc before) q.within (λ k. known_first reader file (g 0 (omega arith)))
    (λ j h. same_format reader file j (λ a b. g a (omega arith))) wrong_block w

pub mixed_list : MixedLists
mixed_list before file ids locations carried g p i v n room =
    let q = is_place_place (suc before) (length file) p in
    let w = wrong_at_apart (format_at format_of (suc before) file) before file p i (sym v) (λ e. n (e ∙ v)) in
    let first : is_place 0 (length file) ≡ true = place_is_place 0 (length file) q.whole (omega (arith, q.within)) in
    let r = refusal wrong_block (suc before) in
    let bad = stopped_judged format_of file 0 (length file / 512) r
    (record { from = omega arith; within = omega (arith, q.within); before = λ j k h. g j (omega arith); wrong = w }) in
    read_into_refused file ids locations carried r first room bad

-- ---- a version that the reader does not know
wrong_at_unknown : (f : Format) (number : ℕ) (file : List ℕ) → is_place number (length file) ≡ true → is_signed (block_at number file) ≡ true
    → version_in (block_at number file) ≢ f.version → wrong_at f number file ≡ Some unknown_version
unfolding wrong_at wrong_in
wrong_at_unknown f number file p i n = rw (p, i, ne_eqb (version_in (block_at number file)) f.version n)

pub version_unknown : UnknownVersion
unfolding step_of
version_unknown reader number row file p i n = rw (wrong_at_unknown (format_at reader number file) number file p i (λ e. n (sym e)))

-- the first block of a written file
module _ (f : Format) (s : Sound f) (rows : List Entry) (n : length rows < 2 ^ 32) (a : All (Valid f) rows) where
  abbrev left : ℕ
  left = (length rows - 1) / per_block f

  abbrev first : List Entry
  first = chunk f 0 rows

  first_valid : All (Valid f) first
  first_valid = all_take (Valid f) (per_block f) _ (all_drop (Valid f) (per_block f * 0) rows a)

  first_block : block_at 0 (file_of f rows) ≡ block_of f 0 first
  unfolding file_of
  first_block =
      let fit = fit_file_of f rows (per_block_some f s.narrow) in
      block_at_file_from f left 0 0 rows (omega arith) fit (all_wide f rows a)

  first_place : is_place 0 (length (file_of f rows)) ≡ true
  unfolding file_of
  first_place =
      let fit = fit_file_of f rows (per_block_some f s.narrow) in
      let l = length_file_from f left 0 rows fit (all_wide f rows a) in
      place_is_place 0 (length (file_from f 0 left rows)) (omega arith) (omega arith)

  first_version : version_in (block_at 0 (file_of f rows)) ≡ f.version
  first_version = ap version_in first_block ∙ version_in_block_of f 0 s.wide first (length_chunk_le f 0 rows) first_valid s.fits

  first_signed : is_signed (block_at 0 (file_of f rows)) ≡ true
  first_signed = ap is_signed first_block ∙ intact_block_of f 0 s.wide first (length_chunk_le f 0 rows) first_valid

pub file_unknown : UnknownFile
file_unknown reader f s u rows n a =
    let v = first_version f s rows n a in
    let file = file_of f rows in
    let differs : (format_at reader 0 file).version ≢ version_in (block_at 0 file) = λ e. u (ap (λ (x : ℕ). (reader x).version) (sym v) ∙ e ∙ v) in
    ended (position 0 0) (version_unknown reader 0 0 file (first_place f s rows n a) (first_signed f s rows n a) differs)

pub before_unknown : UnknownBefore
before_unknown rows n a = file_unknown format_before version2 version2_sound (λ e. omega arith) rows n a

-- ---- our readers
pub readers_known : ReadersKnow
unfolding format_of
readers_known = (format_of_sound, refl, refl, refl)
