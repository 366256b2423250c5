-- Blocks that are right by a reader, one after the other from the first, are of one version: each asks it of the one before. Assumes nothing.
use mathlib.Core.Bool.{Bool, true, false, not, cond}
use mathlib.Core.Path.{◌≡◌, refl, sym, ap, ◌∙◌}
use mathlib.Core.List.{List}
use Prim.Native.Nat.{ℕ, zero, suc, ◌-◌, ◌≤◌}
use native.Mathlib.Omega.{arith}
use lib.Dec.{eqb, ltb}
use lib.ListN.{length}
use borrow.Author.Tests.{eqb-true, ne_eqb}
use Rattle.refusal.proofs.Tests.{and_true}
use Rattle.snapshot_blocks.specs.Formats.{Format, Reader, per_block}
use Rattle.snapshot_blocks.specs.Blocks.{version_in, wrong_in, id_at}
use Rattle.snapshot.specs.Snapshot.{block_at, is_place, is_last, follows, or_else, wrong_at, format_at, wrong_by}
use Rattle.snapshot.proofs.Turns.{wrong_at_good}
use Rattle.std.specs.Prelude.{Option, Some, None}
use Rattle.std.proofs.lemmas.Option.{none-some}
use Rattle.refusal.specs.declared.Kind.{Kind}
use Rattle.refusal.specs.Refusals.{wrong_shape, wrong_block}

-- ---- a block that is right follows the one before it
pub wrong_at_joined : (f : Format) (j : ℕ) (file : List ℕ) → wrong_at f (suc j) file ≡ None → follows f (block_at j file) (block_at (suc j) file) ≡ true
unfolding wrong_at
wrong_at_joined f j file e =
    by (is_place (suc j) (length file)) (wrong_in f (suc j) (is_last (suc j) file) (block_at (suc j) file)) (follows f (block_at j file) (block_at (suc j) file)) (rw (s, z) at e)
  where
    s : suc j - 1 ≡ j
    s = omega arith

    z : eqb (suc j) 0 ≡ false
    z = ne_eqb (suc j) 0 (λ x. omega arith)

    by : (a : Bool) (w : Option Kind) (t : Bool) → cond (not a) (Some wrong_shape) (or_else w (cond t None (Some wrong_block))) ≡ None → t ≡ true
    by true None true e = refl
    by true None false e = absurd (none-some _ (sym e))
    by true (Some kind) t e = absurd (none-some _ (sym e))
    by false w t e = absurd (none-some _ (sym e))

module _ (f : Format) (before block : List ℕ) (e : follows f before block ≡ true) where
  pub follows_version : version_in before ≡ f.version
  unfolding follows
  follows_version = eqb-true (version_in before) f.version (and_true (eqb (version_in before) f.version) (ltb (id_at f (per_block f - 1) before) (id_at f 0 block)) e).0

  pub follows_id : ltb (id_at f (per_block f - 1) before) (id_at f 0 block) ≡ true
  unfolding follows
  follows_id = (and_true (eqb (version_in before) f.version) (ltb (id_at f (per_block f - 1) before) (id_at f 0 block)) e).1

-- ---- by a reader
module _ (reader : Reader) (file : List ℕ) where
  -- a block that is right by a format names its version, so that a reader that knows the format has the same
  pub known_format : (f : Format) (j : ℕ) → reader f.version ≡ f → wrong_at f j file ≡ None → format_at reader j file ≡ f
  known_format f j k g = ap reader (wrong_at_good f j file g).right.versioned ∙ k

  pub right_version : (j : ℕ) → wrong_by reader j file ≡ None → version_in (block_at j file) ≡ (format_at reader j file).version
  right_version j g = (wrong_at_good (format_at reader j file) j file g).right.versioned

  -- a reader knows the format of a first block that is right
  pub known_first : wrong_by reader 0 file ≡ None → reader (format_at reader 0 file).version ≡ format_at reader 0 file
  known_first g = ap reader (sym (right_version 0 g))

  pub same_version : (j : ℕ) → ((i : ℕ) → i ≤ j → wrong_by reader i file ≡ None) → version_in (block_at j file) ≡ version_in (block_at 0 file)
  same_version zero g = refl
  same_version (suc j) g =
      let f = format_at reader (suc j) file in
      let here = g (suc j) (omega arith) in
      right_version (suc j) here
      ∙ sym (follows_version f (block_at j file) (block_at (suc j) file) (wrong_at_joined f j file here))
      ∙ same_version j (λ i l. g i (omega arith))

  -- so that all are right by the format of the first
  pub same_format : (j : ℕ) → ((i : ℕ) → i ≤ j → wrong_by reader i file ≡ None) → wrong_at (format_at reader 0 file) j file ≡ None
  same_format j g = ap (λ (v : ℕ). wrong_at (reader v) j file) (sym (same_version j g)) ∙ g j (omega arith)
