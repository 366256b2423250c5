-- Reading never goes on for ever: from every position in every file the steps stop. A step leads on within its block, which has at most
-- `per_block` rows, or into the next block. Assumes nothing.
use mathlib.Core.Bool.{Bool, ◌&&◌}
use mathlib.Core.Path.{◌≡◌, refl}
use mathlib.Core.List.{List, [], ◌∷◌}
use Prim.Native.Nat.{ℕ, zero, suc, ◌+◌, ◌*◌, ◌/◌, ◌≤◌, ◌<◌}
use native.Mathlib.Omega.{arith}
use lib.Dec.{eqb, ltb}
use lib.ListN.{length}
use borrow.Author.Tests.{ltb-true}
use Rattle.refusal.specs.Refusals.{refusal, wrong_shape}
use Rattle.refusal.specs.declared.Refusal.{Refusal}
use Rattle.refusal.proofs.Tests.{by_test}
use Rattle.snapshot_blocks.specs.Formats.{Reader, per_block}
use Rattle.snapshot_blocks.specs.Blocks.{count_in, row_at}
use Rattle.snapshot_blocks.specs.declared.Row.{Row}
use Rattle.snapshot.specs.declared.Position.{Position}
use Rattle.snapshot.specs.Snapshot.{block_at, is_last, next_position, step_in, step_of, format_at, wrong_by, step_by}
use Rattle.snapshot.proofs.Turns.{is_place_place, wrong_at_good, wrong_at_count}
use Rattle.snapshot_laws.specs.Reading.{seen_in, position, ended, showed, Ends}
use Rattle.std.specs.Prelude.{Ok, Err, Option, Some, None}
use Rattle.refusal.specs.declared.Kind.{Kind}

module _ (reader : Reader) (file : List ℕ) where
  -- ---- one step
  ends_refused : (at : Position) (r : Refusal) → step_by reader at.block at.row file ≡ Err r → Ends reader file at
  ends_refused at r e = record { stop = Err r; rows = []; reads = ended at e; final = λ x n q. let z : ◌≡◌ {A = ℕ} 0 1 = cc in omega arith }

  ends_end : (at : Position) → step_by reader at.block at.row file ≡ (Ok None) → Ends reader file at
  ends_end at e = record { stop = (Ok None); rows = []; reads = ended at e; final = λ x n q. let z : ◌≡◌ {A = ℕ} 0 1 = cc in omega arith }

  ends_row : (at to : Position) (r : Row) → step_by reader at.block at.row file ≡ Ok (Some (r, to)) → Ends reader file to → Ends reader file at
  ends_row at to r e q = record { stop = q.stop; rows = seen_in file r ∷ q.rows; reads = showed at to r q.rows e q.reads; final = q.final }

  ends_step : (number row : ℕ)
      → (wrong_by reader number file ≡ None → row < count_in (block_at number file) → Ends reader file (next_position number row (count_in (block_at number file)) (is_last number file)))
      → Ends reader file (position number row)
  unfolding step_of step_in
  ends_step number row h = by (wrong_by reader number file) refl
    where
      count : ℕ
      count = count_in (block_at number file)

      last : Bool
      last = is_last number file

      by : (w : Option Kind) → wrong_by reader number file ≡ w → Ends reader file (position number row)
      by (Some kind) p = ends_refused (position number row) (refusal kind number) (rw p)
      by None p =
          by_test (ltb row count)
          (λ q. ends_row (position number row) (next_position number row count last) (row_at (format_at reader number file) (512 * number) row (block_at number file)) (rw (p, q)) (h p (ltb-true row count q)))
          (λ q. by_test (last && eqb row count)
          (λ t. ends_end (position number row) (rw (p, q, t)))
          (λ t. ends_refused (position number row) (refusal wrong_shape number) (rw (p, q, t))))

  ends_next_position : (number row count : ℕ) (last : Bool) → Ends reader file (position number (row + 1)) → Ends reader file (position (number + 1) 0) → Ends reader file (next_position number row count last)
  unfolding next_position
  ends_next_position number row count last here there =
      by_test (ltb (row + 1) count) (λ p. rw p here) (λ p. by_test last (λ t. rw (p, t) here) (λ t. rw (p, t) there))

  -- ---- m rows on, the block has no more
  ends_block : (m number row : ℕ) → per_block (format_at reader number file) ≤ row + m → Ends reader file (position (number + 1) 0) → Ends reader file (position number row)
  ends_block zero number row h there = ends_step number row (λ g l. let c = wrong_at_count (format_at reader number file) number file g in absurd (omega arith))
  ends_block (suc m) number row h there =
      ends_step number row (λ g l.
      ends_next_position number row (count_in (block_at number file)) (is_last number file) (ends_block m number (row + 1) (omega arith) there) there)

  -- ---- k blocks on, the file has no more
  ends_file : (k number row : ℕ) → length file / 512 ≤ number + k → Ends reader file (position number row)
  ends_file zero number row h =
      ends_step number row (λ g l. let p = is_place_place number (length file) (wrong_at_good (format_at reader number file) number file g).place in absurd (omega (arith, p.within)))
  ends_file (suc k) number row h = ends_block (per_block (format_at reader number file)) number row (omega arith) (ends_file k (number + 1) 0 (omega arith))

  pub reads_ends : (at : Position) → Ends reader file at
  reads_ends at = ends_file (length file / 512) at.block at.row (omega arith)
