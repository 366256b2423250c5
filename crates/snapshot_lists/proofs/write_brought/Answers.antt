-- The collection, the length and the key, each written behind the one before, over zeros (`written_key`).
use native.Mathlib.Omega.{arith}
use mathlib.Core.Path.{◌≡◌, refl}
use Prim.Native.Nat.{ℕ, ◌+◌, ◌-◌, ◌≤◌, min}
use mathlib.Core.List.{List, [], ◌++◌}
use lib.ListN.{length, take, drop, length-take, length-drop}
use Rattle.list_parts.proofs.Copied.{copied_whole}
use Rattle.snapshot_lists.proofs.Carried.{length_written, written_key}
use Rattle.snapshot_lists.proofs.write_brought.Goals as goal

first_copied : (row to written : List ℕ) (n : ℕ) → length to ≡ 80 → n ≡ min (length (take 8 (drop 8 row))) (length to)
    → written ≡ take n (take 8 (drop 8 row)) ++ drop n to
    → written ≡ take (length (take 8 (drop 8 row))) (take 8 (drop 8 row)) ++ drop (length (take 8 (drop 8 row))) to
first_copied row to written n z e w =
    let a = length-take 8 (drop 8 row) in
    copied_whole (take 8 (drop 8 row)) to written n e (omega (arith, a)) w

key_copied : (row to written : List ℕ) (long n : ℕ) → long ≤ 64 → length to ≡ 80
    → n ≡ min (length (take (25 + long - 25) (drop 25 row))) (length (take (80 - 16) (drop 16 to)))
    → written ≡ take n (take (25 + long - 25) (drop 25 row)) ++ drop n (take (80 - 16) (drop 16 to))
    → written ≡ take (length (take (25 + long - 25) (drop 25 row))) (take (25 + long - 25) (drop 25 row))
    ++ drop (length (take (25 + long - 25) (drop 25 row))) (take (80 - 16) (drop 16 to))
key_copied row to written long n h z e w =
    let a = length-take (25 + long - 25) (drop 25 row) in
    let b = length-take (80 - 16) (drop 16 to) in
    let c = length-drop 16 to in
    copied_whole (take (25 + long - 25) (drop 25 row)) (take (80 - 16) (drop 16 to)) written n e (omega (arith, a, b, c)) w

pub slice_bounds-copy-end-3 : goal.slice_bounds-copy-end-3
slice_bounds-copy-end-3 c =
    let a = c.args in
    let pre = c.requires in
    let first = first_copied a.row.now a.to.now c.copy.new.to c.copy.result pre.1 c.copy.ensures.count c.copy.ensures.copied in
    omega (arith, length_written a.row.now a.to.now _ _ [] a.long pre.2 pre.3 pre.0 first c.put_at.ensures)

pub returns : goal.returns
returns c =
    let a = c.args in
    let pre = c.requires in
    let first = first_copied a.row.now a.to.now c.copy.new.to c.copy.result pre.1 c.copy.ensures.count c.copy.ensures.copied in
    let long = length_written a.row.now a.to.now _ _ [] a.long pre.2 pre.3 pre.0 first c.put_at.ensures in
    written_key a.row.now a.to.now _ _ _ a.long pre.2 pre.3 pre.0 first c.put_at.ensures _ refl
    (key_copied a.row.now c.put_at.new.bytes c.copy-2.new.to a.long c.copy-2.result pre.2 long c.copy-2.ensures.count c.copy-2.ensures.copied)
