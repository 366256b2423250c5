-- The collection, the length and the key, each written behind the one before: `normal_written`. Assumes nothing.
use mathlib.Core.Path.{◌≡◌}
use native.Mathlib.Omega.{arith}
use mathlib.Core.List.{List}
use Prim.Native.Nat.{ℕ, ◌+◌, ◌-◌}
use lib.ListN.{length, take, drop, length-take, length-drop}
use Rattle.carried.specs.Carried.{width}
use Rattle.keys.specs.Keys.{kept_length}
use Rattle.keys.proofs.LawsCode.{normal_written}
use Rattle.keys.proofs.write_kept.Goals as goal

key_length : (row : List ℕ) (n : ℕ) → length row ≡ width → n ≡ kept_length row → 9 + length (take (16 + n - 16) (drop 16 row)) - 9 ≡ n
key_length row n l k = omega (arith, k, length-take (16 + n - 16) (drop 16 row), length-drop 16 row)

pub returns : goal.returns
returns c =
    let row = c.args.row.now in
    let n = c.kept_length-length.result in
    normal_written row c.args.kept.now _ _ n _ c.requires (omega arith) c.kept_length-length.ensures c.copy_from_slice.ensures.after c.copy_from_slice-2.ensures.after
    (key_length row n (omega arith) c.kept_length-length.ensures)
