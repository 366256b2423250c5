-- Which formats and which rows the laws of snapshots speak of. Assumes nothing.
use Rattle.std.specs.Prelude.{false, ◌≡◌, List, [], ◌∷◌, ℕ, ◌-◌, ◌^◌, ◌≤◌, ◌<◌, length}
use Rattle.little_endian.specs.LittleEndian.{Bytes}
use Rattle.keys.specs.Keys.{key_length}
use Rattle.snapshot_blocks.specs.Formats.{Format}
use Rattle.snapshot_blocks.specs.Blocks.{Entry}

-- a row's location has its place after eight carried bytes, a block has room for some rows, the version fits its field, and a row that is not refused
-- has its key within what it carries
pub record Sound (f : Format) : Type 0 where
  pub wide : 8 ≤ f.width
  pub narrow : f.width ≤ 80
  pub fits : f.version < 2 ^ 16
  pub keyed : (c : List ℕ) → length c ≡ f.width → f.refuses c ≡ false → key_length c ≤ f.width - 9

-- a row that can be written: two numbers of 64 bits, and as many bytes as the format has, none that it refuses
pub record Valid (f : Format) (e : Entry) : Type 0 where
  pub id_fits : e.id < 2 ^ 64
  pub location_fits : e.location < 2 ^ 64
  pub wide : length e.carried ≡ f.width
  pub bytes : Bytes e.carried
  pub carries : f.refuses e.carried ≡ false

-- what holds of each row
abbrev pub All : (Entry → Type 0) → List Entry → Type 0
All P [] = Unit {0}
All P (e ∷ es) = P e × All P es
