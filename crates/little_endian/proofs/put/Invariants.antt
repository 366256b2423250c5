use mathlib.Core.Path.{◌≡◌}
use mathlib.Core.List.{◌++◌}
use Prim.Native.Nat.{◌-◌}
use lib.ListN.{length, take}
use Rattle.little_endian.specs.LittleEndian.{bytes_of}
use Rattle.little_endian.proofs.put.Given as goal

abbrev pub invariant-loop-byte : goal.invariant-loop-byte
invariant-loop-byte l = take l.byte-index l.bytes ++ bytes_of (length l.bytes - l.byte-index) l.rest ≡ bytes_of (length l.initial.bytes) l.number
