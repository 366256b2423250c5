-- `crc_words::with_none` meets its contract: after the last word what is pending is the register.
-- Assumes nothing.
use mathlib.Core.Path.{sym}
use Prim.Native.Nat.{◌^◌, ◌<◌}
use native.Mathlib.Omega.{arith}
use lib.Bits.{bit_xor, xor_lt}
use Rattle.crc_steps.specs.Crc32.{steps}
use Rattle.crc_words.proofs.Read.{ended}
use Rattle.crc_words.proofs.with_none.Goals as goal

pub overflow_cast-result : goal.overflow_cast-result
overflow_cast-result c =
    let z = c.args.z in
    let f : steps 64 (bit_xor c.args.w z.a) < 2 ^ 64 = rw (sym c.fold.ensures) (omega arith) in
    rw c.fold.ensures
    (omega (arith, c.requires, ended z.a z.b z.c z.d z.e c.args.w (xor_lt 64 z.b (steps 64 (bit_xor c.args.w z.a)) (omega arith) f) c.requires))

pub returns : goal.returns
returns c =
    let z = c.args.z in
    let f : steps 64 (bit_xor c.args.w z.a) < 2 ^ 64 = rw (sym c.fold.ensures) (omega arith) in
    rw c.fold.ensures
    (sym (ended z.a z.b z.c z.d z.e c.args.w (xor_lt 64 z.b (steps 64 (bit_xor c.args.w z.a)) (omega arith) f) c.requires))
