-- `fragmentation::cut` meets its contract: past the largest tip, from 1 on by the bits, and below 1. Assumes nothing.
use mathlib.Core.Path.{sym, subst}
use native.Mathlib.Omega.{arith}
use lib.Dec.{T}
use lib.Ieee as Ieee
use lib.Ieee.{binary32, to_bits}
use Rattle.fragmentation.proofs.LawsCut.{Between, Cut, between, no_nan, cut, cut_most, cut_none}
use Rattle.fragmentation.proofs.cut.Goals as goal

-- x is at least 1 and below 65,536
lies : (c : goal.Then-x-2) → Between c.args.x
unfolding Ieee.of_bits
lies c = between c.args.x c.if-x-2.true c.if-x.false

-- an f32 fits its format
bits : (c : goal.Then-x-2) → Cut (to_bits binary32 c.args.x) c.args.x
bits c = cut c.args.x (subst T (sym c.well_formed.0.1) tt) (lies c)

pub returns-then-x : goal.returns-then-x
unfolding Ieee.of_bits
returns-then-x c = cut_most c.args.x c.if-x.true

pub float_to_bits-bits : goal.float_to_bits-bits
unfolding Ieee.of_bits
float_to_bits-bits c = no_nan c.args.x (lies c)

pub overflow_sub-result : goal.overflow_sub-result
overflow_sub-result c = (bits c).top

pub overflow_shr-result : goal.overflow_shr-result
overflow_shr-result c = (bits c).near

pub overflow_cast-result : goal.overflow_cast-result
overflow_cast-result c = omega (arith, (bits c).is)

pub returns-then-x-2 : goal.returns-then-x-2
returns-then-x-2 c = (bits c).is

pub returns : goal.returns
unfolding Ieee.of_bits
returns c = cut_none c.args.x c.if-x-2.false
