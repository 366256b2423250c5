-- `smallest_free` meets its contract: what `memchr` finds is free, and nothing before it is. Assumes nothing.
use Rattle.std.proofs.Common.{◌≡◌, ◌-◌, arith, length, take, drop, take_all}
use lib.ListN.{length-drop}
use Rattle.marks_search.proofs.LawsFound.{found_free, found_none}
use Rattle.marks_search.proofs.smallest_free.Goals as goal

pub returns-in-Some : goal.returns-in-Some
returns-in-Some c =
    let ms = c.args.marks.now in
    let from = c.args.from in
    let rest : take (length ms - from) (drop from ms) ≡ drop from ms = take_all (length ms - from) (drop from ms) (omega (arith, length-drop from ms)) in
    omega (arith, found_free (drop from ms) c.in-Some.at (rw rest at c.in-Some.ensures))

pub returns-in-None : goal.returns-in-None
returns-in-None c =
    let ms = c.args.marks.now in
    let from = c.args.from in
    let rest : take (length ms - from) (drop from ms) ≡ drop from ms = take_all (length ms - from) (drop from ms) (omega (arith, length-drop from ms)) in
    omega (arith, found_none (drop from ms) (rw rest at c.in-None.ensures), length-drop from ms)
