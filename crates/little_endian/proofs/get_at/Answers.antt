-- Where there is such a part, its number. Assumes nothing.
use Rattle.little_endian.proofs.Laws.{get_at_part, get_at_none}
use Rattle.little_endian.proofs.get_at.Goals as goal

pub returns-in-Some : goal.returns-in-Some
returns-in-Some c =
    let a = c.args in
    let e = c.in-Some.ensures.lookup.0 in
    get_at_part a.start a.end a.bytes.now _ _ e.0 e.1 e.2 c.get-in-Some.ensures

pub returns-in-None : goal.returns-in-None
returns-in-None c = get_at_none c.args.start c.args.end c.args.bytes.now c.in-None.ensures.lookup.0
