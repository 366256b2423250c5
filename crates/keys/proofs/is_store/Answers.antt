-- A byte stores where it is not 0: `not_zero`. Assumes nothing.
use Rattle.keys.proofs.LawsCode.{not_zero}
use Rattle.keys.proofs.is_store.Goals as goal

pub returns : goal.returns
returns c = not_zero c.args.byte
