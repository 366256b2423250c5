-- No key is too long; or a key is, and no other row is wrong; or both are, and the earlier row decides. Assumes nothing.
use mathlib.Core.Path.{ap, ◌∙◌}
use Rattle.model.specs.Verdict.{refuse}
use Rattle.rebuild.proofs.Granted.{keys_short, keys_alone, keys_after, keys_before}
use Rattle.rebuild.proofs.with_keys.Goals as goal
use Rattle.rebuild.proofs.with_keys.Goals.{in_default-via-in-Err+else-refusal-long, in_default-via-in_default}

pub returns-then-rows-long : goal.returns-then-rows-long
returns-then-rows-long c = let a = c.args in keys_short a.long a.rows a.said c.if-rows-long.true

pub returns-in-Err : goal.returns-in-Err
returns-in-Err c = let a = c.args in keys_after a.long a.rows c.if-rows-long.false c.in-Err.is c.if-refusal-long.true

pub returns-in_default : goal.returns-in_default
returns-in_default c =
    let a = c.args in
    ap (λ r. refuse r.kind r.index) c.at.ensures
    ∙ elim c.in_default.branch [
      | in_default-via-in-Err+else-refusal-long w ↦ keys_before a.long a.rows c.if-rows-long.false w.in-Err.is w.if-refusal-long.false
      | in_default-via-in_default w ↦ keys_alone a.long a.rows c.if-rows-long.false w.in_default.is
    ]
