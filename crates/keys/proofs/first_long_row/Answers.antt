-- The place of the first row that passes. Assumes nothing.
use mathlib.Core.Path.{◌≡◌, ap, ◌∙◌}
use Rattle.std.proofs.Common.{rules, tests}
use Rattle.std.proofs.lemmas.Iterator.{YieldsList-from_slice}
use Rattle.std.proofs.lemmas.Iterator.Search.{position_from_yields_List}
use Rattle.std.specs.List.{position, position_or_len}
use Rattle.std.specs.Option.{unwrap_or}
use Rattle.keys.specs.Keys.{key_is_long}
use Rattle.keys.proofs.LawsCode.{when_so_many, so_many, first_in_rows, place_or_all}
use Rattle.keys.proofs.first_long_row.Goals as goal

pub returns : goal.returns
returns c =
    let n = c.args.count in
    let rows = c.in-Some.rows.now in
    let found : c.position.result ≡ position key_is_long rows =
    position_from_yields_List key_is_long _ _ c.position.result c.position.ensures.ran (YieldsList-from_slice rows c.iter.ensures.rest) (λ x b q k. search (rules, tests)) in
    c.unwrap_or.ensures ∙ ap (λ o. unwrap_or o n) found
    ∙ place_or_all key_is_long rows n (so_many n c.args.rows.now rows c.in-Some.ensures.1)
    ∙ ap (position_or_len key_is_long) c.in-Some.ensures.1
    ∙ first_in_rows n c.args.rows.now
    ∙ when_so_many _ _ n c.in-Some.ensures.0
