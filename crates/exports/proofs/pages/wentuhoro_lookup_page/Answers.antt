use Rattle.exports.proofs.Laws.{page_exported}
use Rattle.exports.proofs.pages.wentuhoro_lookup_page.Goals as goal

pub returns : goal.returns
returns c =
    let w = c.get_locations_for_objects in
    page_exported w.result _ _ _ _ _ w.ensures c.finished.ensures
