-- `tables::tallies_fit` meets its contract: under good capacities each test is that of its table's length (fit_by). Assumes nothing.
use Rattle.std.proofs.Common.{refl, ◌∙◌}
use Rattle.tables.proofs.Laws.{fit_by}
use Rattle.tables.proofs.shapes.tallies_fit.Goals as goal

pub returns : goal.returns
returns c = c.all_hold.ensures ∙ fit_by _ _ _ _ _ _ _ _ _ _ (λ h. refl) (λ h. refl) (λ h. refl) (λ h. refl) (λ h. refl) (λ h. refl) (λ h. refl)
