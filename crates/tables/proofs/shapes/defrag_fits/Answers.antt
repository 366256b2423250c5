-- `tables::defrag_fits` meets its contract: under good capacities each test is that of its table's length (fit_by). Assumes nothing.
use Rattle.std.proofs.Common.{refl, ◌∙◌}
use Rattle.tables.proofs.Laws.{under, fit_by}
use Rattle.tables.proofs.shapes.defrag_fits.Goals as goal

pub returns : goal.returns
returns c = c.all_hold.ensures ∙ fit_by _ _ _ _ _ _ _ _ _ _ (λ h. refl) (under _ _ _ _ c.ids_fit.ensures) (under _ _ _ _ c.slots_fit.ensures) (under _ _ _ _ c.slots_fit-2.ensures) (λ h. refl) (λ h. refl) (λ h. refl)
