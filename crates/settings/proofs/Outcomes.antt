-- The outcome tells which answer it is. Assumes nothing.
use mathlib.Core.Path.{◌≡◌, refl}
use lib.ListN.{get_or}
use Rattle.std.specs.Prelude.{Result}
use Rattle.refusal.specs.declared.Refusal.{Refusal}
use Rattle.refusal.proofs.Outcomes.{outcome_one}
use Rattle.settings.specs.Outcomes.{settings_say, persistent_settings_outcome}
use Rattle.settings.specs.declared.PersistentSettings.{PersistentSettings}
use Rattle.settings.specs.declared.PersistentSettings.TheVariants as P

said_back : (p : PersistentSettings) → P.V1 (get_or (settings_say p) 0 0) ≡ p
said_back (P.V1 fanout) = refl

pub persistent_settings_outcome_one : (a b : Result PersistentSettings Refusal) → persistent_settings_outcome a ≡ persistent_settings_outcome b → a ≡ b
persistent_settings_outcome_one = outcome_one settings_say (λ vs. P.V1 (get_or vs 0 0)) said_back
