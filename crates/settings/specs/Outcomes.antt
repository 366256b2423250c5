-- The outcome of what a cookie says: document 01's number and values. Assumes nothing.
use Rattle.std.specs.Prelude.{List, ℕ, [], ◌∷◌, Result}
use Rattle.refusal.specs.Outcomes.{Values, outcome_by}
use Rattle.refusal.specs.declared.Refusal.{Refusal}
use Rattle.settings.specs.declared.PersistentSettings.{PersistentSettings}
use Rattle.settings.specs.declared.PersistentSettings.TheVariants as P

abbrev pub settings_say : PersistentSettings → List ℕ
settings_say (P.V1 fanout) = fanout ∷ []

abbrev pub persistent_settings_outcome : Result PersistentSettings Refusal → Values
persistent_settings_outcome r = outcome_by settings_say r
