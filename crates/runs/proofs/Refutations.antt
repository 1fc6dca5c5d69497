-- Wrong programs, each refuted on one call: what it answers is not what the definition says.
use Rattle.std.specs.Prelude.{Some}
use mathlib.Core.Path.{◌≡◌, refl}
use mathlib.Core.List.{[], ◌∷◌}
use Rattle.runs.specs.declared.Step.TheVariants.{Param}
use Rattle.runs.specs.Run.{step_at_lem, seeks, named_from}

-- two parameters of one name: a search for the last match finds octet 5
pub first-match : named_from (0x20 ∷ 0x01 ∷ 0x41 ∷ 0x20 ∷ 0x01 ∷ 0x42 ∷ []) 0 0x20 ≡ Some (2, 1)
unfolding step_at_lem seeks named_from
first-match = refl

-- a parameter of name 7: a run that a 7 closes ends there
pub seven-refuted : step_at_lem (0x07 ∷ 0x01 ∷ 0x41 ∷ []) 0 ≡ Param (record { name = 7; at = 2; len = 1 })
unfolding step_at_lem
seven-refuted = refl
