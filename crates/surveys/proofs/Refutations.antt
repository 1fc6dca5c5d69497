-- A wrong order of the looks, refuted on one call: what it answers is not what the definition says.
use mathlib.Core.Path.{◌≡◌, refl}
use mathlib.Core.Bool.{false}
use mathlib.Core.List.{[], ◌∷◌}
use Rattle.std.specs.Prelude.{Err}
use Rattle.octets.specs.declared.Refusal.TheVariants.{IllegalRow}
use Rattle.rows.specs.Rows.{is_legal}
use Rattle.rights.specs.Rights.{first_not}
use Rattle.plans.specs.Plans.{ticked}
use Rattle.plans.specs.Turns.{may_block_lem}
use Rattle.surveys.specs.Surveys.{can_plan, will_do_lem, survey_of}

-- a survey that ends at the first stuck circuit: circuit 0 is ticked and nobody's, and row 1 is not
-- legal, so 20 comes first
pub stuck-before-illegal : (will_do_lem 0 (may_block_lem 0 [] [] 1) (ticked (1 ∷ [])) 0 ≡ false) × (survey_of (0 ∷ 5 ∷ []) 0 (may_block_lem 0 [] [] 1) (ticked (1 ∷ [])) ≡ Err IllegalRow)
unfolding first_not is_legal may_block_lem can_plan survey_of
stuck-before-illegal = (refl, refl)
