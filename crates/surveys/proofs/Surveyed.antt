-- The contracts leave no choice.
use Prim.Native.Nat.{ℕ}
use mathlib.Core.Path.{◌≡◌}
use mathlib.Core.Bool.{Bool}
use mathlib.Core.List.{List}
use Rattle.std.specs.Prelude.{Result}
use Rattle.octets.proofs.Answer.{one_answer}
use Rattle.octets.specs.declared.Refusal.{Refusal}
use Rattle.plans.specs.Plans.{ticked}
use Rattle.plans.specs.Turns.{may_block_lem}
use Rattle.surveys.specs.Surveys.{next_will_do_lem, will_do_lem, survey_of}

module _ (owners helpers : List ℕ) (sender kind : ℕ) where
  -- of `survey`
  pub survey-determined : (states ticks : List ℕ) (r s : Result ℕ Refusal) → r ≡ survey_of states kind (may_block_lem kind owners helpers sender) (ticked ticks) → s ≡ survey_of states kind (may_block_lem kind owners helpers sender) (ticked ticks) → r ≡ s
  survey-determined states ticks r s = one_answer

  -- of `will_do`
  pub will-do-determined : (ticks : List ℕ) (c : ℕ) (r s : Bool) → r ≡ will_do_lem kind (may_block_lem kind owners helpers sender) (ticked ticks) c → s ≡ will_do_lem kind (may_block_lem kind owners helpers sender) (ticked ticks) c → r ≡ s
  will-do-determined ticks c r s = one_answer

  -- of `next_will_do`
  pub next-determined : (c : ℕ) (r s : Bool) → r ≡ next_will_do_lem (may_block_lem kind owners helpers sender) c → s ≡ next_will_do_lem (may_block_lem kind owners helpers sender) c → r ≡ s
  next-determined c r s = one_answer
