-- Any two answers that a public function's contract allows are equal.
use Rattle.std.specs.Prelude.{Option}
use Prim.Native.Nat.{ℕ}
use mathlib.Core.Path.{◌≡◌}
use mathlib.Core.Bool.{Bool}
use mathlib.Core.List.{List}
use Rattle.octets.proofs.Answer.{one_answer}
use Rattle.runs.specs.declared.Step.{Step}
use Rattle.runs.specs.declared.Stop.{Stop}
use Rattle.runs.specs.Run.{step_at_lem, stop_from, is_run_lem, named_from}

pub step-at-determined : (m : List ℕ) (i : ℕ) (r s : Step) → r ≡ step_at_lem m i → s ≡ step_at_lem m i → r ≡ s
step-at-determined m i r s = one_answer

pub run-stop-determined : (m : List ℕ) (i : ℕ) (r s : Stop) → r ≡ stop_from m i → s ≡ stop_from m i → r ≡ s
run-stop-determined m i r s = one_answer

pub is-run-determined : (m : List ℕ) (r s : Bool) → r ≡ is_run_lem m → s ≡ is_run_lem m → r ≡ s
is-run-determined m r s = one_answer

pub named-determined : (m : List ℕ) (i name : ℕ) (r s : Option (ℕ × ℕ)) → r ≡ named_from m i name → s ≡ named_from m i name → r ≡ s
named-determined m i name r s = one_answer
