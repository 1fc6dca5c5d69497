-- Any two answers that a public function's contract allows are equal, and so is what they leave.
use Rattle.octets.proofs.Told.{told-injective}
use Rattle.std.specs.Prelude.{Result}
use Rattle.octets.specs.Told.{told}
use Rattle.octets.specs.declared.Refusal.{Refusal}
use Rattle.totals.specs.declared.Count.{Count}
use Prim.Native.Nat.{ℕ}
use mathlib.Core.Path.{◌≡◌}
use mathlib.Core.List.{List}
use Rattle.octets.specs.Filled.{leaving}
use Rattle.octets.proofs.Answer.{one_answer}
use Rattle.octets.proofs.Told.{writing-determined}
use Rattle.totals.specs.Blocks.{recounted, rebuild_of}
use Rattle.totals.specs.Question.{busy_between_lem}

pub recount-determined : (states : List ℕ) (first last : ℕ) (totals left left' : List ℕ)
    → left ≡ recounted states first last totals → left' ≡ recounted states first last totals → left ≡ left'
recount-determined states first last totals left left' = one_answer

pub rebuild-determined : (states totals : List ℕ) (r s : Result ℕ Refusal) (left left' : List ℕ)
    → leaving (told r) left ≡ rebuild_of states totals → leaving (told s) left' ≡ rebuild_of states totals → (r ≡ s) × (left ≡ left')
rebuild-determined states totals r s left left' p q = writing-determined (rebuild_of states totals) r s left left' p q

pub busy-determined : (states totals : List ℕ) (a b : ℕ) (r s : Result Count Refusal) → told r ≡ busy_between_lem states totals a b → told s ≡ busy_between_lem states totals a b → r ≡ s
busy-determined states totals a b r s p q = told-injective r s (one_answer p q)
