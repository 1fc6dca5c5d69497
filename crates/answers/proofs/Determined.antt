-- The contract of `answers::answer` determines the tables, the lent buffer and the count.
use Prim.Native.Nat.{ℕ}
use mathlib.Core.Path.{◌≡◌}
use mathlib.Core.List.{List}
use Rattle.printing.specs.Sheet.{sheet}
use Rattle.turns.specs.Turns.{Desk, desk_left, desk_left_by}
use Rattle.turns.proofs.Determined.{desk-left-determined}
use Rattle.answers.specs.Answers.{with_line_end, turn_in}

-- what is left afterwards is as the definition says, with so many octets of scratch
abbrev pub AnswersLine : (scratch : ℕ) (line : List ℕ) (D : Desk) (buffer : List ℕ) (E : Desk) (rest : List ℕ) (n : ℕ) → Type 0
AnswersLine scratch line D buffer E rest n = desk_left E (sheet rest n) ≡ with_line_end (desk_left_by (turn_in scratch line D) (sheet buffer 0))

-- any two outcomes that the contract allows are equal
pub answer-determined : (scratch : ℕ) (line : List ℕ) (D : Desk) (buffer : List ℕ) (E F : Desk) (b c : List ℕ) (n m : ℕ) → AnswersLine scratch line D buffer E b n → AnswersLine scratch line D buffer F c m → (E ≡ F) × (b ≡ c) × (n ≡ m)
answer-determined scratch line D buffer E F b c n m = desk-left-determined
