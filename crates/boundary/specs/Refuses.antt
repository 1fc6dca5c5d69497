-- What a caller in C can tell from the number r alone, where a refusal's number
-- comes times `unit` and its octet is added.
use Rattle.std.specs.Prelude.{ℕ, ◌/◌, ◌%◌, ◌≤◌, ◌≡◌, List, ◌↔◌}
use Rattle.octets.specs.Answer.{Answer, refused}

-- r is from `unit` on exactly when the call was refused; its two halves say which number that was
-- and which octet it is about; and then what was lent is as it was
pub record Refuses {A : Type 0} (unit r : ℕ) (answer : Answer A) (lent left : List ℕ) : Type 0 where
  pub whether : (unit ≤ r) ↔ ((n at : ℕ) × (answer ≡ refused n at))
  pub which : (n at : ℕ) → 1 ≤ n → ((r / unit ≡ n) × (r % unit ≡ at)) ↔ (answer ≡ refused n at)
  pub keeps : unit ≤ r → left ≡ lent
