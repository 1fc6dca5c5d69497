-- What is given back: the values, or the refusal's number of document 01 with the octet that it is
-- about (0 where it is about none).
use Rattle.std.specs.Prelude.{ℕ}

-- accepted with its values, or refused with a number and an octet
pub data Answer (A : Type 0) : Type 0 where
  accepted : A → Answer A
  refused : ℕ → ℕ → Answer A

infixr 9 ◌then◌
-- go on with what was accepted; a refusal ends it
abbrev pub ◌then◌ : {A B : Type 0} → Answer A → (A → Answer B) → Answer B
◌then◌ (accepted a) f = f a
◌then◌ (refused n at) f = refused n at
