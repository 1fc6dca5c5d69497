-- What a lent buffer holds afterwards.
use Rattle.std.specs.Prelude.{ℕ, ◌<◌, ◌≡◌, List, ◌++◌, ltb, length, drop}
use Rattle.octets.specs.Choice.{when◌then◌else◌}
use Rattle.octets.specs.Answer.{Answer, accepted, refused}
use Rattle.octets.specs.Faults.{Fault, fault}

-- R3. the octets fill the front of the buffer, and the rest of it is kept
abbrev pub filled : List ℕ → List ℕ → List ℕ
filled octets buffer = octets ++ drop (length octets) buffer

-- an answer, and what the lent buffer holds afterwards
pub record Done (A : Type 0) : Type 0 where
  pub answer : Answer A
  pub left : List ℕ

-- what is accepted is a value and the octets that fill the buffer's front; a
-- refusal keeps all of the buffer
abbrev pub done : {A : Type 0} → List ℕ → Answer (A × List ℕ) → Done A
done buffer (accepted x) = record { answer = accepted x.0; left = filled x.1 buffer }
done buffer (refused n at) = record { answer = refused n at; left = buffer }

-- an answer, with what the lent buffer holds afterwards
abbrev pub leaving : {A : Type 0} → Answer A → List ℕ → Done A
leaving answer left = record { answer = answer; left = left }

-- 13 where the lent buffer is shorter than the octets that are to fill its front
abbrev pub room_for : {A : Type 0} → List ℕ → A × List ℕ → Answer (A × List ℕ)
room_for buffer x = when ltb (length buffer) (length x.1) then refused 13 0 else accepted x

-- the fault of 13, last of all: there are octets to write, and the lent buffer is shorter
abbrev pub room_fault : {A : Type 0} → Answer (A × List ℕ) → List ℕ → Fault
room_fault {A} x buffer =
    fault 13 0 ((a : A) × (octets : List ℕ) × (x ≡ accepted (a, octets))
    × (length buffer < length octets))
