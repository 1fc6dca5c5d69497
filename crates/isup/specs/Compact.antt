-- The compact form of an ISUP message, and what a message says.
use Rattle.std.specs.Prelude.{ℕ, ◌<◌, ◌≡◌, List}
use Rattle.octets.specs.Octet.{octet}
use Rattle.parts.specs.Spans.{part_of}
use Rattle.writing.specs.Compact.{Compact}
use Rattle.isup.specs.declared.Message.{Message}
use Rattle.isup.specs.WellFormed.{WellFormed}

-- R12. spare bits of the circuit number 0, variable parameters in pointer order right
-- after the pointers, optional part next, nothing between or after; optional pointer 0
-- if there are no optional parameters
pub record CompactForm (m : List ℕ) (x : Message) : Type 0 where
  pub formed : WellFormed m x
  pub spare : octet m 1 < 16
  pub tight : Compact m 2 formed.shape x.parts formed.params

-- a message that reads so says this circuit, type, fixed octets, contents and optional run
pub record Says (m : List ℕ) (x : Message) (c k : ℕ) (f a b r : List ℕ) : Type 0 where
  pub circuit : x.circuit ≡ c
  pub kind : x.kind ≡ k
  pub fixed : part_of m x.parts.fixed ≡ f
  pub first : part_of m x.parts.first ≡ a
  pub second : part_of m x.parts.second ≡ b
  pub run : part_of m x.parts.optional ≡ r

-- the octets ys are a message in compact form that says what message m says, which reads as x:
-- circuit, type, fixed octets, contents and optional run
abbrev pub SaysSame : List ℕ → Message → List ℕ → Type 0
SaysSame m x ys =
    (y : Message) × CompactForm ys y
    × Says ys y x.circuit x.kind (part_of m x.parts.fixed) (part_of m x.parts.first)
    (part_of m x.parts.second) (part_of m x.parts.optional)
