-- A well-formed BICC message, its compact form, and what a message says, as
-- the paper says it: no order of reading.
use Rattle.std.specs.Prelude.{ℕ, ◌≤◌, ◌≡◌, List, Some, length}
use Rattle.octets.specs.Octet.{octet}
use Rattle.layout.specs.declared.Shape.{Shape}
use Rattle.layout.specs.Laid.{LaidOut}
use Rattle.parts.specs.Spans.{part_of}
use Rattle.runs.specs.Params.{Param}
use Rattle.writing.specs.Compact.{Compact}
use Rattle.bicc.specs.declared.Message.{Message}
use Rattle.bicc.specs.Table.{call_shape_of, longest_call}
use Rattle.bicc.specs.Read.{call_code_of}

-- R51. 5 to 270 octets, a type of the table, and its parts laid out as the type's row says
pub record CallFormed (m : List ℕ) (x : Message) : Type 0 where
  pub shape : Shape
  pub params : List Param
  pub least : 5 ≤ length m
  pub most : length m ≤ longest_call
  pub code : x.code ≡ call_code_of m
  pub kind : x.kind ≡ octet m 4
  pub listed : call_shape_of x.kind ≡ Some shape
  pub laid : LaidOut m 4 shape x.parts params

-- variable parameters in pointer order right after the pointers, optional part
-- next, nothing between or after; optional pointer 0 if there are no optional
-- parameters. A code has no spare bits
pub record CallCompact (m : List ℕ) (x : Message) : Type 0 where
  pub formed : CallFormed m x
  pub tight : Compact m 4 formed.shape x.parts formed.params

-- a message that reads so says this code, type, fixed octets, contents and optional run
pub record CallSays (m : List ℕ) (x : Message) (c k : ℕ) (f a b r : List ℕ) : Type 0 where
  pub code : x.code ≡ c
  pub kind : x.kind ≡ k
  pub fixed : part_of m x.parts.fixed ≡ f
  pub first : part_of m x.parts.first ≡ a
  pub second : part_of m x.parts.second ≡ b
  pub run : part_of m x.parts.optional ≡ r

-- the octets ys are a message in compact form that says what message m says, which reads as x:
-- code, type, fixed octets, contents and optional run
abbrev pub CallSaysSame : List ℕ → Message → List ℕ → Type 0
CallSaysSame m x ys =
    (y : Message) × CallCompact ys y
    × CallSays ys y x.code x.kind (part_of m x.parts.fixed) (part_of m x.parts.first)
    (part_of m x.parts.second) (part_of m x.parts.optional)
