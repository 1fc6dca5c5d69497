-- A well-formed SCCP message, its compact form, and what a message says, as
-- the paper says it: no order of reading.
use Rattle.std.specs.Prelude.{ℕ, ◌≤◌, ◌≡◌, List, Some, length}
use Rattle.octets.specs.Octet.{octet}
use Rattle.layout.specs.declared.Shape.{Shape}
use Rattle.layout.specs.Laid.{LaidOut}
use Rattle.parts.specs.Spans.{part_of}
use Rattle.runs.specs.Params.{Param}
use Rattle.writing.specs.Compact.{Compact}
use Rattle.sccp.specs.declared.Message.{Message}
use Rattle.sccp.specs.Table.{sccp_shape_of, longest_sccp}

-- R52. 1 to 268 octets, a type of the table, and its parts laid out as the type's row says
pub record SccpFormed (m : List ℕ) (x : Message) : Type 0 where
  pub shape : Shape
  pub params : List Param
  pub least : 1 ≤ length m
  pub most : length m ≤ longest_sccp
  pub kind : x.kind ≡ octet m 0
  pub listed : sccp_shape_of x.kind ≡ Some shape
  pub laid : LaidOut m 0 shape x.parts params

-- variable parameters in pointer order right after the pointers, optional part next, nothing
-- between or after; optional pointer 0 if there are no optional parameters
pub record SccpCompact (m : List ℕ) (x : Message) : Type 0 where
  pub formed : SccpFormed m x
  pub tight : Compact m 0 formed.shape x.parts formed.params

-- a message that reads so says this type, fixed octets, contents and optional run
pub record SccpSays (m : List ℕ) (x : Message) (k : ℕ) (f a b c r : List ℕ) : Type 0 where
  pub kind : x.kind ≡ k
  pub fixed : part_of m x.parts.fixed ≡ f
  pub first : part_of m x.parts.first ≡ a
  pub second : part_of m x.parts.second ≡ b
  pub third : part_of m x.parts.third ≡ c
  pub run : part_of m x.parts.optional ≡ r

-- the octets ys are a message in compact form that says what message m says, which reads as x:
-- type, fixed octets, contents and optional run
abbrev pub SccpSaysSame : List ℕ → Message → List ℕ → Type 0
SccpSaysSame m x ys =
    (y : Message) × SccpCompact ys y
    × SccpSays ys y x.kind (part_of m x.parts.fixed) (part_of m x.parts.first)
    (part_of m x.parts.second) (part_of m x.parts.third) (part_of m x.parts.optional)
