-- What an answer carries, as statements and not as a computation.
use Rattle.std.specs.Prelude.{ℕ, ◌+◌, ◌≤◌, ◌<◌, ◌≡◌, false, List, [], ◌∷◌, ◌++◌, eqb, length}
use Rattle.octets.specs.Octet.{octet}
use Rattle.octets.specs.Answer.{accepted}
use Rattle.octets.specs.Choice.{when◌then◌else◌}
use Rattle.isup.specs.declared.Message.{Message}
use Rattle.isup.specs.Types.{RLC, BLO, BLA, UBA, CGBA, CGUA, GRA, CQR}
use Rattle.isup.specs.Read.{read_of}
use Rattle.isup.specs.Compact.{CompactForm, Says}
use Rattle.rows.specs.declared.Act.{Act}
use Rattle.rows.specs.declared.Act.TheVariants.{Seize, Release, Reset, Block, Unblock, ResetGroup, BlockGroup, UnblockGroup, Query}
use Rattle.rows.specs.Rows.{local, circuit_state_lem}
use Rattle.asks.specs.Asks.{width, bit_at}
use Rattle.replies.specs.Replies.{status_given, status_locked, states_from}

-- R43. the status of an answer to range r: r/8+1 octets, whose bits 0 to r are those of the
-- message's status, and whose spare bits are 0
pub record Marks (m : List ℕ) (from range : ℕ) (status : List ℕ) : Type 0 where
  pub wide : length status ≡ width range
  pub marks : (i : ℕ) → i ≤ range → bit_at status 0 i ≡ bit_at m from i
  pub spare : (i : ℕ) → range < i → bit_at status 0 i ≡ false

-- R39. the status of GRA to range r: r/8+1 octets, whose bit i, for i from 0 to r, is 1 exactly
-- where row m+i has the 8, and whose spare bits are 0
pub record Locks (rows : List ℕ) (circuit range : ℕ) (status : List ℕ) : Type 0 where
  pub wide : length status ≡ width range
  pub locks : (i : ℕ) → i ≤ range → bit_at status 0 i ≡ eqb (local (octet rows (circuit + i))) 1
  pub spare : (i : ℕ) → range < i → bit_at status 0 i ≡ false

-- R44. the circuit states of an answer to range r: r+1 octets, octet i being the state of row m+i
pub record States (rows : List ℕ) (circuit range : ℕ) (states : List ℕ) : Type 0 where
  pub wide : length states ≡ range + 1
  pub each : (i : ℕ) → i ≤ range → octet states i ≡ circuit_state_lem (octet rows (circuit + i))

-- a message of an answer: its type, its fixed octets, its first and its second
-- contents; no answer has an optional part
pub record Saying : Type 0 where
  pub kind : ℕ
  pub fixed : List ℕ
  pub first : List ℕ
  pub second : List ℕ

-- the four together
abbrev pub saying : ℕ → List ℕ → List ℕ → List ℕ → Saying
saying kind fixed first second =
    record { kind = kind; fixed = fixed; first = first; second = second }

-- what answers an act, message by message: none answers IAM, two answer RSC where the circuit is
-- locally blocked, and one answers any other
abbrev pub messages_to : Act → ℕ → ℕ → List ℕ → List ℕ → List Saying
messages_to Seize range block group status = []
messages_to Release range block group status = saying RLC [] [] [] ∷ []
messages_to Reset range block group status =
    when eqb (local (octet group 0)) 1 then saying BLO [] [] [] ∷ saying RLC [] [] [] ∷ []
    else saying RLC [] [] [] ∷ []
messages_to Block range block group status = saying BLA [] [] [] ∷ []
messages_to Unblock range block group status = saying UBA [] [] [] ∷ []
messages_to ResetGroup range block group status =
    saying GRA [] (range ∷ status_locked range group) [] ∷ []
messages_to BlockGroup range block group status =
    saying CGBA (block ∷ []) (range ∷ status_given range status) [] ∷ []
messages_to UnblockGroup range block group status =
    saying CGUA (block ∷ []) (range ∷ status_given range status) [] ∷ []
messages_to Query range block group status =
    saying CQR [] (range ∷ []) (states_from group 0 (range + 1)) ∷ []

-- their types
abbrev pub said_types : List Saying → List ℕ
said_types [] = []
said_types (s ∷ ss) = s.kind ∷ said_types ss

-- the octets read as a message in the compact form, with that circuit, type, fixed octets and
-- contents, and no optional part
abbrev pub ReadsAs : List ℕ → ℕ → Saying → Type 0
ReadsAs octets circuit s =
    (y : Message) × (read_of octets ≡ accepted y) × CompactForm octets y
    × Says octets y circuit s.kind s.fixed s.first s.second []

-- R45. the octets are these messages, one after the other
abbrev pub ReadInTurn : List ℕ → ℕ → List Saying → Type 0
ReadInTurn octets circuit [] = octets ≡ []
ReadInTurn octets circuit (s ∷ ss) =
    (front : List ℕ) × (rest : List ℕ) × (octets ≡ front ++ rest) × ReadsAs front circuit s
    × ReadInTurn rest circuit ss
