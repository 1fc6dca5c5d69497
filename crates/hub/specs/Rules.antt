-- The words of 'Circuit rules': what an accepted call leaves. What becomes of
-- a row is said in crate `rows`.
use Rattle.std.specs.Prelude.{ℕ, ◌+◌, ◌/◌, ◌%◌, ◌≤◌, ◌<◌, ◌≡◌, Bool, true, false, List, [], ◌∷◌, ◌⊎◌, eqb, length}
use Rattle.octets.specs.Octet.{octet}
use Rattle.octets.specs.Choice.{when◌then◌else◌}
use Rattle.octets.specs.Answer.{accepted}
use Rattle.octets.specs.Filled.{filled}
use Rattle.rows.specs.Rows.{local}
use Rattle.isup.specs.declared.Message.{Message}
use Rattle.isup.specs.WellFormed.{WellFormed}
use Rattle.isup.specs.Types.{REL, RLC, RSC, BLO, UBL, BLA, UBA, GRS, CGB, CGU, CGBA, CGUA, GRA, CQM, CQR}
use Rattle.asks.specs.Asks.{range_in, width}
use Rattle.replies.specs.Rules.{Marks}
use Rattle.rights.specs.Tables.{Tables}
use Rattle.hub.specs.Acts.{act_of}

-- R42. of circuits m to m+r the marked rows change as said, the unmarked
-- stay, and every other row stays
pub record Changes (states states' : List ℕ) (circuit range : ℕ) (marked : ℕ → Bool) (Becomes : ℕ → ℕ → Type 0) : Type 0 where
  pub named : (i : ℕ) → i ≤ range → marked i ≡ true
      → Becomes (octet states (circuit + i)) (octet states' (circuit + i))
  pub unmarked : (i : ℕ) → i ≤ range → marked i ≡ false
      → octet states' (circuit + i) ≡ octet states (circuit + i)
  pub others : (c : ℕ) → (c < circuit) ⊎ (circuit + range < c) → octet states' c ≡ octet states c

-- each named circuit is marked
abbrev pub every : ℕ → Bool
every i = true

-- the octets fill the buffer's front, and their count is given
abbrev pub Answers : List ℕ → List ℕ → ℕ → List ℕ → Type 0
Answers buffer buffer' n octets = (n ≡ length octets) × (buffer' ≡ filled octets buffer)

-- a call that is accepted with n answer octets, its message read as x
pub record Accepts (T : Tables) (sender : ℕ) (m buffer : List ℕ) (x : Message) (n : ℕ) : Type 0 where
  pub reads : WellFormed m x
  pub answer : (act_of T sender m buffer).answer ≡ accepted n

-- R43. CGBA and CGUA: circuit m, the type, the indicator (spare bits 0), then range and status as
-- the one variable parameter
abbrev pub Acknowledges : List ℕ → List ℕ → ℕ → List ℕ → Message → ℕ → ℕ → Type 0
Acknowledges buffer buffer' n m x type indicator =
    let r = range_in m x.parts.first in
    (status : List ℕ)
    × Marks m (x.parts.first.from + 1) r status
    × Answers buffer buffer' n ((x.circuit % 256) ∷ (x.circuit / 256) ∷ type ∷ indicator ∷ 1
    ∷ (1 + width r) ∷ r ∷ status)

-- R45. the types that answer a type, in turn, where circuit m has that row: none
-- answers IAM; REL and RSC are answered by RLC, and BLO stands before it where RSC
-- finds the circuit locally blocked; BLO by BLA, UBL by UBA, GRS by GRA, CGB by CGBA,
-- CGU by CGUA, CQM by CQR; and no other is answered
unfoldable pub answer_types : ℕ → ℕ → List ℕ
answer_types kind row =
    when eqb kind REL then RLC ∷ []
    else when eqb kind RSC then (when eqb (local row) 1 then BLO ∷ RLC ∷ [] else RLC ∷ [])
    else when eqb kind BLO then BLA ∷ []
    else when eqb kind UBL then UBA ∷ []
    else when eqb kind GRS then GRA ∷ []
    else when eqb kind CGB then CGBA ∷ []
    else when eqb kind CGU then CGUA ∷ []
    else when eqb kind CQM then CQR ∷ []
    else []
