-- Who has a right on the circuits that are named, and whether their rows are legal.
use Rattle.std.specs.Prelude.{ℕ, zero, suc, ◌+◌, ◌≤◌, ◌<◌, ◌≡◌, Bool, true, false, List, Option, Some, None, eqb}
use Rattle.octets.specs.Octet.{octet}
use Rattle.octets.specs.Choice.{when◌then◌else◌}
use Rattle.rows.specs.declared.Act.{Act}
use Rattle.rows.specs.declared.Act.TheVariants.{Seize, Release, Reset, Block, Unblock, ResetGroup, BlockGroup, UnblockGroup, Query}
use Rattle.rows.specs.Rows.{is_legal}

-- whether a table of owners, or of helpers, names the sender for the circuit:
-- its octet is the sender, who is not 0
abbrev pub is_mine : List ℕ → ℕ → ℕ → Bool
is_mine table sender circuit = when eqb sender 0 then false else eqb (octet table circuit) sender

-- whether the sender has a right on the circuit: it owns it or helps it
abbrev pub has_right : List ℕ → List ℕ → ℕ → ℕ → Bool
has_right owners helpers sender circuit = when is_mine owners sender circuit then true else is_mine helpers sender circuit

-- whether an act may be done by a helper: BLO, UBL, CQM, and CGB and CGU for maintenance
unfoldable pub may_help : Act → ℕ → Bool
may_help Seize block = false
may_help Release block = false
may_help Reset block = false
may_help Block block = true
may_help Unblock block = true
may_help ResetGroup block = false
may_help BlockGroup block = eqb block 0
may_help UnblockGroup block = eqb block 0
may_help Query block = true

-- the first of the n circuits from `circuit` on that is not as it should be ends the search
unfoldable pub first_not : (ℕ → Bool) → ℕ → ℕ → Option ℕ
first_not good circuit zero = None
first_not good circuit (suc n) = when good circuit then first_not good (suc circuit) n else Some circuit

-- the first circuit on which the sender has no right
abbrev pub first_foreign_lem : List ℕ → List ℕ → ℕ → ℕ → ℕ → Option ℕ
first_foreign_lem owners helpers sender = first_not (has_right owners helpers sender)

-- the first circuit that the sender does not own
abbrev pub first_unowned_lem : List ℕ → ℕ → ℕ → ℕ → Option ℕ
first_unowned_lem owners sender = first_not (is_mine owners sender)

-- the first circuit whose state octet is not legal
abbrev pub first_illegal_lem : List ℕ → ℕ → ℕ → Option ℕ
first_illegal_lem states = first_not (λ c. is_legal (octet states c))

-- circuit c is the first of the n circuits from `circuit` on that is not as it should be
pub record IsFirst (good : ℕ → Bool) (circuit n c : ℕ) : Type 0 where
  pub from : circuit ≤ c
  pub within : c < circuit + n
  pub bad : good c ≡ false
  pub before : (j : ℕ) → circuit ≤ j → j < c → good j ≡ true
