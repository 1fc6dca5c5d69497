-- The types that the hub acts on, and which act each asks for.
use Rattle.std.specs.Prelude.{ℕ, List, [], ◌∷◌, eqb}
use Rattle.octets.specs.Choice.{when◌then◌else◌}
use Rattle.octets.specs.Answer.{Answer, accepted, refused}
use Rattle.isup.specs.Types.{IAM, REL, RSC, BLO, UBL, GRS, CGB, CGU, CQM}
use Rattle.rows.specs.declared.Act.{Act}
use Rattle.rows.specs.declared.Act.TheVariants.{Seize, Release, Reset, Block, Unblock, ResetGroup, BlockGroup, UnblockGroup, Query}

-- R28. the types that the hub acts on
abbrev pub acting : List ℕ
acting = IAM ∷ REL ∷ RSC ∷ BLO ∷ UBL ∷ GRS ∷ CGB ∷ CGU ∷ CQM ∷ []

-- the type that asks for an act
abbrev pub type_of : Act → ℕ
type_of Seize = IAM
type_of Release = REL
type_of Reset = RSC
type_of Block = BLO
type_of Unblock = UBL
type_of ResetGroup = GRS
type_of BlockGroup = CGB
type_of UnblockGroup = CGU
type_of Query = CQM

-- every act
abbrev pub acts : List Act
acts = Seize ∷ Release ∷ Reset ∷ Block ∷ Unblock ∷ ResetGroup ∷ BlockGroup ∷ UnblockGroup ∷ Query ∷ []

-- the act of a list that the type asks for; 17 where there is none
abbrev pub act_among : ℕ → List Act → Answer Act
act_among kind [] = refused 17 0
act_among kind (a ∷ l) = when eqb kind (type_of a) then accepted a else act_among kind l

-- what a type asks for; 17 for a type that the hub does not act on
unfoldable pub act_for : ℕ → Answer Act
act_for kind = act_among kind acts
