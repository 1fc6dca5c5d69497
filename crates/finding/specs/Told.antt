-- What each case of an answer says, in document 01's terms.
use Rattle.std.specs.Prelude.{Result, Ok, Err}
use Rattle.octets.specs.Answer.{Answer, accepted, refused}
use Rattle.octets.specs.Told.{refusal_number, refusal_place}
use Rattle.octets.specs.declared.Refusal.{Refusal}
use Rattle.finding.specs.declared.Located.{Located}
use Rattle.finding.specs.declared.Located.TheVariants.{Message, Defaults}
use Rattle.finding.specs.Find.{Spot, spot}

-- where it was found, or the number with the octet that it is about
abbrev pub located_told : Result Located Refusal → Answer Spot
located_told (Ok (Message a n)) = accepted (spot 0 a n)
located_told (Ok (Defaults a n)) = accepted (spot 100 a n)
located_told (Err why) = refused (refusal_number why) (refusal_place why)
