-- What each case of an answer says, in the paper's terms.
use Rattle.std.specs.Prelude.{ℕ, Result, Ok, Err}
use Rattle.octets.specs.Answer.{Answer, accepted, refused}
use Rattle.octets.specs.Told.{refusal_number, refusal_place}
use Rattle.octets.specs.declared.Refusal.{Refusal}
use Rattle.velocity.specs.declared.Known.{Known}
use Rattle.velocity.specs.declared.Known.TheVariants.{Horizontal, WithVertical}
use Rattle.velocity.specs.Velocity.{Flat, flat, Stands, alone, beside}

-- the codes of a bearing and a speed, or 26
abbrev pub flat_told : Result (ℕ × ℕ) Refusal → Answer Flat
flat_told (Ok x) = accepted (flat x.0 x.1)
flat_told (Err why) = refused (refusal_number why) (refusal_place why)

-- what codes stand for, or the refusal
abbrev pub known_told : Result Known Refusal → Answer Stands
known_told (Ok (Horizontal c)) = accepted (alone c)
known_told (Ok (WithVertical c u mark)) = accepted (beside c u mark)
known_told (Err why) = refused (refusal_number why) (refusal_place why)
