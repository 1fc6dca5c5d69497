-- The finder from what the reader ensures, over plain variables.
use Prim.Native.Nat.{ℕ}
use mathlib.Core.Path.{◌≡◌, sym, ap}
use mathlib.Core.List.{List}
use Rattle.std.specs.Prelude.{Result, Ok, Err, IsErrAnd}
use Rattle.octets.specs.Answer.{refused, ◌then◌}
use Rattle.octets.specs.Told.{refusal_number, refusal_place, told}
use Rattle.octets.specs.declared.Refusal.{Refusal}
use Rattle.isup.specs.declared.Message.{Message}
use Rattle.isup.specs.Read.{read_of}
use Rattle.finding.specs.declared.Located.{Located}
use Rattle.finding.specs.Told.{located_told}
use Rattle.finding.specs.Find.{sought_in, locate_of}
use Rattle.isup.proofs.Given.{read-message, read-refused}

module _ (m : List ℕ) (x : Result Message Refusal) (q : told x ≡ read_of m) where
  pub refused-located : (d : List ℕ) (name : ℕ) (why : Refusal) → x ≡ Err why → refused (refusal_number why) (refusal_place why) ≡ locate_of m d name
  unfolding locate_of
  refused-located d name why e = ap (λ z. z then λ y. sought_in m y.parts.optional d name) (sym (read-refused m x q why e))

  pub read-located : (d : List ℕ) (name : ℕ) (y : Message) → x ≡ Ok y → sought_in m y.parts.optional d name ≡ locate_of m d name
  unfolding locate_of
  read-located d name y e = ap (λ z. z then λ y. sought_in m y.parts.optional d name) (sym (read-message m x q y e))

-- what `?` hands on says what it was handed
pub handed_on : (r : Result Located Refusal) (why : Refusal) → IsErrAnd r (λ x. x ≡ why) → located_told r ≡ refused (refusal_number why) (refusal_place why)
handed_on (Ok a) why h = absurd h
handed_on (Err x) why h = ap (λ (y : Refusal). refused (refusal_number y) (refusal_place y)) h
