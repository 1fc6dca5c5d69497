-- Any two answers that the contract of `judge` allows are equal.
use Rattle.octets.proofs.Told.{told-injective}
use Rattle.std.specs.Prelude.{Result}
use Rattle.octets.specs.Told.{told}
use Rattle.octets.specs.declared.Refusal.{Refusal}
use Rattle.parts.specs.declared.Parts.{Parts}
use mathlib.Core.Path.{◌≡◌}
use Rattle.octets.proofs.Answer.{one_answer}
use Rattle.parts.specs.declared.Span.{Span}
use Rattle.parts.specs.Overlap.{judged}

pub judge-parts-determined : (f a b c d : Span) (r s : Result Parts Refusal) → told r ≡ judged f a b c d → told s ≡ judged f a b c d → r ≡ s
judge-parts-determined f a b c d r s p q = told-injective r s (one_answer p q)
