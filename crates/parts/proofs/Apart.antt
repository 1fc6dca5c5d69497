-- Parts that share no octet, and the larger of two starts.
use mathlib.Core.Path.{◌≡◌, refl}
use mathlib.Core.Bool.{false}
use mathlib.Core.Logic.{inl, inr, ⊎_elim}
use native.Mathlib.Omega.{arith}
use borrow.Author.Tests.{le-leb, ltb-true, ltb-false}
use lib.Dec.{ltb}
use Rattle.octets.proofs.Choice.{decided}
use Rattle.parts.specs.declared.Span.{Span}
use Rattle.parts.specs.Overlap.{shares_of, later, LargerStart}

-- a part that ends at octet 0 is not there, and shares no octet
pub no-share : (a b : Span) → b.to ≡ 0 → shares_of a b ≡ false
unfolding shares_of
no-share a b e = rw (e, le-leb 0 a.from (omega arith)) refl

-- what is given as the later start is the larger of the two
pub larger-later : (a b : Span) → LargerStart a b (later a b)
larger-later a b =
    ⊎_elim
    (λ t. rw t (record { first = omega (arith, ltb-true a.from b.from t); second = omega arith; one = inr refl }))
    (λ f. rw f (record { first = omega arith; second = ltb-false a.from b.from f; one = inl refl }))
    (decided (ltb a.from b.from))
