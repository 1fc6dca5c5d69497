-- The contents of document 01, as they are written.
use mathlib.Core.Path.{◌≡◌, refl}
use mathlib.Core.List.{[], ◌∷◌}
use Rattle.octets.specs.Answer.{accepted}
use Rattle.number.specs.Halves.{two_to_an_octet}
use Rattle.number.proofs.Samples.{contents123, contents1234}
use Rattle.dialling.specs.Write.{any_above15, number_octets}

-- 123 is written 83 10 21 03
pub writes-123 : number_octets 3 1 0 (1 ∷ 2 ∷ 3 ∷ []) ≡ accepted (4, contents123)
unfolding any_above15 two_to_an_octet
writes-123 = refl

-- 1234 is written 03 10 21 43
pub writes-1234 : number_octets 3 1 0 (1 ∷ 2 ∷ 3 ∷ 4 ∷ []) ≡ accepted (4, contents1234)
unfolding any_above15 two_to_an_octet
writes-1234 = refl
