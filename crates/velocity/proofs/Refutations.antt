-- What a wrong program would give, held to the definition on one value.
use mathlib.Core.Path.{◌≡◌, refl}
use mathlib.Core.Bool.{true, false}
use lib.IntN.{pos, negsuc}
use lib.Ieee.{fin, inf, binary64, add}
use Rattle.octets.specs.Answer.{accepted, refused}
use Rattle.velocity.specs.Velocity.{measured, bearing_of, speed_of}

-- 0.49999999999999994, the value next below one half, is 0; adding one half makes it 1
pub below-half-down : speed_of 65535 (measured (fin false 9007199254740991 (negsuc 53))) ≡ accepted 0
unfolding speed_of measured
below-half-down = refl

pub adding-half : add binary64 (fin false 9007199254740991 (negsuc 53)) (fin false 1 (negsuc 0)) ≡ fin false 1 (pos 0)
unfolding add
adding-half = refl

pub one-half-up : speed_of 65535 (measured (fin false 1 (negsuc 0))) ≡ accepted 1
unfolding speed_of measured
one-half-up = refl

-- the smallest value above zero, and minus zero
pub smallest-coded : speed_of 65535 (measured (fin false 1 (negsuc 1073))) ≡ accepted 0
unfolding speed_of measured
smallest-coded = refl

pub zero-coded : speed_of 65535 (measured (fin true 0 (pos 0))) ≡ accepted 0
unfolding speed_of measured
zero-coded = refl

pub minus-zero-coded : bearing_of (measured (fin true 0 (pos 0))) ≡ accepted 0
unfolding bearing_of measured
minus-zero-coded = refl

pub infinity-refused : speed_of 65535 (measured (inf false)) ≡ refused 26 0
unfolding speed_of measured
infinity-refused = refl

-- 65534.5 and 254.5 take the top
pub from-the-top-coded : speed_of 65535 (measured (fin false 131069 (negsuc 0))) ≡ accepted 65535
unfolding speed_of measured
from-the-top-coded = refl

pub vertical-top-coded : speed_of 255 (measured (fin false 509 (negsuc 0))) ≡ accepted 255
unfolding speed_of measured
vertical-top-coded = refl

-- 360
pub full-circle-refused : bearing_of (measured (fin false 45 (pos 3))) ≡ refused 26 0
unfolding bearing_of measured
full-circle-refused = refl
