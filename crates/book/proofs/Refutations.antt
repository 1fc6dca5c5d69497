-- What wrong programs would answer otherwise, each on one span: by computation.
use mathlib.Core.Path.{◌≡◌, refl}
use mathlib.Core.Bool.{true, false}
use Rattle.book.specs.Awaits.{bad_span_lem}

-- a span that begins right behind the last one, which ended with circuit 4, is taken
pub touching-taken : bad_span_lem 5 5 9 8 ≡ false
touching-taken = refl

-- one that begins with circuit 4 itself is not
pub overlapping-refused : bad_span_lem 5 4 9 8 ≡ true
overlapping-refused = refl

-- one up to circuit 4095 is taken, and one up to 4096 is not
pub circuit-4095-taken : bad_span_lem 0 4095 4095 7 ≡ false
circuit-4095-taken = refl

pub circuit-4096-refused : bad_span_lem 0 4095 4096 7 ≡ true
circuit-4096-refused = refl

-- one of sender 0 is not taken, and one of 255 is
pub nobody-refused : bad_span_lem 0 1 4 0 ≡ true
nobody-refused = refl

pub sender-255-taken : bad_span_lem 0 1 4 255 ≡ false
sender-255-taken = refl
