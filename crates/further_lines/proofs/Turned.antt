-- What a request about the totals reads.
use Prim.Native.Nat.{ℕ}
use mathlib.Core.Path.{◌≡◌, refl}
use mathlib.Core.List.{List}
use Rattle.fields.specs.declared.Field.{Field}
use Rattle.requests.specs.Along.{said_in}
use Rattle.requests.proofs.Said.{number-at}
use Rattle.busy_lines.specs.Busy.{busy_done}

-- the requests about the totals have no octets
pub busy-any : (states totals : List ℕ) (which : ℕ) (s t : List ℕ) (fs : List Field) → busy_done states totals which (said_in s fs) ≡ busy_done states totals which (said_in t fs)
unfolding busy_done
busy-any states totals which s t fs = rw (number-at s fs 0, number-at s fs 1, number-at t fs 0, number-at t fs 1) refl
