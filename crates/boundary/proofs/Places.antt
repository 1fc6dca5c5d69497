-- The octet that a refusal is about.
use Prim.Native.Nat.{ℕ, ◌≤◌}
use mathlib.Core.Path.{◌≡◌}
use mathlib.Core.List.{List}
use native.Mathlib.Omega.{arith}
use lib.ListN.{length}
use lib.Dec.{ltb}
use Rattle.octets.specs.Filled.{room_for}
use Rattle.octets.proofs.Places.{UpTo, up-to-accepted, up-to-refused, up-to-if}

-- 13 comes with no octet
pub room-placeless : {A : Type 0} (k : ℕ) (lent : List ℕ) (x : A × List ℕ) → UpTo k (room_for lent x)
room-placeless k lent x = up-to-if k (ltb (length lent) (length x.1)) (λ _. up-to-refused k 13 0 (omega arith)) (λ _. up-to-accepted k x)

-- about no octet
abbrev pub Placeless : ℕ → ℕ → Type 0
Placeless n at = at ≡ 0

-- with a number from 1 on
abbrev pub Bare : ℕ → ℕ → Type 0
Bare n at = (1 ≤ n) × (at ≡ 0)

-- with a number from 1 on, and an octet that goes into 16 bits
abbrev pub Plain : ℕ → ℕ → Type 0
Plain n at = (1 ≤ n) × (at ≤ 65535)
