-- Any two outcomes that a function's contract allows are equal: the number,
-- and each lent octet afterwards.
use Prim.Native.Nat.{ℕ}
use mathlib.Core.Path.{◌≡◌, sym, ◌∙◌, ap}
use mathlib.Core.List.{List}
use Rattle.boundary.specs.Boundary.{Given, given}

-- of each function that is lent one buffer
pub boundary-determined : (g : Given) (v w : ℕ) (k l : List ℕ) → given v k ≡ g → given w l ≡ g → (v ≡ w) × (k ≡ l)
boundary-determined g v w k l p q = let e = p ∙ sym q in (ap (λ (x : Given). x.value) e, ap (λ (x : Given). x.left) e)
