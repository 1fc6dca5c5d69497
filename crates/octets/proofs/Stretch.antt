-- Any two that are the same stretch are the same memory with the same octets. (A reference's ghost
-- name is nothing that a program sees.)
use Prim.Native.Nat.{ℕ}
use mathlib.Core.Path.{◌≡◌}
use mathlib.Core.List.{List}
use denote.Ref.{Bor}
use Rattle.octets.specs.Stretch.{Stretch}

pub stretch-one : {whole p q : Bor (List ℕ)} {a n : ℕ} → Stretch whole a n p → Stretch whole a n q → (p.ref_ptr ≡ q.ref_ptr) × (p.now ≡ q.now)
stretch-one x y = (cc, cc)
