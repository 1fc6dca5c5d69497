-- A stretch of a lent slice.
use Rattle.std.specs.Prelude.{ℕ, ◌+◌, ◌≡◌, List, take, drop}
use Rattle.std.specs.Borrow.{Bor}

-- R20. `part` IS the n octets of `whole` from octet a on: it points into the same memory, a octets
-- past where `whole` begins, and holds those octets
pub record Stretch (whole : Bor (List ℕ)) (a n : ℕ) (part : Bor (List ℕ)) : Type 0 where
  pub here : part.ref_ptr ≡ (whole.ref_ptr.0, a + whole.ref_ptr.1)
  pub holds : part.now ≡ take n (drop a whole.now)
