-- One step of a search, as the proof of its loop cites it. Each count is an argument with an
-- equation, which `omega` proves at a call.
use Prim.Native.Nat.{ℕ, zero, suc, ◌+◌, ◌<◌}
use mathlib.Core.Path.{◌≡◌}
use mathlib.Core.Bool.{Bool, true, false}
use native.Mathlib.Omega.{arith}
use native.Mathlib.Numerals.{add-one}
use Rattle.std.specs.Prelude.{Some, None}
use Rattle.rights.specs.Rights.{first_not}

module _ (good : ℕ → Bool) (circuit : ℕ) where
  -- no circuit is left
  pub search-done : (n : ℕ) → n ≡ 0 → first_not good circuit n ≡ None
  unfolding first_not
  search-done n e = rw e

  -- this one ends it
  pub search-ends : (n : ℕ) → 0 < n → good circuit ≡ false → first_not good circuit n ≡ Some circuit
  unfolding first_not
  search-ends zero h e = absurd (omega arith)
  search-ends (suc n) h e = rw e

  -- this one is as it should be
  pub search-on : (m n : ℕ) → m ≡ suc n → good circuit ≡ true → first_not good circuit m ≡ first_not good (circuit + 1) n
  unfolding first_not
  search-on m n h e = rw (h, e, add-one)
