-- Any two answers that the contract of `permit` allows are equal.
use Rattle.octets.proofs.Told.{told-injective}
use Rattle.std.specs.Prelude.{Result}
use Rattle.octets.specs.Told.{told}
use Rattle.octets.specs.declared.Refusal.{Refusal}
use Prim.Native.Nat.{ℕ}
use mathlib.Core.Path.{◌≡◌, sym, ◌∙◌}
use Rattle.asks.specs.declared.Ask.{Ask}
use Rattle.rights.specs.Tables.{Tables}
use Rattle.rights.specs.Permits.{permitted_in}

pub permit-determined : (T : Tables) (sender : ℕ) (a : Ask) (r s : Result Ask Refusal) → told r ≡ permitted_in T sender a → told s ≡ permitted_in T sender a → r ≡ s
permit-determined T sender a r s p q = told-injective r s (p ∙ sym q)
