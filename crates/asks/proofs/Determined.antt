-- Any two answers that the contract of `decode` allows are equal.
use Prim.Native.Nat.{ℕ}
use mathlib.Core.Path.{◌≡◌, sym, ◌∙◌}
use mathlib.Core.List.{List}
use Rattle.std.specs.Prelude.{Result}
use Rattle.octets.proofs.Told.{told-injective}
use Rattle.octets.specs.Told.{told}
use Rattle.octets.specs.declared.Refusal.{Refusal}
use Rattle.asks.specs.Asks.{ask_of}
use Rattle.asks.specs.declared.Ask.{Ask}

pub decode-determined : (m : List ℕ) (r s : Result Ask Refusal) → told r ≡ ask_of m → told s ≡ ask_of m → r ≡ s
decode-determined m r s p q = told-injective r s (p ∙ sym q)
