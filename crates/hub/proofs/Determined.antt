-- Any two answers that the contract of `act` allows are equal, with the states and the answer
-- buffer afterwards; and any two of `judge`.
use Prim.Native.Nat.{ℕ}
use mathlib.Core.Path.{◌≡◌, sym, ◌∙◌, ap}
use mathlib.Core.List.{List}
use Rattle.std.specs.Prelude.{Result}
use Rattle.octets.specs.Told.{told}
use Rattle.octets.specs.declared.Refusal.{Refusal}
use Rattle.octets.proofs.Told.{told-injective}
use Rattle.asks.specs.declared.Ask.{Ask}
use Rattle.rights.specs.Tables.{Tables}
use Rattle.hub.specs.Acts.{After, after, judged_of, act_of}

-- of one call, for any tables, sender, message and buffer
pub act-determined : (T : Tables) (sender : ℕ) (m buffer : List ℕ) (r s : Result ℕ Refusal) (states₁ states₂ buffer₁ buffer₂ : List ℕ)
    → after (told r) states₁ buffer₁ ≡ act_of T sender m buffer
    → after (told s) states₂ buffer₂ ≡ act_of T sender m buffer
    → (r ≡ s) × (states₁ ≡ states₂) × (buffer₁ ≡ buffer₂)
act-determined T sender m buffer r s states₁ states₂ buffer₁ buffer₂ p q =
    let e = p ∙ sym q in (
      told-injective r s (ap (λ (x : After). x.answer) e),
      ap (λ (x : After). x.states) e,
      ap (λ (x : After). x.buffer) e,
    )

-- of one message that is judged
pub judge-determined : (T : Tables) (sender : ℕ) (m : List ℕ) (r s : Result Ask Refusal) → told r ≡ judged_of T sender m → told s ≡ judged_of T sender m → r ≡ s
judge-determined T sender m r s p q = told-injective r s (p ∙ sym q)
