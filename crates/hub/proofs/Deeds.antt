-- What a call does, told with the circuits that its message names.
use Prim.Native.Nat.{ℕ, ◌+◌}
use mathlib.Core.Path.{◌≡◌, refl, sym, ◌∙◌, ap}
use mathlib.Core.List.{List}
use Rattle.std.specs.Prelude.{Result, Ok, Err}
use Rattle.octets.specs.Answer.{Answer, accepted, refused}
use Rattle.octets.specs.Told.{refusal_number, refusal_place, told}
use Rattle.octets.specs.declared.Refusal.{Refusal}
use Rattle.octets.proofs.Told.{told-injective}
use Rattle.asks.specs.declared.Ask.{Ask}
use Rattle.asks.specs.Asks.{ask_of}
use Rattle.hub.specs.declared.Handled.{Handled}
use Rattle.rights.specs.Tables.{Tables}
use Rattle.hub.specs.Acts.{after, act_of}
use Rattle.hub.specs.Deeds.{deed, Handling, handling, with_circuits, handling_of, handled_of, unspanned}

module _ (T : Tables) (sender : ℕ) (m buffer : List ℕ) where
  -- a refusal
  pub handle-refused : (n at : ℕ) (states left : List ℕ) → after (refused n at) states left ≡ act_of T sender m buffer → handling (refused n at) states left ≡ handled_of T sender m buffer
  unfolding handled_of
  handle-refused n at states left e = ap (λ (x : Answer Handled). handling x states left) (sym (never (ask_of m))) ∙ ap (handling_of m) e
    where
      never : (g : Answer Ask) → with_circuits g (refused n at) ≡ refused n at
      never (accepted a) = refl
      never (refused k place) = refl

  -- what is granted, and the circuits that are named
  pub handle-done : (n : ℕ) (a : Ask) (states left : List ℕ) → ask_of m ≡ accepted a → after (accepted n) states left ≡ act_of T sender m buffer
      → handling (accepted (deed n a.circuit (a.circuit + a.range))) states left ≡ handled_of T sender m buffer
  unfolding handled_of
  handle-done n a states left q e = ap (λ (g : Answer Ask). handling (with_circuits g (accepted n)) states left) (sym q) ∙ ap (handling_of m) e

  -- without the circuits it is the call
  pub forget : (g : Answer Ask) (x : Answer ℕ) → unspanned (with_circuits g x) ≡ x
  forget (accepted a) (accepted n) = refl
  forget (refused k place) (accepted n) = refl
  forget (accepted a) (refused n at) = refl
  forget (refused k place) (refused n at) = refl

  module _ (r : Result Handled Refusal) (states left : List ℕ) (e : handling (told r) states left ≡ handled_of T sender m buffer) where
    -- whoever forgets the circuits has what the hub does
    forgotten : {x : Answer Handled} → told r ≡ x → after (unspanned x) states left ≡ act_of T sender m buffer
    unfolding handled_of
    forgotten {x} q =
        ap (λ (y : Answer Handled). after (unspanned y) states left) (sym q)
        ∙ ap (λ (h : Handling). after (unspanned h.answer) h.states h.buffer) e
        ∙ ap (λ (y : Answer ℕ). after y (act_of T sender m buffer).states (act_of T sender m buffer).buffer) (forget (ask_of m) (act_of T sender m buffer).answer)

    pub acts-refused : (why : Refusal) → r ≡ Err why → after (refused (refusal_number why) (refusal_place why)) states left ≡ act_of T sender m buffer
    acts-refused why q = forgotten (ap told q)

    pub acts-done : (d : Handled) → r ≡ Ok d → after (accepted d.count) states left ≡ act_of T sender m buffer
    acts-done d q = forgotten (ap told q)

-- the contract of `handle` determines the answer, the states and the buffer
pub handle-determined : (T : Tables) (sender : ℕ) (m buffer : List ℕ) (r s : Result Handled Refusal) (states₁ states₂ buffer₁ buffer₂ : List ℕ)
    → handling (told r) states₁ buffer₁ ≡ handled_of T sender m buffer
    → handling (told s) states₂ buffer₂ ≡ handled_of T sender m buffer
    → (r ≡ s) × (states₁ ≡ states₂) × (buffer₁ ≡ buffer₂)
handle-determined T sender m buffer r s states₁ states₂ buffer₁ buffer₂ p q =
    let e = p ∙ sym q in (
      told-injective r s (ap (λ (x : Handling). x.answer) e),
      ap (λ (x : Handling). x.states) e,
      ap (λ (x : Handling). x.buffer) e,
    )
