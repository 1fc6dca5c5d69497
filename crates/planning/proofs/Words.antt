-- 25 in the paper's words, over all plans: for maintenance some ticked circuit is neither owned nor
-- helped; for hardware one is not owned, or has no owned neighbour.
use Prim.Native.Nat.{ℕ, ◌+◌, ◌-◌, ◌≤◌, ◌<◌}
use mathlib.Core.Path.{◌≡◌, refl}
use mathlib.Core.Bool.{true}
use mathlib.Core.List.{List}
use mathlib.Core.Logic.{◌⊎◌, inl, inr, ⊎_elim, ◌↔◌}
use native.Mathlib.Omega.{arith}
use lib.ListN.{length}
use Rattle.octets.proofs.Choice.{decided}
use Rattle.rights.specs.Tables.{Tables}
use Rattle.rights.specs.Rights.{is_mine, has_right}
use Rattle.rights.specs.Names.{Mine, HasRight}
use Rattle.rights.proofs.Meaning.{mine-is, not-mine, right_is, not_right}
use Rattle.plans.specs.Plans.{ticked}
use Rattle.plans.specs.Turns.{AllLegal, may_block_lem}
use Rattle.planning.specs.Outcome.{NoPlan}
use Rattle.planning.proofs.Outcome.{no-plan-decided}

mine-so : (table : List ℕ) (sender c : ℕ) → Mine table sender c → is_mine table sender c ≡ true
mine-so table sender c m =
    ⊎_elim (λ t. t) (λ t. absurd (⊎_elim (λ n. n m.0) (λ z. m.1 z) (not-mine table sender c t))) (decided (is_mine table sender c))

right_so : (T : Tables) (sender c : ℕ) → HasRight T sender c → has_right T.owners T.helpers sender c ≡ true
right_so T sender c m =
    ⊎_elim
    (λ t. t)
    (λ t. absurd
    (⊎_elim
    (λ n. ⊎_elim (λ o. n.0 o.0) (λ h. n.1 h.0) m)
    (λ z. ⊎_elim (λ o. o.1 z) (λ h. h.1 z) m)
    (not_right T sender c t)))
    (decided (has_right T.owners T.helpers sender c))

-- owned, with an owned neighbour: 0 has none before it, and 4095 none after it
abbrev pub OwnedPair : List ℕ → ℕ → ℕ → Type 0
OwnedPair owners sender c = Mine owners sender c × (((c < 4095) × Mine owners sender (c + 1)) ⊎ ((1 ≤ c) × Mine owners sender (c - 1)))

module _ (T : Tables) (ticks : List ℕ) (sender : ℕ) (p : length T.states ≡ 4096) (q : length T.owners ≡ 4096) (h : length T.helpers ≡ 4096) (t : length ticks ≡ 4096) (l : AllLegal T.states) where
  -- for maintenance
  pub no-plan-maintenance : NoPlan T ticks sender 0 ↔ ((c : ℕ) × (ticked ticks c ≡ true) × (HasRight T sender c → ⊥))
  unfolding may_block_lem
  no-plan-maintenance =
      let d = no-plan-decided T ticks sender 0 p q h t (omega arith) l in (
        λ none. let w = d.0 none in (w.0, w.1, λ r. w.2 (right_so T sender w.0 r, inl refl)),
        λ w. d.1 (w.0, w.1, λ r. w.2 (right_is T sender w.0 r.0)),
      )

  -- for hardware
  pub no-plan-hardware : NoPlan T ticks sender 1 ↔ ((c : ℕ) × (ticked ticks c ≡ true) × (OwnedPair T.owners sender c → ⊥))
  unfolding may_block_lem
  no-plan-hardware =
      let d = no-plan-decided T ticks sender 1 p q h t (omega arith) l in (
        λ none.
            let w = d.0 none in
            (w.0, w.1, λ r. w.2 (mine-so T.owners sender _ r.0, inr (⊎_elim (λ n. inl (n.0, mine-so T.owners sender _ n.1)) (λ n. inr (n.0, mine-so T.owners sender _ n.1)) r.1))),
        λ w.
            d.1 (
              w.0,
              w.1,
              λ r. w.2 (
                mine-is T.owners sender _ r.0,
                ⊎_elim
                    (λ z. absurd (omega arith))
                    (⊎_elim (λ n. inl (n.0, mine-is T.owners sender _ n.1)) (λ n. inr (n.0, mine-is T.owners sender _ n.1)))
                    r.1,
              ),
            ),
      )
