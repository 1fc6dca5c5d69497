-- Everything that goes into a rebuild's answer is small enough for it.
use Prim.Native.Nat.{ℕ, ◌≤◌}
use mathlib.Core.Path.{◌≡◌}
use mathlib.Core.Bool.{Bool, true, false}
use mathlib.Core.List.{List}
use native.Mathlib.Omega.{arith}
use Rattle.octets.specs.Choice.{when◌then◌else◌}
use Rattle.octets.specs.Answer.{accepted, refused}
use Rattle.octets.specs.Filled.{leaving}
use Rattle.octets.proofs.Answer.{accepted-same, refused-accepted}
use Rattle.octets.proofs.Places.{refusal-so}
use Rattle.telling.specs.Telling.{In16Bits}
use Rattle.totals.specs.Blocks.{all_counted, sized_totals, rebuild_of, rebuild_faults}
use Rattle.totals.proofs.Judged.{rebuild-judges}
use Rattle.boundary.proofs.Places.{Plain}

module _ (states totals : List ℕ) where
  -- it writes 64 totals
  pub rebuild-small : (n : ℕ) → (rebuild_of states totals).answer ≡ accepted n → n ≤ 64
  unfolding rebuild_of
  rebuild-small n e = go (sized_totals states totals) e
    where
      go : (t : Bool) → (when t then leaving (accepted 64) (all_counted states totals) else leaving (refused 16 0) totals).answer ≡ accepted n → n ≤ 64
      go true q = omega (arith, accepted-same q)
      go false q = absurd (refused-accepted q)

  -- a refusal is plain
  pub rebuild-plain : (n at : ℕ) → (rebuild_of states totals).answer ≡ refused n at → Plain n at
  rebuild-plain n at e = refusal-so Plain _ (rebuild_faults states totals) (rebuild-judges states totals) (λ at h. (omega arith, omega (arith, h.0)), tt) n at e

  pub rebuild-fits : In16Bits (rebuild_of states totals).answer
  rebuild-fits = (λ n q. omega (arith, rebuild-small n q), λ n at q. (rebuild-plain n at q).1)
