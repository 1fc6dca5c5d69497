-- What an act makes of a row is what the rules say.
use Prim.Native.Nat.{ℕ, ◌+◌, ◌*◌, ◌/◌, ◌%◌, ◌<◌}
use mathlib.Core.Path.{◌≡◌, refl, sym, ◌∙◌, ap, subst}
use mathlib.Core.Bool.{Bool, true, false}
use native.Mathlib.Omega.{arith}
use native.Mathlib.Nat.{add_assoc, div-div-eq-div-mul}
use lib.Dec.{eqb}
use Rattle.octets.specs.Choice.{when◌then◌else◌}
use Rattle.rows.specs.declared.Act.{Act}
use Rattle.rows.specs.declared.Act.TheVariants.{Seize, Release, Reset, Block, Unblock, ResetGroup, BlockGroup, UnblockGroup, Query}
use Rattle.rows.specs.Rows.{local, idled, cleared, with_maintenance, without_maintenance, with_hardware, without_hardware, blocked_row, unblocked_row, changed_row, local_row}
use Rattle.rows.specs.Rules.{Released, Cleared, LocallyBlocked, BlockedForMaintenance, UnblockedForMaintenance, BlockedForHardware, UnblockedForHardware, Becomes}

-- ---- what the changes of a row come to, in the paper's words
module _ (row : ℕ) where
  pub released : Released row (changed_row Release 0 row)
  unfolding changed_row
  released = (omega arith, omega arith, omega arith, omega arith)

  -- what stands above the low two bits does not depend on them
  high : (low : ℕ) → low < 4 → (row / 4 * 4 + low) / 8 ≡ row / 8
  high low h =
      let e : (row / 4 * 4 + low) / 4 ≡ row / 4 = omega arith in
      sym (div-div-eq-div-mul (row / 4 * 4 + low) 4 2) ∙ ap (λ (n : ℕ). n / 2) e ∙ div-div-eq-div-mul row 4 2

  pub blocked-maintenance : BlockedForMaintenance row (blocked_row 0 row)
  unfolding blocked_row
  blocked-maintenance = (omega arith, omega arith, omega arith, ap (λ (n : ℕ). n / 8 % 2) (add_assoc (row / 4 * 4) 2 (row % 2)) ∙ ap (λ (n : ℕ). n % 2) (high (2 + row % 2) (omega arith)))

  pub unblocked-maintenance : UnblockedForMaintenance row (unblocked_row 0 row)
  unfolding unblocked_row
  unblocked-maintenance = (omega arith, omega arith, omega arith, ap (λ (n : ℕ). n % 2) (high (row % 2) (omega arith)))

  pub blocked-hardware : BlockedForHardware row (blocked_row 1 row)
  unfolding blocked_row
  blocked-hardware = (omega arith, omega arith, omega arith, omega arith)

  pub unblocked-hardware : UnblockedForHardware row (unblocked_row 1 row)
  unfolding unblocked_row
  unblocked-hardware = (omega arith, omega arith, omega arith, omega arith)

  pub was-cleared : Cleared row (cleared row)
  was-cleared = (omega arith, omega arith, omega arith, omega arith, omega arith)

-- the desk makes of a row what its rule says
pub local-becomes : (set : Bool) (row : ℕ) → LocallyBlocked set row (local_row set row)
unfolding local_row
local-becomes true row = (omega arith, omega arith, omega arith, omega arith)
local-becomes false row = (omega arith, omega arith, omega arith, omega arith)

-- no act changes the 8: IAM is for a row that is 0
pub local-stays : (act : Act) (block row : ℕ) → (act ≡ Seize → row ≡ 0) → local (changed_row act block row) ≡ local row
unfolding changed_row blocked_row unblocked_row
local-stays Seize block row h = sym (ap local (h refl))
local-stays Release block row h = (released row).3
local-stays Reset block row h = (was-cleared row).3
local-stays Block block row h = (blocked-maintenance row).3
local-stays Unblock block row h = (unblocked-maintenance row).3
local-stays ResetGroup block row h = (was-cleared row).3
local-stays BlockGroup block row h = kept (eqb block 0)
  where
    kept : (b : Bool) → local (when b then with_maintenance row else idled (with_hardware row)) ≡ local row
    kept true = (blocked-maintenance row).3
    kept false = (blocked-hardware row).3
local-stays UnblockGroup block row h = kept (eqb block 0)
  where
    kept : (b : Bool) → local (when b then without_maintenance row else without_hardware row) ≡ local row
    kept true = (unblocked-maintenance row).3
    kept false = (unblocked-hardware row).3
local-stays Query block row h = refl

-- each act makes of a row what the rules say
pub changed-becomes : (act : Act) (block row : ℕ) → Becomes act block row (changed_row act block row)
unfolding changed_row
changed-becomes Seize block row = λ e. (e, refl)
changed-becomes Release block row = released row
changed-becomes Reset block row = was-cleared row
changed-becomes Block block row = blocked-maintenance row
changed-becomes Unblock block row = unblocked-maintenance row
changed-becomes ResetGroup block row = was-cleared row
changed-becomes BlockGroup block row = (
  λ e. subst (λ (b : ℕ). BlockedForMaintenance row (blocked_row b row)) (sym e) (blocked-maintenance row),
  λ e. subst (λ (b : ℕ). BlockedForHardware row (blocked_row b row)) (sym e) (blocked-hardware row),
)
changed-becomes UnblockGroup block row = (
  λ e. subst (λ (b : ℕ). UnblockedForMaintenance row (unblocked_row b row)) (sym e) (unblocked-maintenance row),
  λ e. subst (λ (b : ℕ). UnblockedForHardware row (unblocked_row b row)) (sym e) (unblocked-hardware row),
)
changed-becomes Query block row = refl
