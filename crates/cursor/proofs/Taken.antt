-- The refusal beside the start has number 0, and there is none, exactly where the reader takes the
-- message: every number of a refusal is 1 at the least.
use Prim.Native.Nat.{ℕ, ◌≤◌}
use mathlib.Core.Path.{◌≡◌, refl, ap}
use mathlib.Core.List.{List}
use mathlib.Core.Logic.{◌↔◌}
use native.Mathlib.Omega.{arith}
use Rattle.std.specs.Prelude.{Option, Some, None}
use Rattle.octets.specs.Octet.{octet}
use Rattle.octets.specs.Answer.{Answer, accepted, refused}
use Rattle.octets.proofs.Answer.{refused-accepted}
use Rattle.octets.proofs.Places.{Each, refusal-so}
use Rattle.parts.specs.declared.Parts.{Parts}
use Rattle.layout.specs.Faults.{row_faults}
use Rattle.layout.specs.declared.Shape.{Shape}
use Rattle.family.specs.Family.{Family, read_in}
use Rattle.family.specs.Faults.{family_faults}
use Rattle.family.proofs.Judged.{read-judges}
use Rattle.cursor.specs.Start.{refusal_by, start_number}

-- a number from 1 on
abbrev FromOne : ℕ → ℕ → Type 0
FromOne n at = 1 ≤ n

row-from-one : (m : List ℕ) (w : ℕ) (r : Option Shape) → Each FromOne (row_faults m w r)
row-from-one m w None = tt
row-from-one m w (Some s) =
    (λ _ _. omega arith, (λ _ _. omega arith, (λ _ _. omega arith, (λ _ _. omega arith, (λ _ _. omega arith, (λ _ _. omega arith, (λ _ _. omega arith, (λ _ _. omega arith, (λ _ _. omega arith, (λ _ _. omega arith, (λ _ _. omega arith, (λ _ _. omega arith, (λ _ _. omega arith, (λ _ _. omega arith, (λ _ _. omega arith, tt)))))))))))))))

module _ (F : Family) (m : List ℕ) where
  faults-from-one : Each FromOne (family_faults F m)
  faults-from-one = (λ _ _. omega arith, (λ _ _. omega arith, (λ _ _. omega arith, row-from-one m F.width (F.row (octet m F.width)))))

  -- a refusal of the reader
  pub refused-from-one : (n at : ℕ) → read_in F m ≡ refused n at → 1 ≤ n
  refused-from-one n at e = refusal-so FromOne (read_in F m) (family_faults F m) (read-judges F m) faults-from-one n at e

  -- its number is 0 exactly where the message is taken
  pub refusal-none : (start_number (refusal_by (read_in F m)) ≡ 0) ↔ ((p : Parts) × (read_in F m ≡ accepted p))
  refusal-none = (go (read_in F m) refl, λ t. ap (λ (x : Answer Parts). start_number (refusal_by x)) t.1)
    where
      go : (x : Answer Parts) → read_in F m ≡ x → start_number (refusal_by x) ≡ 0 → (p : Parts) × (x ≡ accepted p)
      go (accepted p) e z = (p, refl)
      go (refused n at) e z = absurd (omega (arith, refused-from-one n at e, z))

  -- none exactly where the message is taken
  pub refusal-taken : (refusal_by (read_in F m) ≡ accepted tt) ↔ ((p : Parts) × (read_in F m ≡ accepted p))
  refusal-taken = (go (read_in F m), λ t. ap refusal_by t.1)
    where
      go : (x : Answer Parts) → refusal_by x ≡ accepted tt → (p : Parts) × (x ≡ accepted p)
      go (accepted p) z = (p, refl)
      go (refused n at) z = absurd (refused-accepted z)
