-- What legal means, and that a legal row stays legal whatever is done to it.
use Prim.Native.Nat.{ℕ, ◌+◌, ◌%◌, ◌<◌}
use mathlib.Core.Path.{◌≡◌, refl}
use mathlib.Core.Bool.{Bool, true, false}
use mathlib.Core.List.{List, [], ◌∷◌}
use mathlib.Core.Logic.{⊎_elim, ◌↔◌}
use native.Mathlib.Omega.{arith}
use lib.Dec.{eqb, ltb}
use borrow.Author.Tests.{eqb-true, eqb-false, ltb-true}
use Rattle.octets.specs.Choice.{when◌then◌else◌}
use Rattle.octets.specs.Among.{among, OneOf}
use Rattle.octets.proofs.Among.{among_one, one-among}
use Rattle.octets.proofs.Choice.{true-false}
use Rattle.rows.specs.declared.Act.{Act}
use Rattle.rows.specs.declared.Act.TheVariants.{Seize, Release, Reset, Block, Unblock, ResetGroup, BlockGroup, UnblockGroup, Query}
use Rattle.rows.specs.Rows.{legal_rows, is_legal, Legal, blocked_row, unblocked_row, changed_row, row_of, local_row}

pub legal-is : (row : ℕ) → is_legal row ≡ true → Legal row
unfolding is_legal
legal-is row e = among_one row legal_rows e

pub is-legal : (row : ℕ) → Legal row → is_legal row ≡ true
unfolding is_legal
is-legal row h = one-among row legal_rows h

-- whether a test holds of each of a list
abbrev pub each : (ℕ → Bool) → List ℕ → Bool
each t [] = true
each t (x ∷ xs) = when t x then each t xs else false

first_holds : (a b : Bool) → (when a then b else false) ≡ true → (a ≡ true) × (b ≡ true)
first_holds true b e = (refl, e)
first_holds false b e = absurd (true-false {t = false} e refl)

each_holds : (t : ℕ → Bool) (l : List ℕ) → each t l ≡ true → (x : ℕ) → OneOf x l → t x ≡ true
each_holds t [] e x o = absurd o
each_holds t (y ∷ ys) e x o =
    let w = first_holds (t y) (each t ys) e in
    ⊎_elim (λ q. rw q w.0) (λ q. each_holds t ys w.1 x q) o

-- a test that holds of the twelve holds of each legal row
pub by-legal : (t : ℕ → Bool) → each t legal_rows ≡ true → (row : ℕ) → Legal row → t row ≡ true
by-legal t e row h = each_holds t legal_rows e row h

-- either way
choice-legal : (t : Bool) (x y : ℕ) → is_legal x ≡ true → is_legal y ≡ true → is_legal (when t then x else y) ≡ true
choice-legal true x y p q = p
choice-legal false x y p q = q

-- whatever the kind of block
blocked-legal : (block row : ℕ) → Legal row → is_legal (blocked_row block row) ≡ true
unfolding is_legal blocked_row
blocked-legal block row h =
    choice-legal (eqb block 0) _ _
    (by-legal (λ r. is_legal (blocked_row 0 r)) refl row h)
    (by-legal (λ r. is_legal (blocked_row 1 r)) refl row h)

unblocked-legal : (block row : ℕ) → Legal row → is_legal (unblocked_row block row) ≡ true
unfolding is_legal unblocked_row
unblocked-legal block row h =
    choice-legal (eqb block 0) _ _
    (by-legal (λ r. is_legal (unblocked_row 0 r)) refl row h)
    (by-legal (λ r. is_legal (unblocked_row 1 r)) refl row h)

-- whatever the act
changed-legal : (act : Act) (block row : ℕ) → Legal row → is_legal (changed_row act block row) ≡ true
unfolding changed_row is_legal
changed-legal Seize block row h = refl
changed-legal Release block row h = by-legal (λ r. is_legal (changed_row Release 0 r)) refl row h
changed-legal Reset block row h = by-legal (λ r. is_legal (changed_row Reset 0 r)) refl row h
changed-legal Block block row h = blocked-legal 0 row h
changed-legal Unblock block row h = unblocked-legal 0 row h
changed-legal ResetGroup block row h = by-legal (λ r. is_legal (changed_row ResetGroup 0 r)) refl row h
changed-legal BlockGroup block row h = blocked-legal block row h
changed-legal UnblockGroup block row h = unblocked-legal block row h
changed-legal Query block row h = is-legal row h

-- marked or not, a legal row stays legal
pub row-legal : (act : Act) (block : ℕ) (marked : Bool) (row : ℕ) → Legal row → Legal (row_of act block marked row)
row-legal act block marked row h = legal-is _ (choice-legal marked _ _ (changed-legal act block row h) (is-legal row h))

-- and it stays legal where the desk sets the 8, or clears it
pub local-legal : (set : Bool) (row : ℕ) → Legal row → Legal (local_row set row)
unfolding local_row is_legal
local-legal true row h = legal-is _ (by-legal (λ r. is_legal (local_row true r)) refl row h)
local-legal false row h = legal-is _ (by-legal (λ r. is_legal (local_row false r)) refl row h)

-- the low three bits are told, and one bit is left
eight-or : (row k : ℕ) → is_legal k ≡ true → is_legal (8 + k) ≡ true → row < 16 → row % 8 ≡ k → is_legal row ≡ true
eight-or row k p q h e = split (eqb row k) refl
  where
    split : (b : Bool) → eqb row k ≡ b → is_legal row ≡ true
    split true t = rw (eqb-true row k t) p
    split false t = let d : row ≡ 8 + k = omega (arith, e, h, eqb-false row k t) in rw d q

-- legal: one of document 01's six states, or one of them with 8 added
pub legal-local : (row : ℕ) → Legal row ↔ ((row < 16) × OneOf (row % 8) (0 ∷ 1 ∷ 2 ∷ 3 ∷ 4 ∷ 6 ∷ []))
unfolding is_legal
legal-local row = (
  λ h. (
    ltb-true row 16 (by-legal (λ r. ltb r 16) refl row h),
    among_one (row % 8) (0 ∷ 1 ∷ 2 ∷ 3 ∷ 4 ∷ 6 ∷ []) (by-legal (λ r. among (r % 8) (0 ∷ 1 ∷ 2 ∷ 3 ∷ 4 ∷ 6 ∷ [])) refl row h),
  ),
  λ w.
      legal-is row
      (⊎_elim (eight-or row 0 refl refl w.0)
      (⊎_elim (eight-or row 1 refl refl w.0)
      (⊎_elim (eight-or row 2 refl refl w.0)
      (⊎_elim (eight-or row 3 refl refl w.0)
      (⊎_elim (eight-or row 4 refl refl w.0)
      (⊎_elim (eight-or row 6 refl refl w.0) (λ n. absurd n))))))
      w.1),
)
