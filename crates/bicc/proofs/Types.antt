-- The 20 types, and no other octet: our 24 without the four that are ISUP's
-- alone, each with ISUP's row.
use Prim.Native.Nat.{ℕ, ◌≤◌, ◌<◌}
use mathlib.Core.Path.{◌≡◌, refl, sym}
use mathlib.Core.Bool.{Bool, true, false}
use mathlib.Core.List.{List, [], ◌∷◌}
use mathlib.Core.Logic.{◌⊎◌, inl, inr, ⊎_elim, ◌↔◌}
use native.Mathlib.Omega.{arith}
use native.Mathlib.Nat.{eq-or-lt_of_le}
use lib.ListN.{length}
use Rattle.std.specs.Prelude.{Some, None}
use Rattle.octets.specs.Choice.{when◌then◌else◌}
use Rattle.octets.specs.Among.{among, OneOf}
use Rattle.octets.proofs.Among.{among_one, one-among}
use Rattle.octets.proofs.Choice.{chosen, decided, true-false}
use Rattle.layout.specs.declared.Shape.{Shape}
use Rattle.family.proofs.Table.{no_two, all_low}
use Rattle.isup.specs.Table.{shape_of as isup_shape_of}
use Rattle.isup.proofs.Table.{type_octets, types-exactly, table-two}
use Rattle.bicc.specs.Table.{isup_only, call_shape_of}

-- IAM SAM REL COT ACM CON ANM RLC SUS RES CPG RSC GRS GRA CQM CGB CGU CGBA CGUA CQR
abbrev pub bicc_octets : List ℕ
bicc_octets =
    0x01 ∷ 0x02 ∷ 0x0C ∷ 0x05 ∷ 0x06 ∷ 0x07 ∷ 0x09 ∷ 0x10 ∷ 0x0D ∷ 0x0E ∷ 0x2C
    ∷ 0x12 ∷ 0x17 ∷ 0x29 ∷ 0x2A ∷ 0x18 ∷ 0x19 ∷ 0x1A ∷ 0x1B ∷ 0x2B ∷ []

-- 20 of the 256 octets
pub twenty : (length bicc_octets ≡ 20) × (no_two bicc_octets ≡ true) × (all_low bicc_octets ≡ true)
twenty = (refl, refl, refl)

-- a list without some numbers
abbrev without : List ℕ → List ℕ → List ℕ
without ts [] = []
without ts (x ∷ xs) = when among x ts then without ts xs else x ∷ without ts xs

one-without : (t : ℕ) (ts xs : List ℕ) → OneOf t (without ts xs) → OneOf t xs × (among t ts ≡ false)
one-without t ts [] o = absurd o
one-without t ts (x ∷ xs) o = go (among x ts) refl (one-without t ts xs) o
  where
    go : (b : Bool) → among x ts ≡ b → (OneOf t (without ts xs) → OneOf t xs × (among t ts ≡ false)) → OneOf t (when b then without ts xs else x ∷ without ts xs) → OneOf t (x ∷ xs) × (among t ts ≡ false)
    go true e ih o = let r = ih o in (inr r.0, r.1)
    go false e ih o = ⊎_elim (λ (q : t ≡ x). (inl q, rw q e)) (λ q. let r = ih q in (inr r.0, r.1)) o

without-one : (t : ℕ) (ts xs : List ℕ) → OneOf t xs → among t ts ≡ false → OneOf t (without ts xs)
without-one t ts [] o n = o
without-one t ts (x ∷ xs) o n = go (among x ts) refl (λ q. without-one t ts xs q n) o
  where
    go : (b : Bool) → among x ts ≡ b → (OneOf t xs → OneOf t (without ts xs)) → OneOf t (x ∷ xs) → OneOf t (when b then without ts xs else x ∷ without ts xs)
    go true e ih o = ⊎_elim (λ (q : t ≡ x). absurd (true-false {t = among x ts} e (rw (← q) n))) ih o
    go false e ih o = ⊎_elim (λ q. inl q) (λ q. inr (ih q)) o

-- a type has ISUP's row, or is one of the four and has none
pub row-of-isup : (t : ℕ) (s : Shape) → call_shape_of t ≡ Some s ↔ ((among t isup_only ≡ false) × (isup_shape_of t ≡ Some s))
unfolding call_shape_of
row-of-isup t s = (
  λ e. ⊎_elim (λ x. absurd (let f = x.1 in let z : ◌≡◌ {A = ℕ} 0 1 = cc in omega arith)) (λ x. x) (chosen (among t isup_only) e),
  λ x. rw x.0 x.1,
)

-- the table has a row for these, and for no other number
pub bicc-types : (t : ℕ) → ((s : Shape) × (call_shape_of t ≡ Some s)) ↔ OneOf t bicc_octets
bicc-types t = (
  λ x. let r = (row-of-isup t x.0).0 x.1 in without-one t isup_only type_octets ((types-exactly t).0 (x.0, r.1)) r.0,
  λ o. let r = one-without t isup_only type_octets o in let y = (types-exactly t).1 r.0 in (y.0, (row-of-isup t y.0).1 (r.1, y.1)),
)

-- the four are refused
pub four-refused : (t : ℕ) → OneOf t isup_only → call_shape_of t ≡ None
unfolding call_shape_of
four-refused t o = rw (one-among t isup_only o) refl

-- and no other: any other number has ISUP's answer
pub others-shared : (t : ℕ) → (OneOf t isup_only → ⊥) → call_shape_of t ≡ isup_shape_of t
unfolding call_shape_of
others-shared t n = ⊎_elim (λ e. absurd (n (among_one t isup_only e))) (λ e. rw e refl) (decided (among t isup_only))

-- the four stand together
pub together : (t : ℕ) → 0x13 ≤ t → t ≤ 0x16 → OneOf t isup_only
together t l h =
    ⊎_elim (λ e. inl (sym e))
    (λ a. ⊎_elim (λ e. inr (inl (sym e)))
    (λ b. ⊎_elim (λ e. inr (inr (inl (sym e)))) (λ c. inr (inr (inr (inl (omega arith))))) (eq-or-lt_of_le b)) (eq-or-lt_of_le a)) (eq-or-lt_of_le l)

pub apart : (t : ℕ) → (t < 0x13) ⊎ (0x16 < t) → OneOf t isup_only → ⊥
apart t h = ⊎_elim (λ e. beside 0x13 e (omega arith) (omega arith)) (⊎_elim (λ e. beside 0x14 e (omega arith) (omega arith)) (⊎_elim (λ e. beside 0x15 e (omega arith) (omega arith)) (⊎_elim (λ e. beside 0x16 e (omega arith) (omega arith)) (λ e. e))))
  where
    beside : (k : ℕ) → t ≡ k → 0x13 ≤ k → k ≤ 0x16 → ⊥
    beside k e l u = ⊎_elim (λ x. omega (arith, e)) (λ x. omega (arith, e)) h

-- a row has at most two variable parts
pub two : (t : ℕ) (s : Shape) → call_shape_of t ≡ Some s → s.vars ≤ 2
two t s e = table-two t s ((row-of-isup t s).0 e).1
