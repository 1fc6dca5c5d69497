-- Laws of a table of types.
use Prim.Native.Nat.{ℕ, ◌≤◌}
use mathlib.Core.Path.{◌≡◌, refl}
use mathlib.Core.Bool.{Bool, true, false}
use mathlib.Core.List.{List, [], ◌∷◌, ◌++◌}
use mathlib.Core.Logic.{◌⊎◌, inl, inr, ⊎_elim}
use native.Mathlib.Omega.{arith}
use lib.Dec.{ltb}
use Rattle.std.specs.Prelude.{Some}
use Rattle.octets.specs.Choice.{when◌then◌else◌}
use Rattle.octets.specs.Among.{among, OneOf}
use Rattle.octets.proofs.Among.{among_one, one-among}
use Rattle.octets.proofs.Choice.{chosen}
use Rattle.layout.specs.declared.Shape.{Shape}
use Rattle.family.specs.Table.{look, AtMost}

-- whether no number stands in the list twice
abbrev pub no_two : List ℕ → Bool
no_two [] = true
no_two (x ∷ xs) = when among x xs then false else no_two xs

-- whether each is an octet
abbrev pub all_low : List ℕ → Bool
all_low [] = true
all_low (x ∷ xs) = when ltb x 256 then all_low xs else false

-- all types of some lines
abbrev pub types_of : List (List ℕ × Shape) → List ℕ
types_of [] = []
types_of (l ∷ ls) = l.0 ++ types_of ls

one_left : (t : ℕ) (a b : List ℕ) → OneOf t a → OneOf t (a ++ b)
one_left t [] b o = absurd o
one_left t (x ∷ a) b o = ⊎_elim (λ e. inl e) (λ r. inr (one_left t a b r)) o

one_right : (t : ℕ) (a b : List ℕ) → OneOf t b → OneOf t (a ++ b)
one_right t [] b o = o
one_right t (x ∷ a) b o = inr (one_right t a b o)

one_split : (t : ℕ) (a b : List ℕ) → OneOf t (a ++ b) → OneOf t a ⊎ OneOf t b
one_split t [] b o = inr o
one_split t (x ∷ a) b o = ⊎_elim (λ e. inl (inl e)) (λ r. ⊎_elim (λ y. inl (inr y)) (λ y. inr y) (one_split t a b r)) o

-- what the table has a row for stands in one of its lines
pub look-listed : (t : ℕ) (ls : List (List ℕ × Shape)) (s : Shape) → look t ls ≡ Some s → OneOf t (types_of ls)
look-listed t [] s e = absurd (let z : ◌≡◌ {A = ℕ} 0 1 = cc in omega arith)
look-listed t (l ∷ ls) s e =
    ⊎_elim (λ x. one_left t l.0 (types_of ls) (among_one t l.0 x.0)) (λ x. one_right t l.0 (types_of ls) (look-listed t ls s x.1)) (chosen (among t l.0) e)

-- and it has a row for each of those
pub listed-look : (t : ℕ) (ls : List (List ℕ × Shape)) → OneOf t (types_of ls) → (s : Shape) × (look t ls ≡ Some s)
listed-look t [] o = absurd o
listed-look t (l ∷ ls) o = go (among t l.0) refl (one_split t l.0 (types_of ls) o) (listed-look t ls)
  where
    go : (b : Bool) → among t l.0 ≡ b → OneOf t l.0 ⊎ OneOf t (types_of ls) → (OneOf t (types_of ls) → (s : Shape) × (look t ls ≡ Some s)) → (s : Shape) × ((when b then Some l.1 else look t ls) ≡ Some s)
    go true e o ih = (l.1, refl)
    go false e o ih = ⊎_elim (λ x. absurd (let y = one-among t l.0 x in let z : ◌≡◌ {A = ℕ} 0 1 = cc in omega arith)) ih o

-- a row has no more variable parts than its line
pub look-at-most : (k t : ℕ) (ls : List (List ℕ × Shape)) (s : Shape) → AtMost k ls → look t ls ≡ Some s → s.vars ≤ k
look-at-most k t [] s f e = absurd (let z : ◌≡◌ {A = ℕ} 0 1 = cc in omega arith)
look-at-most k t (l ∷ ls) s f e = ⊎_elim (λ x. let g = x.1 in let q : l.1 ≡ s = cc in rw (← q) f.0) (λ x. look-at-most k t ls s f.1 x.1) (chosen (among t l.0) e)
