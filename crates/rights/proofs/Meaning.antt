-- What the tests mean: the sender's, and the first circuit of a search.
use Prim.Native.Nat.{ℕ, zero, suc, ◌+◌, ◌≤◌, ◌<◌}
use mathlib.Core.Path.{◌≡◌, refl, ap, subst}
use mathlib.Core.Bool.{Bool, true, false}
use mathlib.Core.List.{List}
use mathlib.Core.Logic.{◌⊎◌, inl, inr, ⊎_elim, ◌↔◌}
use native.Mathlib.Omega.{arith}
use native.Mathlib.Nat.{eq-or-lt_of_le}
use borrow.Author.Tests.{eqb-true, eqb-false, ltb-true, ltb-false}
use lib.Dec.{eqb, ltb}
use Rattle.std.specs.Prelude.{is_some, Option, Some, None}
use Rattle.octets.specs.Octet.{octet}
use Rattle.octets.specs.Choice.{when◌then◌else◌}
use Rattle.octets.proofs.Choice.{decided, true-false}
use Rattle.rights.specs.Rights.{is_mine, has_right, first_not, first_foreign_lem, IsFirst}
use Rattle.rights.specs.Tables.{Tables}
use Rattle.rights.specs.Names.{Mine, HasRight}

-- ---- the sender's
pub mine-is : (owners : List ℕ) (sender circuit : ℕ) → is_mine owners sender circuit ≡ true → Mine owners sender circuit
mine-is owners sender circuit e = go (eqb sender 0) refl e
  where
    go : (b : Bool) → eqb sender 0 ≡ b → (when b then false else eqb (octet owners circuit) sender) ≡ true → Mine owners sender circuit
    go true p h = absurd (true-false {t = false} h refl)
    go false p h = (eqb-true _ _ h, eqb-false sender 0 p)

pub not-mine : (owners : List ℕ) (sender circuit : ℕ) → is_mine owners sender circuit ≡ false → (octet owners circuit ≡ sender → ⊥) ⊎ (sender ≡ 0)
not-mine owners sender circuit e = go (eqb sender 0) refl e
  where
    go : (b : Bool) → eqb sender 0 ≡ b → (when b then false else eqb (octet owners circuit) sender) ≡ false → (octet owners circuit ≡ sender → ⊥) ⊎ (sender ≡ 0)
    go true p h = inr (eqb-true sender 0 p)
    go false p h = inl (eqb-false _ _ h)

-- the sender has a right exactly where it owns the circuit or helps it
pub right_is : (T : Tables) (sender circuit : ℕ) → has_right T.owners T.helpers sender circuit ≡ true → HasRight T sender circuit
right_is T sender circuit e = go (is_mine T.owners sender circuit) refl e
  where
    go : (b : Bool) → is_mine T.owners sender circuit ≡ b → (when b then true else is_mine T.helpers sender circuit) ≡ true → HasRight T sender circuit
    go true p h = inl (mine-is T.owners sender circuit p)
    go false p h = inr (mine-is T.helpers sender circuit h)

pub not_right : (T : Tables) (sender circuit : ℕ) → has_right T.owners T.helpers sender circuit ≡ false → ((octet T.owners circuit ≡ sender → ⊥) × (octet T.helpers circuit ≡ sender → ⊥)) ⊎ (sender ≡ 0)
not_right T sender circuit e = go (is_mine T.owners sender circuit) refl e
  where
    go : (b : Bool) → is_mine T.owners sender circuit ≡ b → (when b then true else is_mine T.helpers sender circuit) ≡ false → ((octet T.owners circuit ≡ sender → ⊥) × (octet T.helpers circuit ≡ sender → ⊥)) ⊎ (sender ≡ 0)
    go true p h = absurd (true-false {t = true} refl h)
    go false p h = ⊎_elim (λ o. ⊎_elim (λ k. inl (o, k)) (λ z. inr z) (not-mine T.helpers sender circuit h)) (λ z. inr z) (not-mine T.owners sender circuit p)

-- ---- a search
module _ (good : ℕ → Bool) where
  -- what each answer of a search says
  abbrev Means : ℕ → ℕ → Option ℕ → Type 0
  Means circuit n (Some c) = IsFirst good circuit n c
  Means circuit n None = (j : ℕ) → circuit ≤ j → j < circuit + n → good j ≡ true

  -- one circuit more in front
  front : (circuit k : ℕ) → good circuit ≡ true → ((j : ℕ) → suc circuit ≤ j → j < k → good j ≡ true) → (j : ℕ) → circuit ≤ j → j < k → good j ≡ true
  front circuit k e m j h l = ⊎_elim (λ q. rw (← q) e) (λ q. m j q l) (eq-or-lt_of_le h)

  in-front : (circuit n : ℕ) → good circuit ≡ true → (f : Option ℕ) → Means (suc circuit) n f → Means circuit (suc n) f
  in-front circuit n e (Some k) m = record {
    from = omega arith;
    within = omega arith;
    bad = m.bad;
    before = front circuit k e m.before;
  }
  in-front circuit n e None m = λ j h l. front circuit (suc circuit + n) e m j h (omega arith)

  step : (circuit n : ℕ) (b : Bool) → good circuit ≡ b → Means (suc circuit) n (first_not good (suc circuit) n) → Means circuit (suc n) (when b then first_not good (suc circuit) n else Some circuit)
  step circuit n true e m = in-front circuit n e (first_not good (suc circuit) n) m
  step circuit n false e m = record {
    from = omega arith;
    within = omega arith;
    bad = e;
    before = λ j h l. absurd (omega arith);
  }

  means : (circuit n : ℕ) → Means circuit n (first_not good circuit n)
  unfolding first_not
  means circuit zero = λ j h l. absurd (omega arith)
  means circuit (suc n) = step circuit n (good circuit) refl (means (suc circuit) n)

  -- two that are the first are one
  first_one : (circuit n c d : ℕ) → IsFirst good circuit n c → IsFirst good circuit n d → c ≤ d
  first_one circuit n c d f g =
      ⊎_elim
      (λ h. absurd (true-false (f.before d g.from (ltb-true d c h)) g.bad))
      (λ h. ltb-false d c h)
      (decided (ltb d c))

  module _ (circuit n : ℕ) where
    -- the search ends at the first that is not as it should be, and nowhere else
    pub search-exactly : (c : ℕ) → (first_not good circuit n ≡ Some c) ↔ IsFirst good circuit n c
    search-exactly c = (
      λ e. subst (λ (f : Option ℕ). Means circuit n f) e (means circuit n),
      λ f. back (first_not good circuit n) (means circuit n) f,
    )
      where
        back : (r : Option ℕ) → Means circuit n r → IsFirst good circuit n c → r ≡ Some c
        back (Some d) m f = ap Some (omega (arith, first_one circuit n d c m f, first_one circuit n c d f m))
        back None m f = absurd (true-false (m c f.from f.within) f.bad)

    -- and comes upon none where all are
    pub search-nowhere : (first_not good circuit n ≡ None) ↔ ((j : ℕ) → circuit ≤ j → j < circuit + n → good j ≡ true)
    search-nowhere = (
      λ e. subst (λ (f : Option ℕ). Means circuit n f) e (means circuit n),
      λ all. back (first_not good circuit n) (means circuit n) all,
    )
      where
        back : (r : Option ℕ) → Means circuit n r → ((j : ℕ) → circuit ≤ j → j < circuit + n → good j ≡ true) → r ≡ None
        back (Some d) m all = absurd (true-false (all d m.from m.within) m.bad)
        back None m all = refl

    pub found_some : is_some (first_not good circuit n) ≡ true → (c : ℕ) × IsFirst good circuit n c
    found_some e = go (first_not good circuit n) (means circuit n) e
      where
        go : (r : Option ℕ) → Means circuit n r → is_some r ≡ true → (c : ℕ) × IsFirst good circuit n c
        go (Some c) m h = (c, m)
        go None m h = absurd (true-false {t = false} h refl)

    pub none_found : ((j : ℕ) → circuit ≤ j → j < circuit + n → good j ≡ true) → is_some (first_not good circuit n) ≡ false
    none_found all = ap is_some (search-nowhere.1 all)

    pub found_none : is_some (first_not good circuit n) ≡ false → (j : ℕ) → circuit ≤ j → j < circuit + n → good j ≡ true
    found_none e = go (first_not good circuit n) (means circuit n) e
      where
        go : (r : Option ℕ) → Means circuit n r → is_some r ≡ false → (j : ℕ) → circuit ≤ j → j < circuit + n → good j ≡ true
        go (Some c) m h = absurd (true-false {t = true} refl h)
        go None m h = m

-- the search for a foreign circuit ends at the first on which the sender has no right: it has none
-- there, and has one on all before it
pub first-foreign-exactly : (owners helpers : List ℕ) (sender circuit n c : ℕ) → (first_foreign_lem owners helpers sender circuit n ≡ Some c) ↔ IsFirst (has_right owners helpers sender) circuit n c
first-foreign-exactly owners helpers sender circuit n c = search-exactly (has_right owners helpers sender) circuit n c

-- the same tests on the span, the same answer
pub search-same : (good other : ℕ → Bool) (circuit n : ℕ) → ((j : ℕ) → circuit ≤ j → j < circuit + n → good j ≡ other j) → first_not good circuit n ≡ first_not other circuit n
unfolding first_not
search-same good other circuit zero h = refl
search-same good other circuit (suc n) h =
    let e = h circuit (omega arith) (omega arith) in
    let r = search-same good other (suc circuit) n (λ j a b. h j (omega arith) (omega arith)) in
    rw (e, r)
