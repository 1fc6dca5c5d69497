-- What is seen after a message: what was seen before, and the circuits that it marks.
use Prim.Native.Nat.{ℕ, zero, suc, ◌+◌, ◌-◌, ◌≤◌, ◌<◌}
use mathlib.Core.Path.{◌≡◌, refl, sym, ◌∙◌, ap, subst}
use mathlib.Core.Bool.{Bool, true, false}
use mathlib.Core.List.{List}
use mathlib.Core.Logic.{◌⊎◌, inl, inr, ⊎_elim}
use native.Mathlib.Omega.{arith}
use native.Mathlib.Nat.{eq-or-lt_of_le}
use borrow.Author.Tests.{eqb-true, eq-eqb, lt-leb, le-leb}
use lib.Dec.{eqb}
use lib.ListN.{length, set, length-set}
use lib.Seq.{get_or-set_same, get_or-set_other}
use Rattle.octets.specs.Octet.{octet}
use Rattle.octets.specs.Choice.{when◌then◌else◌}
use Rattle.octets.specs.Answer.{accepted, refused}
use Rattle.octets.proofs.Answer.{refused-accepted, accepted-same}
use Rattle.octets.proofs.Choice.{chosen}
use Rattle.layout.specs.Container.{bit}
use Rattle.asks.specs.declared.Ask.{Ask}
use Rattle.asks.specs.Asks.{mark_of}
use Rattle.rights.specs.Names.{Named}
use Rattle.hub.proofs.Called.{named-or}
use Rattle.plans.specs.Plans.{fits_kind, marks_of}
use Rattle.plans.specs.Check.{seeing, taking}

-- ---- a span of circuits
pub record Saw (marks : ℕ → Bool) (c n : ℕ) (seen left : List ℕ) : Type 0 where
  pub size : length left ≡ length seen
  pub outside : (j : ℕ) → (j < c) ⊎ (c + n ≤ j) → octet left j ≡ octet seen j
  pub inside : (j : ℕ) → c ≤ j → j < c + n → octet left j ≡ octet seen j + bit (marks j)

module _ (marks : ℕ → Bool) where
  saw-marked : (c n : ℕ) (seen left : List ℕ) → c < length seen → marks c ≡ true → octet seen c ≡ 0 → Saw marks (suc c) n (set seen c 1) left → Saw marks c (suc n) seen left
  saw-marked c n seen left h t z s =
      record {
        size = s.size ∙ length-set seen c 1;
        outside = λ j o. s.outside j (⊎_elim (λ l. inl (omega arith)) (λ l. inr (omega arith)) o) ∙ get_or-set_other seen c j 1 0 (⊎_elim (λ l. omega arith) (λ l. omega arith) o);
        inside = λ j a b.
            ⊎_elim
            (λ e. subst (λ (i : ℕ). octet left i ≡ octet seen i + bit (marks i)) e (rw t (s.outside c (inl (omega arith)) ∙ get_or-set_same seen c 1 0 h ∙ omega arith)))
            (λ l. s.inside j l (omega arith) ∙ ap (λ (x : ℕ). x + bit (marks j)) (get_or-set_other seen c j 1 0 (omega arith)))
            (eq-or-lt_of_le a);
      }

  saw-unmarked : (c n : ℕ) (seen left : List ℕ) → marks c ≡ false → Saw marks (suc c) n seen left → Saw marks c (suc n) seen left
  saw-unmarked c n seen left t s =
      record {
        size = s.size;
        outside = λ j o. s.outside j (⊎_elim (λ l. inl (omega arith)) (λ l. inr (omega arith)) o);
        inside = λ j a b.
            ⊎_elim
            (λ e. subst (λ (i : ℕ). octet left i ≡ octet seen i + bit (marks i)) e (rw t (s.outside c (inl (omega arith)) ∙ omega arith)))
            (λ l. s.inside j l (omega arith))
            (eq-or-lt_of_le a);
      }

  pub seeing-is : (c n : ℕ) (seen left : List ℕ) → c + n ≤ length seen → seeing marks c n seen ≡ accepted left → Saw marks c n seen left
  unfolding seeing
  seeing-is c zero seen left h e =
      let q = accepted-same e in
      record {
        size = ap length (sym q);
        outside = λ j o. ap (λ (l : List ℕ). octet l j) (sym q);
        inside = λ j a b. absurd (omega arith);
      }
  seeing-is c (suc n) seen left h e =
      ⊎_elim
      (λ t.
      ⊎_elim
      (λ z. saw-marked c n seen left (omega arith) t.0 (eqb-true _ _ z.0) (seeing-is (suc c) n (set seen c 1) left (omega (arith, length-set seen c 1)) z.1))
      (λ z. absurd (refused-accepted z.1))
      (chosen (eqb (octet seen c) 0) t.1))
      (λ t. saw-unmarked c n seen left t.0 (seeing-is (suc c) n seen left (omega arith) t.1))
      (chosen (marks c) e)

  -- where each marked circuit was not seen before, all is taken
  pub seeing-takes : (c n : ℕ) (seen : List ℕ) → ((j : ℕ) → c ≤ j → j < c + n → marks j ≡ true → octet seen j ≡ 0) → (left : List ℕ) × (seeing marks c n seen ≡ accepted left)
  unfolding seeing
  seeing-takes c zero seen fresh = (seen, refl)
  seeing-takes c (suc n) seen fresh =
      go (marks c) refl
      (seeing-takes (suc c) n (set seen c 1) (λ j a b t. get_or-set_other seen c j 1 0 (omega arith) ∙ fresh j (omega arith) (omega arith) t))
      (seeing-takes (suc c) n seen (λ j a b t. fresh j (omega arith) (omega arith) t))
    where
      go : (t : Bool) → marks c ≡ t → (left : List ℕ) × (seeing marks (suc c) n (set seen c 1) ≡ accepted left) → (left : List ℕ) × (seeing marks (suc c) n seen ≡ accepted left)
          → (left : List ℕ) × ((when t then (when eqb (octet seen c) 0 then seeing marks (suc c) n (set seen c 1) else refused 0 0) else seeing marks (suc c) n seen) ≡ accepted left)
      go true t x y = (x.0, rw (eq-eqb _ _ (fresh c (omega arith) (omega arith) t)) x.1)
      go false t x y = y

-- ---- a message
pub marks-in : (m : List ℕ) (a : Ask) (c : ℕ) → Named a c → marks_of m a c ≡ mark_of m a.status (c - a.circuit)
unfolding marks_of
marks-in m a c n = rw (le-leb _ _ n.0, le-leb _ _ n.1)

pub marks-out : (m : List ℕ) (a : Ask) (c : ℕ) → (c < a.circuit) ⊎ (a.circuit + a.range < c) → marks_of m a c ≡ false
unfolding marks_of
marks-out m a c o =
    ⊎_elim (λ l. rw (lt-leb _ _ l)) (λ l. rw (le-leb a.circuit c (omega arith), lt-leb _ _ l)) o

pub record Took (kind : ℕ) (seen m : List ℕ) (a : Ask) (left : List ℕ) : Type 0 where
  pub fit : fits_kind kind a ≡ true
  pub size : length left ≡ length seen
  pub marked : (c : ℕ) → octet left c ≡ octet seen c + bit (marks_of m a c)

pub taking-is : (kind : ℕ) (seen m : List ℕ) (a : Ask) (left : List ℕ) → a.circuit + a.range < length seen → taking kind seen m a ≡ accepted left → Took kind seen m a left
unfolding taking
taking-is kind seen m a left h e =
    ⊎_elim
    (λ t.
    let s = seeing-is (λ c. mark_of m a.status (c - a.circuit)) a.circuit (a.range + 1) seen left (omega arith) t.1 in
    record {
      fit = t.0;
      size = s.size;
      marked = λ c.
          ⊎_elim
          (λ n. s.inside c n.0 (omega (arith, n.1)) ∙ rw (marks-in m a c n))
          (λ o. s.outside c (⊎_elim inl (λ l. inr (omega arith)) o) ∙ rw (marks-out m a c o) (omega arith))
          (named-or a c);
    })
    (λ t. absurd (refused-accepted t.1))
    (chosen (fits_kind kind a) e)

pub taking-takes : (kind : ℕ) (seen m : List ℕ) (a : Ask) → fits_kind kind a ≡ true → ((c : ℕ) → Named a c → octet seen c + bit (marks_of m a c) ≤ 1) → (left : List ℕ) × (taking kind seen m a ≡ accepted left)
unfolding taking
taking-takes kind seen m a t h =
    rw t
    (seeing-takes (λ c. mark_of m a.status (c - a.circuit)) a.circuit (a.range + 1) seen
    (λ j x y e.
    let n : Named a j = (x, omega arith) in
    let q = h j n in
    let r : bit (marks_of m a j) ≡ 1 = ap bit (marks-in m a j n ∙ e) in
    omega arith))
