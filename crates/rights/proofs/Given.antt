-- What is permitted, test by test, over plain variables.
use Prim.Native.Nat.{ℕ, ◌+◌, ◌≤◌, ◌<◌}
use mathlib.Core.Path.{◌≡◌, refl, sym, ap, subst}
use mathlib.Core.Bool.{Bool, true, false}
use mathlib.Core.List.{List}
use borrow.Author.Tests.{eq-eqb, ne_eqb, lt-ltb, le-ltb}
use lib.ListN.{length}
use Rattle.std.specs.Prelude.{⊤, is_some}
use Rattle.octets.specs.Choice.{when◌then◌else◌}
use Rattle.octets.specs.Answer.{Answer, accepted, refused}
use Rattle.octets.proofs.Answer.{refused-accepted, accepted-same, refused_as, past-test}
use Rattle.asks.specs.declared.Ask.{Ask}
use Rattle.rights.specs.Tables.{Tables}
use Rattle.rights.specs.Rights.{is_mine, has_right, may_help, first_foreign_lem, first_unowned_lem, first_illegal_lem}
use Rattle.rights.specs.Inside.{against_of}
use Rattle.rights.specs.Permits.{is_taken, is_unhelpable, permitted_of, permitted_in}
use Rattle.rights.proofs.Meaning.{none_found, found_none}

-- ---- what is known of what is permitted
pub record Permitted (T : Tables) (sender : ℕ) (a : Ask) : Type 0 where
  pub right : is_some (first_foreign_lem T.owners T.helpers sender a.circuit (a.range + 1)) ≡ false
  pub helps : is_unhelpable T sender a ≡ false
  pub legal : is_some (first_illegal_lem T.states a.circuit (a.range + 1)) ≡ false
  pub free : is_taken T.states a.act a.circuit ≡ false

pub permitted : (T : Tables) (sender : ℕ) (b a : Ask) → permitted_of T sender b ≡ accepted a → (b ≡ a) × Permitted T sender a
unfolding permitted_of
permitted T sender b a e =
    let t1 = past-test 19 0 (is_some (first_foreign_lem T.owners T.helpers sender b.circuit (b.range + 1))) e in
    let t0 = past-test 22 0 (is_unhelpable T sender b) t1.1 in
    let t2 = past-test 20 0 (is_some (first_illegal_lem T.states b.circuit (b.range + 1))) t0.1 in
    let t3 = past-test 21 0 (is_taken T.states b.act b.circuit) t2.1 in
    let s : b ≡ a = accepted-same t3.1 in
    (s, subst (λ (y : Ask). Permitted T sender y) s (record { right = t1.0; helps = t0.0; legal = t2.0; free = t3.0 }))

-- ---- 19 and 22, as the code comes to them
-- where the sender owns every named circuit it has a right on each
pub owned-right : (owners helpers : List ℕ) (sender circuit n : ℕ) → is_some (first_unowned_lem owners sender circuit n) ≡ false → is_some (first_foreign_lem owners helpers sender circuit n) ≡ false
owned-right owners helpers sender circuit n e =
    none_found (has_right owners helpers sender) circuit n
    (λ j p q. let o = found_none (is_mine owners sender) circuit n e j p q in ap (λ (b : Bool). when b then true else is_mine helpers sender j) o)

module _ (owners helpers : List ℕ) (sender : ℕ) (a : Ask) where
  pub against-none : is_some (first_unowned_lem owners sender a.circuit (a.range + 1)) ≡ false → accepted tt ≡ against_of owners helpers sender a
  unfolding against_of
  against-none e = rw (owned-right owners helpers sender a.circuit (a.range + 1) e, e) (either (may_help a.act a.block))
    where
      either : (b : Bool) → ◌≡◌ {A = Answer ⊤} (accepted tt) (when b then accepted tt else accepted tt)
      either true = refl
      either false = refl

  module _ (f : is_some (first_foreign_lem owners helpers sender a.circuit (a.range + 1)) ≡ false) where
    pub against-helped : may_help a.act a.block ≡ true → accepted tt ≡ against_of owners helpers sender a
    unfolding against_of
    against-helped e = rw (f, e) refl

    pub against-only-helped : is_some (first_unowned_lem owners sender a.circuit (a.range + 1)) ≡ true → may_help a.act a.block ≡ false → refused 22 0 ≡ against_of owners helpers sender a
    unfolding against_of
    against-only-helped u e = rw (f, e, u) refl

-- ---- what is permitted, test by test
module _ (T : Tables) (sender : ℕ) (a : Ask) where
  -- 19 or 22
  pub permit-against : (n at : ℕ) → refused n at ≡ against_of T.owners T.helpers sender a → refused n at ≡ permitted_of T sender a
  unfolding permitted_of against_of is_unhelpable
  permit-against n at e =
      go (is_some (first_foreign_lem T.owners T.helpers sender a.circuit (a.range + 1))) (may_help a.act a.block) (is_some (first_unowned_lem T.owners sender a.circuit (a.range + 1))) e
    where
      rest : Answer Ask
      rest = when is_some (first_illegal_lem T.states a.circuit (a.range + 1)) then refused 20 0 else when is_taken T.states a.act a.circuit then refused 21 0 else accepted a

      go : (f h u : Bool) → ◌≡◌ {A = Answer ⊤} (refused n at) (when f then refused 19 0 else when h then accepted tt else when u then refused 22 0 else accepted tt)
          → refused n at ≡ (when f then refused 19 0 else when (when h then false else u) then refused 22 0 else rest)
      go true h u e = refused_as e
      go false true u e = absurd (refused-accepted e)
      go false false true e = refused_as e
      go false false false e = absurd (refused-accepted e)

  -- neither
  pub none-against : accepted tt ≡ against_of T.owners T.helpers sender a → (is_some (first_foreign_lem T.owners T.helpers sender a.circuit (a.range + 1)) ≡ false) × (is_unhelpable T sender a ≡ false)
  unfolding against_of is_unhelpable
  none-against e =
      go (is_some (first_foreign_lem T.owners T.helpers sender a.circuit (a.range + 1))) (may_help a.act a.block) (is_some (first_unowned_lem T.owners sender a.circuit (a.range + 1))) e
    where
      go : (f h u : Bool) → ◌≡◌ {A = Answer ⊤} (accepted tt) (when f then refused 19 0 else when h then accepted tt else when u then refused 22 0 else accepted tt) → (f ≡ false) × ((when h then false else u) ≡ false)
      go true h u e = absurd (refused-accepted (sym e))
      go false true u e = (refl, refl)
      go false false true e = absurd (refused-accepted (sym e))
      go false false false e = (refl, refl)

  module _ (p : is_some (first_foreign_lem T.owners T.helpers sender a.circuit (a.range + 1)) ≡ false) (h : is_unhelpable T sender a ≡ false) where
    pub permit-illegal : is_some (first_illegal_lem T.states a.circuit (a.range + 1)) ≡ true → refused 20 0 ≡ permitted_of T sender a
    unfolding permitted_of
    permit-illegal e = rw (p, h, e)

    module _ (q : is_some (first_illegal_lem T.states a.circuit (a.range + 1)) ≡ false) where
      pub permit-taken : is_taken T.states a.act a.circuit ≡ true → refused 21 0 ≡ permitted_of T sender a
      unfolding permitted_of
      permit-taken e = rw (p, h, q) (rw e)

      pub permit-all : is_taken T.states a.act a.circuit ≡ false → accepted a ≡ permitted_of T sender a
      unfolding permitted_of
      permit-all e = rw (p, h, q) (rw e)

-- ---- of whatever is lent
module _ (T : Tables) (sender : ℕ) (a : Ask) where
  pub permit-states : (length T.states ≡ 4096 → ⊥) → refused 16 0 ≡ permitted_in T sender a
  unfolding permitted_in
  permit-states h = rw (ne_eqb _ _ h)

  module _ (p : length T.states ≡ 4096) where
    pub permit-owners : (length T.owners ≡ 4096 → ⊥) → refused 16 0 ≡ permitted_in T sender a
    unfolding permitted_in
    permit-owners h = rw (eq-eqb _ _ p, ne_eqb _ _ h)

    module _ (q : length T.owners ≡ 4096) where
      pub permit-helpers : (length T.helpers ≡ 4096 → ⊥) → refused 16 0 ≡ permitted_in T sender a
      unfolding permitted_in
      permit-helpers h = rw (eq-eqb _ _ p, eq-eqb _ _ q, ne_eqb _ _ h)

      module _ (r : length T.helpers ≡ 4096) where
        pub permit-passes : 4095 < a.circuit + a.range → refused 18 0 ≡ permitted_in T sender a
        unfolding permitted_in
        permit-passes h = rw (eq-eqb _ _ p, eq-eqb _ _ q, eq-eqb _ _ r, lt-ltb _ _ h)

        -- a group inside the tables
        pub permitted-inside : a.circuit + a.range ≤ 4095 → permitted_of T sender a ≡ permitted_in T sender a
        unfolding permitted_in
        permitted-inside h = rw (eq-eqb _ _ p, eq-eqb _ _ q, eq-eqb _ _ r, le-ltb _ _ h)
