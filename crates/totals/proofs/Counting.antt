-- The steps of a question, over plain variables.
use Prim.Native.Nat.{ℕ, zero, suc, ◌+◌, ◌-◌, ◌*◌, ◌≤◌, ◌<◌}
use mathlib.Core.Path.{◌≡◌, refl, sym, ◌∙◌}
use mathlib.Core.List.{List}
use native.Mathlib.Omega.{arith}
use borrow.Author.Tests.{eq-eqb, ne_eqb, lt-ltb, le-ltb}
use lib.ListN.{length}
use Rattle.octets.specs.Octet.{octet}
use Rattle.octets.specs.Answer.{accepted, refused}
use Rattle.octets.specs.Filled.{leaving}
use Rattle.octets.specs.Sum.{total}
use Rattle.totals.specs.declared.Count.{Count}
use Rattle.totals.specs.Blocks.{busy_in, all_counted, rebuild_of}
use Rattle.totals.specs.Question.{first_whole, past_whole, looked_at, busy_count, looked_of, count_between_lem, busy_between_lem}

-- a sum of ones
pub total-ones : (e n : ℕ) → total (λ i. 1) e n ≡ n
unfolding total
total-ones e zero = refl
total-ones e (suc n) = omega (arith, total-ones (suc e) n)

module _ (row whole : ℕ → ℕ) (a b : ℕ) where
  -- with whole blocks
  pub looked-whole : first_whole a < past_whole b
      → looked_at row whole a b ≡ total row a (64 * first_whole a - a) + total whole (first_whole a) (past_whole b - first_whole a) + total row (64 * past_whole b) (b + 1 - 64 * past_whole b)
  unfolding looked_at
  looked-whole h = rw (lt-ltb _ _ h)

  -- with none
  pub looked-loose : past_whole b ≤ first_whole a → looked_at row whole a b ≡ total row a (b + 1 - a)
  unfolding looked_at
  looked-loose h = rw (le-ltb _ _ h)

module _ (a b : ℕ) where
  pub ones-whole : first_whole a < past_whole b → looked_of a b ≡ (64 * first_whole a - a) + (past_whole b - first_whole a) + (b + 1 - 64 * past_whole b)
  ones-whole h =
      let x = total-ones a (64 * first_whole a - a) in
      let y = total-ones (first_whole a) (past_whole b - first_whole a) in
      let z = total-ones (64 * past_whole b) (b + 1 - 64 * past_whole b) in
      looked-whole _ _ a b h ∙ omega (arith, x, y, z)

  pub ones-loose : past_whole b ≤ first_whole a → looked_of a b ≡ b + 1 - a
  ones-loose h = looked-loose _ _ a b h ∙ total-ones a (b + 1 - a)

module _ (rows totals : List ℕ) (a b : ℕ) where
  pub counted-whole : first_whole a < past_whole b → (x y z : ℕ)
      → x ≡ busy_in rows a (64 * first_whole a - a) → y ≡ total (octet totals) (first_whole a) (past_whole b - first_whole a) → z ≡ busy_in rows (64 * past_whole b) (b + 1 - 64 * past_whole b)
      → record { count = x + y + z; looked = (64 * first_whole a - a) + (past_whole b - first_whole a) + (b + 1 - 64 * past_whole b) } ≡ count_between_lem rows totals a b
  counted-whole h x y z p q r = λ i. record { count = sums i; looked = sym (ones-whole a b h) i }
    where
      sums : x + y + z ≡ busy_count rows totals a b
      sums = rw (p, q, r) (sym (looked-whole _ (octet totals) a b h))

  pub counted-loose : past_whole b ≤ first_whole a → (x : ℕ) → x ≡ busy_in rows a (b + 1 - a) → record { count = x; looked = b + 1 - a } ≡ count_between_lem rows totals a b
  counted-loose h x p = λ i. record { count = (p ∙ sym (looked-loose _ (octet totals) a b h)) i; looked = sym (ones-loose a b h) i }

-- ---- the branches of a rebuild and of a question
module _ (states totals : List ℕ) where
  pub rebuild-states : (length states ≡ 4096 → ⊥) → leaving (refused 16 0) totals ≡ rebuild_of states totals
  unfolding rebuild_of
  rebuild-states h = rw (ne_eqb _ _ h)

  pub busy-states : (a b : ℕ) → (length states ≡ 4096 → ⊥) → refused 16 0 ≡ busy_between_lem states totals a b
  unfolding busy_between_lem
  busy-states a b h = rw (ne_eqb _ _ h)

  module _ (s : length states ≡ 4096) where
    pub rebuild-totals : (length totals ≡ 64 → ⊥) → leaving (refused 16 0) totals ≡ rebuild_of states totals
    unfolding rebuild_of
    rebuild-totals h = rw (eq-eqb _ _ s, ne_eqb _ _ h)

    pub busy-totals : (a b : ℕ) → (length totals ≡ 64 → ⊥) → refused 16 0 ≡ busy_between_lem states totals a b
    unfolding busy_between_lem
    busy-totals a b h = rw (eq-eqb _ _ s, ne_eqb _ _ h)

    module _ (t : length totals ≡ 64) where
      pub rebuild-done : (left : List ℕ) → left ≡ all_counted states totals → leaving (accepted 64) left ≡ rebuild_of states totals
      unfolding rebuild_of
      rebuild-done left e = rw (eq-eqb _ _ s, eq-eqb _ _ t, e)

      module _ (a b : ℕ) where
        pub busy-9 : 4095 < b → refused 9 0 ≡ busy_between_lem states totals a b
        unfolding busy_between_lem
        busy-9 h = rw (eq-eqb _ _ s, eq-eqb _ _ t, lt-ltb _ _ h)

        pub busy-18 : b ≤ 4095 → b < a → refused 18 0 ≡ busy_between_lem states totals a b
        unfolding busy_between_lem
        busy-18 h k = rw (eq-eqb _ _ s, eq-eqb _ _ t, le-ltb _ _ h, lt-ltb _ _ k)

        pub busy-done : b ≤ 4095 → a ≤ b → (c : Count) → c ≡ count_between_lem states totals a b → accepted c ≡ busy_between_lem states totals a b
        unfolding busy_between_lem
        busy-done h k c e = rw (eq-eqb _ _ s, eq-eqb _ _ t, le-ltb _ _ h, le-ltb _ _ k, e)
