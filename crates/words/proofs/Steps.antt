-- A step along a word: what its first octet decides of the rest from octet i on.
use Rattle.std.specs.Prelude.{Some, None}
use Prim.Native.Nat.{ℕ, suc, ◌+◌, ◌*◌, ◌%◌, ◌≤◌, ◌<◌}
use mathlib.Core.Path.{◌≡◌, refl}
use mathlib.Core.List.{List, ◌∷◌}
use native.Mathlib.Omega.{arith}
use native.Mathlib.Numerals.{add-one}
use borrow.Author.Tests.{lt-ltb, le-ltb, eq-eqb, ne_eqb}
use lib.ListN.{length, get_or, set, drop, drop_of_length-le}
use lib.Seq.{drop-cons}
use Rattle.words.specs.Digits.{value_of}
use Rattle.words.specs.Words.{word_length, digits_from, number_of}
use Rattle.words.specs.Into.{entry, pairs_into}

module _ (l : List ℕ) (i : ℕ) (h : i < length l) where
  -- a space ends a word
  pub word-space : get_or l i 0 ≡ 32 → word_length (drop i l) ≡ 0
  unfolding word_length
  word-space e = rw (drop-cons l i 0 h, eq-eqb _ _ e) refl

  -- any other octet is one more of it
  pub word_more : (get_or l i 0 ≡ 32 → ⊥) → word_length (drop i l) ≡ suc (word_length (drop (i + 1) l))
  unfolding word_length
  word_more e = rw (add-one, drop-cons l i 0 h, ne_eqb _ _ e) refl

  -- an octet that is no decimal digit
  pub digit-none : (most v : ℕ) → 9 < value_of (get_or l i 0) → digits_from most v (drop i l) ≡ None
  unfolding digits_from
  digit-none most v e = rw (drop-cons l i 0 h, lt-ltb _ _ e) refl

  -- a digit that passes the most
  pub digit-past : (most v : ℕ) → value_of (get_or l i 0) ≤ 9 → most < 10 * v + value_of (get_or l i 0) → digits_from most v (drop i l) ≡ None
  unfolding digits_from
  digit-past most v e p = rw (drop-cons l i 0 h, le-ltb _ _ e, lt-ltb _ _ p) refl

  -- a digit that does not
  pub digit-more : (most v : ℕ) → value_of (get_or l i 0) ≤ 9 → 10 * v + value_of (get_or l i 0) ≤ most → digits_from most v (drop i l) ≡ digits_from most (10 * v + value_of (get_or l i 0)) (drop (i + 1) l)
  unfolding digits_from
  digit-more most v e p = rw (add-one, drop-cons l i 0 h, le-ltb _ _ e, le-ltb _ _ p) refl

-- past the end there is nothing left
pub word-ended : (l : List ℕ) (i : ℕ) → length l ≤ i → word_length (drop i l) ≡ 0
unfolding word_length
word-ended l i h = rw (drop_of_length-le l h) refl

pub digits-ended : (l : List ℕ) (i most v : ℕ) → length l ≤ i → digits_from most v (drop i l) ≡ Some v
unfolding digits_from
digits-ended l i most v h = rw (drop_of_length-le l h) refl

-- of one to ten digits
pub number_digits : (most : ℕ) (l : List ℕ) → (length l ≡ 0 → ⊥) → length l ≤ 10 → digits_from most 0 l ≡ number_of most l
unfolding number_of
number_digits most l e h = rw (ne_eqb _ _ e, le-ltb _ _ h) refl

-- the octets of a word, put two digits at a time: the digits from 2 * n on, after n octets
module _ (word buffer : List ℕ) (at n : ℕ) where
  -- none is left
  pub into-ended : length word ≤ 2 * n → pairs_into (drop (2 * n) word) buffer at n ≡ entry (Some n) buffer
  unfolding pairs_into
  into-ended h = rw (drop_of_length-le word h) refl

  module _ (h : 2 * n + 1 < length word) where
    -- two are left at the least
    into-two : drop (2 * n) word ≡ get_or word (2 * n) 0 ∷ get_or word (2 * n + 1) 0 ∷ drop (2 * (n + 1)) word
    into-two =
        let e : 2 * n + 1 ≡ suc (2 * n) = omega arith in
        let f : 2 * (n + 1) ≡ suc (suc (2 * n)) = omega arith in
        rw (e, f, drop-cons word (2 * n) 0 (omega arith), drop-cons word (suc (2 * n)) 0 (omega arith)) refl

    -- the first is no digit
    pub into-high : 15 < value_of (get_or word (2 * n) 0) → pairs_into (drop (2 * n) word) buffer at n ≡ entry None buffer
    unfolding pairs_into
    into-high e = rw (into-two, lt-ltb _ _ e) refl

    module _ (d : value_of (get_or word (2 * n) 0) ≤ 15) where
      -- the second is no digit
      pub into-low : 15 < value_of (get_or word (2 * n + 1) 0) → pairs_into (drop (2 * n) word) buffer at n ≡ entry None buffer
      unfolding pairs_into
      into-low e = rw (into-two, le-ltb _ _ d, lt-ltb _ _ e) refl

      -- both are, and their octet is put
      pub into_more : value_of (get_or word (2 * n + 1) 0) ≤ 15
          → pairs_into (drop (2 * n) word) buffer at n ≡ pairs_into (drop (2 * (n + 1)) word) (set buffer (at + n) (16 * value_of (get_or word (2 * n) 0) + value_of (get_or word (2 * n + 1) 0))) at (n + 1)
      unfolding pairs_into
      into_more e =
          let m : (16 * value_of (get_or word (2 * n) 0) + value_of (get_or word (2 * n + 1) 0)) % 256 ≡ 16 * value_of (get_or word (2 * n) 0) + value_of (get_or word (2 * n + 1) 0) = omega arith in
          rw (into-two, le-ltb _ _ d, le-ltb _ _ e, m) refl
