-- The first octets of a list: a count, a span, the head of a message.
use Prim.Native.Nat.{ℕ, ◌+◌, ◌*◌, ◌/◌, ◌%◌, ◌<◌, ◌≤◌}
use mathlib.Core.Path.{◌≡◌}
use mathlib.Core.List.{List, [], ◌∷◌, ◌++◌}
use mathlib.Core.Logic.{◌⊎◌, inl, inr}
use native.Mathlib.Omega.{arith}
use native.Mathlib.Decide.{dec_lt}
use lib.ListN.{length, take, drop, take-append-drop}
use lib.Seq.{length-take-le}
use Rattle.octets.specs.Octet.{AllOctets}
use Rattle.book.specs.Book.{Span, word, span_octets}

-- shorter than n, or n octets and the rest
pub record Split (n : ℕ) (xs : List ℕ) : Type 0 where
  pub front : List ℕ
  pub rest : List ℕ
  pub size : length front ≡ n
  pub whole : front ++ rest ≡ xs

pub split : (n : ℕ) (xs : List ℕ) → (length xs < n) ⊎ Split n xs
split n xs = go (dec_lt (length xs) n)
  where
    go : Dec (length xs < n) → (length xs < n) ⊎ Split n xs
    go (yes h) = inl h
    go (no h) = inr (record { front = take n xs; rest = drop n xs; size = length-take-le n xs (omega arith); whole = take-append-drop n xs })

-- the number of two octets
low-high : (x y : ℕ) → x < 256 → ((x + 256 * y) % 256 ≡ x) × ((x + 256 * y) / 256 ≡ y)
low-high x y h = (omega arith, omega arith)

as-word : (x y : ℕ) → x < 256 → word (x + 256 * y) ≡ x ∷ y ∷ []
as-word x y h = let e = low-high x y h in λ i. e.0 i ∷ e.1 i ∷ []

-- two octets are a word
pub two : (a : List ℕ) → length a ≡ 2 → AllOctets a → (n : ℕ) × (word n ≡ a) × (n ≤ 65535)
two [] e o = absurd (omega arith)
two (x ∷ []) e o = absurd (omega arith)
two (x ∷ y ∷ []) e o = (x + 256 * y, as-word x y (o 0), omega (arith, o 0, o 1))
two (x ∷ y ∷ z ∷ a) e o = absurd (omega arith)

-- five are a span's
pub five : (a : List ℕ) → length a ≡ 5 → AllOctets a → (s : Span) × (span_octets s ≡ a) × (s.sender ≤ 255)
five [] e o = absurd (omega arith)
five (x ∷ []) e o = absurd (omega arith)
five (x ∷ y ∷ []) e o = absurd (omega arith)
five (x ∷ y ∷ z ∷ []) e o = absurd (omega arith)
five (x ∷ y ∷ z ∷ w ∷ []) e o = absurd (omega arith)
five (x ∷ y ∷ z ∷ w ∷ v ∷ []) e o =
    (record { first = x + 256 * y; last = z + 256 * w; sender = v }, (λ i. as-word x y (o 0) i ++ (as-word z w (o 2) i ++ (v ∷ []))), omega (arith, o 4))
five (x ∷ y ∷ z ∷ w ∷ v ∷ u ∷ a) e o = absurd (omega arith)

-- three are a head's
pub three : (a : List ℕ) → length a ≡ 3 → AllOctets a → (sender : ℕ) × (n : ℕ) × (sender ∷ word n ≡ a) × (sender ≤ 255)
three [] e o = absurd (omega arith)
three (x ∷ []) e o = absurd (omega arith)
three (x ∷ y ∷ []) e o = absurd (omega arith)
three (x ∷ y ∷ z ∷ []) e o = (x, y + 256 * z, (λ i. x ∷ as-word y z (o 1) i), omega (arith, o 0))
three (x ∷ y ∷ z ∷ w ∷ a) e o = absurd (omega arith)
