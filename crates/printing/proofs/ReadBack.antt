-- What is shown reads back: octets in hexadecimal digits as the same octets, a number in decimal
-- digits as the same number.
use Rattle.std.specs.Prelude.{Some}
use Prim.Native.Nat.{ℕ, zero, suc, ◌+◌, ◌*◌, ◌/◌, ◌%◌, ◌^◌, ◌<◌, ◌≤◌}
use mathlib.Core.Path.{◌≡◌, refl, ◌∙◌, ap}
use mathlib.Core.Bool.{true}
use mathlib.Core.Logic.{◌⊎◌, inl, inr, ⊎_elim}
use mathlib.Core.List.{List, [], ◌∷◌, ◌++◌, append_assoc, append-nil}
use native.Mathlib.Omega.{arith}
use native.Mathlib.Nat.{pow-suc}
use native.Mathlib.Decide.{dec_lt}
use borrow.Author.Tests.{le-ltb, le-leb, lt-leb, ne_eqb}
use lib.ListN.{length, length-append}
use Rattle.octets.specs.Octet.{AllOctets}
use Rattle.words.specs.Digits.{value_of}
use Rattle.words.specs.Words.{digits_from, number_of, all_digits_lem, are_octets, pairs_of, octets_of}
use Rattle.printing.specs.Shown.{digit_of, decimal_in, decimal_of, hex_pairs, hex_of}
use Rattle.printing.proofs.Pours.{digit_low, digit-high, hex-some, octets-more, decimal-one, decimal-many}

-- below, or not
below_or : (n m : ℕ) → (n < m) ⊎ (m ≤ n)
below_or n m = go (dec_lt n m)
  where
    go : Dec (n < m) → (n < m) ⊎ (m ≤ n)
    go (yes h) = inl h
    go (no h) = inr (omega arith)

-- what the digits 0 to 9 stand for
value_low : (n : ℕ) → n < 10 → value_of (48 + n) ≡ n
unfolding value_of
value_low n h = rw (le-ltb (48 + n) 48 (omega arith), le-leb (48 + n) 57 (omega arith)) (omega arith)

-- what the digits a to f stand for
value-high : (n : ℕ) → 10 ≤ n → n < 16 → value_of (87 + n) ≡ n
unfolding value_of
value-high n h l =
    rw (le-ltb (87 + n) 48 (omega arith), lt-leb (87 + n) 57 (omega arith), le-ltb (87 + n) 65 (omega arith), lt-leb (87 + n) 70 (omega arith), le-ltb (87 + n) 97 (omega arith), le-leb (87 + n) 102 (omega arith)) (omega arith)

-- a digit stands for the number that it shows
pub digit-reads : (n : ℕ) → n < 16 → value_of (digit_of n) ≡ n
digit-reads n h =
    ⊎_elim
    (λ l. ap value_of (digit_low n l) ∙ value_low n l)
    (λ l. ap value_of (digit-high n l) ∙ value-high n l h)
    (below_or n 10)

-- two digits for each octet
length_pairs : (xs : List ℕ) → length (hex_pairs xs) ≡ 2 * length xs
unfolding hex_pairs
length_pairs [] = refl
length_pairs (x ∷ xs) = let e = length_pairs xs in omega arith

-- all of them are digits
all_digits : (xs : List ℕ) → AllOctets xs → all_digits_lem (hex_pairs xs) ≡ true
unfolding hex_pairs all_digits_lem
all_digits [] h = refl
all_digits (x ∷ xs) h =
    let b : x < 256 = h 0 in
    let e = digit-reads (x / 16) (omega arith) in
    let f = digit-reads (x % 16) (omega arith) in
    rw (le-ltb 15 (value_of (digit_of (x / 16))) (omega arith), le-ltb 15 (value_of (digit_of (x % 16))) (omega arith)) (all_digits xs (λ i. h (suc i)))

-- the pairs stand for the octets
pairs-read : (xs : List ℕ) → AllOctets xs → pairs_of (hex_pairs xs) ≡ xs
unfolding hex_pairs pairs_of
pairs-read [] h = refl
pairs-read (x ∷ xs) h =
    let b : x < 256 = h 0 in
    let e : (16 * (x / 16) + x % 16) % 256 ≡ x = omega arith in
    rw (digit-reads (x / 16) (omega arith), digit-reads (x % 16) (omega arith), e, pairs-read xs (λ i. h (suc i)))

-- octets that are shown are a word of octets, and stand for the same
pub octets-read-back : (most : ℕ) (xs : List ℕ) → AllOctets xs → length xs ≤ most → (are_octets most (hex_of xs) ≡ true) × (octets_of (hex_of xs) ≡ xs)
unfolding hex_of are_octets octets_of
octets-read-back most [] h l = (refl, refl)
octets-read-back most (x ∷ xs) h l =
    let w = hex_pairs (x ∷ xs) in
    let n : length w ≡ 2 * length (x ∷ xs) = length_pairs (x ∷ xs) in
    let e = hex-some (x ∷ xs) (λ z. omega arith) in
    (ap (are_octets most) e ∙ rw (ne_eqb (length w) 1 (λ z. omega arith), ne_eqb (length w) 0 (λ z. omega arith), le-ltb most (length w / 2) (omega arith), ne_eqb (length w % 2) 1 (λ z. omega arith)) (all_digits (x ∷ xs) h), ap octets_of e ∙ octets-more w (λ z. omega arith) ∙ pairs-read (x ∷ xs) h)

-- a digit goes on to ten times the number, and the digit
digit-next : (most v d n : ℕ) (cs : List ℕ) → d < 10 → n ≡ 10 * v + d → n ≤ most → digits_from most v ((48 + d) ∷ cs) ≡ digits_from most n cs
unfolding digits_from
digit-next most v d n cs h e l = rw (value_low d h, le-ltb 9 d (omega arith), ← e, le-ltb most n l)

-- the digits of a number read as it, whatever follows
decimal-reads : (k n most : ℕ) (cs : List ℕ) → n < 10 ^ k → n ≤ most → digits_from most 0 (decimal_in k n ++ cs) ≡ digits_from most n cs
unfolding decimal_in
decimal-reads zero n most cs h l = let e : 0 ≡ n = omega arith in ap (λ (v : ℕ). digits_from most v cs) e
decimal-reads (suc k) n most cs h l =
    let p = pow-suc 10 k in
    ⊎_elim
    (λ s. ap (λ (w : List ℕ). digits_from most 0 (w ++ cs)) (decimal-one (suc k) n (λ z. omega arith) (omega arith)) ∙ digit-next most 0 (n % 10) n cs (omega arith) (omega arith) l)
    (λ s. ap (λ (w : List ℕ). digits_from most 0 (w ++ cs)) (decimal-many (suc k) k n refl (omega arith)) ∙ ap (digits_from most 0) (append_assoc (decimal_in k (n / 10)) _ cs) ∙ decimal-reads k (n / 10) most _ (omega arith) (omega arith) ∙ digit-next most (n / 10) (n % 10) n cs (omega arith) (omega arith) l)
    (below_or n 10)

-- no more digits than places
decimal-short : (k n : ℕ) → length (decimal_in k n) ≤ k
unfolding decimal_in
decimal-short zero n = omega arith
decimal-short (suc k) n =
    ⊎_elim
    (λ s. let e = ap length (decimal-one (suc k) n (λ z. omega arith) (omega arith)) in omega arith)
    (λ s. let e = ap length (decimal-many (suc k) k n refl s) ∙ length-append (decimal_in k (n / 10)) _ in let b = decimal-short k (n / 10) in omega arith)
    (below_or n 10)

-- with a place, there is a digit
decimal-some : (k n : ℕ) → 1 ≤ length (decimal_in (suc k) n)
unfolding decimal_in
decimal-some k n = simp length-append (omega arith)

-- a number that is shown reads as the same number
pub number-reads-back : (n most : ℕ) → n ≤ most → most ≤ 4294967295 → number_of most (decimal_of n) ≡ Some n
unfolding number_of digits_from
number-reads-back n most h l =
    let b = decimal-short 10 n in
    let c = decimal-some 9 n in
    rw (ne_eqb (length (decimal_of n)) 0 (λ z. omega arith), le-ltb 10 (length (decimal_of n)) b, ← append-nil (decimal_of n)) (decimal-reads 10 n most [] (omega arith) h)
