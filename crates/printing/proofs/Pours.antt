-- Laws of a buffer that is filled from the left, and one turn of each loop that fills it.
use Prim.Native.Nat.{ℕ, zero, suc, ◌+◌, ◌/◌, ◌%◌, ◌<◌, ◌≤◌}
use mathlib.Core.Path.{◌≡◌, refl, ◌∙◌, ap}
use mathlib.Core.Bool.{Bool, true, false}
use mathlib.Core.List.{List, [], ◌∷◌, ◌++◌}
use native.Mathlib.Omega.{arith}
use native.Mathlib.Numerals.{add-one}
use native.Mathlib.Nat.{add-zero, zero-add}
use borrow.Author.Tests.{lt-ltb, le-ltb, eq-eqb, ne_eqb}
use lib.Dec.{ltb}
use lib.ListN.{length, get_or, take, drop, set, length-set, drop_of_length-le}
use lib.Seq.{drop-cons, sets}
use Rattle.octets.specs.Choice.{when◌then◌else◌}
use Rattle.octets.proofs.Filled.{sets-filled, take-filled}
use Rattle.words.specs.Words.{pairs_of, octets_of}
use Rattle.printing.specs.Sheet.{Sheet, sheet, put, pour}
use Rattle.printing.specs.Shown.{digit_of, hex_pairs, hex_of, decimal_in}

-- what is put after the one is put after the other
pub pour-append : (s : Sheet) (a b : List ℕ) → pour s (a ++ b) ≡ pour (pour s a) b
unfolding pour
pour-append s [] b = refl
pour-append s (c ∷ a) b = pour-append (put s c) a b

-- one octet is a text of one octet
pub pour-one : (s : Sheet) (c : ℕ) → put s c ≡ pour s (c ∷ [])
unfolding pour
pour-one s c = refl

-- with room for it, the octet is stored and the place is the next
pub put-here : (octets : List ℕ) (at c : ℕ) → at < length octets → put (sheet octets at) c ≡ sheet (set octets at c) (at + 1)
unfolding put
put-here octets at c h = rw (lt-ltb at (length octets) h)

-- with no room for it, all stays as it is
pub put_full : (octets : List ℕ) (at c : ℕ) → length octets ≤ at → put (sheet octets at) c ≡ sheet octets at
unfolding put
put_full octets at c h = rw (le-ltb at (length octets) h)

-- by either choice the buffer keeps its length
length-chosen : (t : Bool) (s : Sheet) (c : ℕ) → length (when t then sheet (set s.octets s.at c) (s.at + 1) else s).octets ≡ length s.octets
length-chosen true s c = length-set s.octets s.at c
length-chosen false s c = refl

-- an octet that is put keeps the buffer's length
pub length-put : (s : Sheet) (c : ℕ) → length (put s c).octets ≡ length s.octets
unfolding put
length-put s c = length-chosen (ltb s.at (length s.octets)) s c

-- so does a text
pub length-pour : (s : Sheet) (cs : List ℕ) → length (pour s cs).octets ≡ length s.octets
unfolding pour
length-pour s [] = refl
length-pour s (c ∷ cs) = length-pour (put s c) cs ∙ length-put s c

-- a text that fits is stored whole, and the place is behind it
pub pour-fits : (octets : List ℕ) (at : ℕ) (cs : List ℕ) → at + length cs ≤ length octets → pour (sheet octets at) cs ≡ sheet (sets octets at cs) (at + length cs)
unfolding pour
pour-fits octets at [] h = rw add-zero
pour-fits octets at (c ∷ cs) h =
    let e : at + 1 + length cs ≡ at + suc (length cs) = omega arith in
    let k : at + 1 + length cs ≤ length (set octets at c) = simp length-set (omega arith) in
    ap (λ (s : Sheet). pour s cs) (put-here octets at c (omega arith)) ∙ pour-fits (set octets at c) (at + 1) cs k ∙ rw (e, add-one)

-- a text that fits, put at the buffer's front: the place is how many octets
-- it has, and they stand there
pub pour-front : (octets cs : List ℕ) → length cs ≤ length octets → ((pour (sheet octets 0) cs).at ≡ length cs) × (take (length cs) (pour (sheet octets 0) cs).octets ≡ cs)
pour-front octets cs h =
    let e = pour-fits octets 0 cs (omega arith) in
    (ap (λ (s : Sheet). s.at) e ∙ zero-add _, ap (λ (s : Sheet). take (length cs) s.octets) e ∙ ap (take (length cs)) (sets-filled cs octets h) ∙ take-filled cs octets (length cs) refl)

-- the same buffer and the same place
pub sheet-one : {a b : List ℕ} {i j : ℕ} → sheet a i ≡ sheet b j → (a ≡ b) × (i ≡ j)
sheet-one e = (ap (λ (s : Sheet). s.octets) e, ap (λ (s : Sheet). s.at) e)

-- nothing is left to put
pub pour-done : (s : Sheet) (text : List ℕ) (i : ℕ) → length text ≤ i → pour s (drop i text) ≡ s
unfolding pour
pour-done s text i h = rw (drop_of_length-le text h)

-- one octet of a text is put, and then the rest
pub pour-next : (s s' : Sheet) (text : List ℕ) (i i' : ℕ) → i < length text → i' ≡ suc i → s' ≡ put s (get_or text i 0) → pour s' (drop i' text) ≡ pour s (drop i text)
unfolding pour
pour-next s s' text i i' h e p = rw (drop-cons text i 0 h, e, p)

-- the digits 0 to 9
pub digit_low : (n : ℕ) → n < 10 → digit_of n ≡ 48 + n
unfolding digit_of
digit_low n h = rw (lt-ltb n 10 h)

-- the digits a to f
pub digit-high : (n : ℕ) → 10 ≤ n → digit_of n ≡ 87 + n
unfolding digit_of
digit-high n h = rw (le-ltb n 10 h)

-- of no octets, `-` is put
pub hex-none : (s : Sheet) (xs : List ℕ) → length xs ≡ 0 → pour s (hex_of xs) ≡ put s 45
unfolding pour hex_of
hex-none s xs h = rw (eq-eqb (length xs) 0 h)

-- of some octets, the digits are put
pub hex-some : (xs : List ℕ) → (length xs ≡ 0 → ⊥) → hex_of xs ≡ hex_pairs xs
unfolding hex_of
hex-some xs h = rw (ne_eqb (length xs) 0 h)

-- no octet is left to show
pub hex-done : (s : Sheet) (xs : List ℕ) (i : ℕ) → length xs ≤ i → pour s (hex_pairs (drop i xs)) ≡ s
unfolding pour hex_pairs
hex-done s xs i h = rw (drop_of_length-le xs h)

-- both digits of an octet are put, and then the rest
pub hex-next : (s s' s'' : Sheet) (xs : List ℕ) (i i' high low : ℕ) → i < length xs → i' ≡ suc i → high ≡ digit_of (get_or xs i 0 / 16) → low ≡ digit_of (get_or xs i 0 % 16) → s' ≡ put s high → s'' ≡ put s' low → pour s'' (hex_pairs (drop i' xs)) ≡ pour s (hex_pairs (drop i xs))
unfolding pour hex_pairs
hex-next s s' s'' xs i i' high low h e f g p q = rw (drop-cons xs i 0 h, e, q, p, f, g)

-- another word stands for the octets of its digits
pub octets-more : (word : List ℕ) → (length word ≡ 1 → ⊥) → octets_of word ≡ pairs_of word
unfolding octets_of
octets-more word h = rw (ne_eqb (length word) 1 h)

-- no places, no digits
pub decimal-none : (s : Sheet) (k n : ℕ) → k ≡ 0 → pour s (decimal_in k n) ≡ s
unfolding pour decimal_in
decimal-none s k n e = rw e

-- a number below 10 is one digit
pub decimal-one : (k n : ℕ) → (k ≡ 0 → ⊥) → n ≤ 9 → decimal_in k n ≡ (48 + n % 10) ∷ []
unfolding decimal_in
decimal-one zero n h l = absurd (h refl)
decimal-one (suc k) n h l = rw (le-ltb 9 n l)

-- another is the digits before the last, and the last
pub decimal-many : (k k' n : ℕ) → k ≡ suc k' → 9 < n → decimal_in k n ≡ decimal_in k' (n / 10) ++ ((48 + n % 10) ∷ [])
unfolding decimal_in
decimal-many k k' n e l = rw (e, lt-ltb 9 n l)

-- a number below 10 is put as one octet
pub decimal-last : (s : Sheet) (k n : ℕ) → (k ≡ 0 → ⊥) → n ≤ 9 → pour s (decimal_in k n) ≡ put s (48 + n % 10)
unfolding pour
decimal-last s k n h l = rw (decimal-one k n h l)

-- of another, the digits before the last are put first
pub decimal-more : (s : Sheet) (k k' n : ℕ) → k ≡ suc k' → 9 < n → pour s (decimal_in k n) ≡ put (pour s (decimal_in k' (n / 10))) (48 + n % 10)
decimal-more s k k' n e l =
    rw (decimal-many k k' n e l, pour-append s (decimal_in k' (n / 10)), ← pour-one)
