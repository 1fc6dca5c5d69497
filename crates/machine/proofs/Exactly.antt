-- 24 exactly where the octets are no good book's: a book's lines begin with a digit or with `all`.
use Prim.Native.Nat.{ℕ, zero, suc, ◌+◌, ◌/◌, ◌%◌, ◌<◌}
use mathlib.Core.Path.{◌≡◌, sym, ◌∙◌, ap}
use mathlib.Core.Bool.{Bool, true, false}
use mathlib.Core.List.{List, [], ◌∷◌, ◌++◌, append_assoc}
use mathlib.Core.Logic.{◌↔◌}
use native.Mathlib.Omega.{arith}
use lib.Dec.{ltb, eqb}
use Rattle.octets.specs.Octet.{octet, AllOctets}
use Rattle.octets.specs.Choice.{when◌then◌else◌}
use Rattle.printing.specs.Shown.{decimal_in, decimal_of}
use Rattle.book.specs.Book.{Book, book_octets, Good}
use Rattle.book.specs.Faults.{Faulty}
use Rattle.book.proofs.Faulted.{faulty-exactly}
use Rattle.day.specs.Day.{start}
use Rattle.tallies.specs.declared.Tally.{Tally}
use Rattle.tallies.specs.Lines.{four_numbers, lines_from, lines_for, all_line, sums_from}
use Rattle.tallies.specs.Reports.{no_book, text}
use Rattle.machine.specs.Machine.{feed_of}
use Rattle.machine.specs.Replay.{tally_of}
use Rattle.machine.proofs.Replays.{book-replayed}
use Rattle.machine.proofs.Backward.{refused-otherwise}

-- the digits of a number begin with a digit
digit-first : (k n : ℕ) (rest : List ℕ) → octet (decimal_in (suc k) n ++ rest) 0 < 58
unfolding decimal_in
digit-first zero n rest = go (ltb 9 n)
  where
    go : (b : Bool) → octet (((when b then [] else []) ++ ((48 + n % 10) ∷ [])) ++ rest) 0 < 58
    go true = omega arith
    go false = omega arith
digit-first (suc k) n rest = go (ltb 9 n) (digit-first k (n / 10) (((48 + n % 10) ∷ []) ++ rest))
  where
    go : (b : Bool) → octet (decimal_in (suc k) (n / 10) ++ (((48 + n % 10) ∷ []) ++ rest)) 0 < 58 → octet (((when b then decimal_in (suc k) (n / 10) else []) ++ ((48 + n % 10) ∷ [])) ++ rest) 0 < 58
    go true h = let e : octet ((decimal_in (suc k) (n / 10) ++ ((48 + n % 10) ∷ [])) ++ rest) 0 ≡ octet (decimal_in (suc k) (n / 10) ++ (((48 + n % 10) ∷ []) ++ rest)) 0 = ap (λ (l : List ℕ). octet l 0) (append_assoc (decimal_in (suc k) (n / 10)) ((48 + n % 10) ∷ []) rest) in omega (arith, e, h)
    go false h = omega arith

-- so do the lines, or with the a of `all`
lines-first : (f : ℕ → Tally) (q n : ℕ) (rest : List ℕ) → octet (lines_from f q n ++ (97 ∷ rest)) 0 < 114
unfolding lines_from
lines-first f q zero rest = omega arith
lines-first f q (suc n) rest = go (eqb (f q).messages 0) (lines-first f (suc q) n rest)
  where
    go : (b : Bool) → octet (lines_from f (suc q) n ++ (97 ∷ rest)) 0 < 114 → octet (((when b then [] else decimal_of q ++ four_numbers (f q)) ++ lines_from f (suc q) n) ++ (97 ∷ rest)) 0 < 114
    go true h = h
    go false h =
        let e : octet (((decimal_of q ++ four_numbers (f q)) ++ lines_from f (suc q) n) ++ (97 ∷ rest)) 0 ≡ octet (decimal_of q ++ (four_numbers (f q) ++ (lines_from f (suc q) n ++ (97 ∷ rest)))) 0 =
        ap (λ (l : List ℕ). octet l 0)
        (append_assoc (decimal_of q ++ four_numbers (f q)) (lines_from f (suc q) n) (97 ∷ rest)
        ∙ append_assoc (decimal_of q) (four_numbers (f q)) (lines_from f (suc q) n ++ (97 ∷ rest))) in
        omega (arith, e, digit-first 9 q (four_numbers (f q) ++ (lines_from f (suc q) n ++ (97 ∷ rest))))

lines-no-refusal : (f : ℕ → Tally) → lines_for f ≡ no_book → ⊥
unfolding lines_for
lines-no-refusal f e =
    let z : octet (lines_from f 0 256 ++ all_line (sums_from f 0 256)) 0 ≡ 114 = ap (λ (l : List ℕ). octet l 0) e in
    omega (arith, z, lines-first f 0 256 (108 ∷ 108 ∷ four_numbers (sums_from f 0 256)))

-- refused with 24 exactly where no good book has these octets
pub no-book-exactly : (xs : List ℕ) → AllOctets xs → (text (feed_of start xs) ≡ no_book) ↔ ((b : Book) → Good b → book_octets b ≡ xs → ⊥)
no-book-exactly xs o =
    ((λ e b g p. lines-no-refusal (tally_of b) (sym (book-replayed b g) ∙ ap (λ (l : List ℕ). text (feed_of start l)) p ∙ e)), refused-otherwise xs o)

-- which is: exactly where they are cut off, or octets are left over, or a span
-- is bad, or a message is longer than 268
pub replay-judged : (xs : List ℕ) → AllOctets xs → (text (feed_of start xs) ≡ no_book) ↔ Faulty xs
replay-judged xs o =
    let n = no-book-exactly xs o in
    let f = faulty-exactly xs o in
    ((λ e. f.1 (n.0 e)), λ x. n.1 (f.0 x))
