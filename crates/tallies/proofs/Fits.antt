-- A report has at most 16384 octets, whatever the tables hold.
use Prim.Native.Nat.{ℕ, zero, suc, ◌+◌, ◌*◌, ◌/◌, ◌%◌, ◌≤◌}
use mathlib.Core.Bool.{Bool, true, false}
use mathlib.Core.List.{[], ◌∷◌, ◌++◌, List}
use native.Mathlib.Omega.{arith}
use lib.Dec.{ltb, eqb}
use lib.ListN.{length, length-append, take}
use Rattle.octets.specs.Choice.{when◌then◌else◌}
use Rattle.words.specs.Said.{said}
use Rattle.printing.specs.Sheet.{sheet, pour}
use Rattle.lines.proofs.Pouring.{poured-front}
use Rattle.printing.specs.Shown.{decimal_in, decimal_of}
use Rattle.tallies.specs.declared.Tally.{Tally}
use Rattle.book.specs.declared.Place.{Place}
use Rattle.book.specs.Awaits.{is_done}
use Rattle.day.specs.Day.{Day, day_sized}
use Rattle.tallies.specs.Lines.{four_numbers, sender_line, all_line, line_of, lines_from, sums_from, lines_for}
use Rattle.tallies.specs.Reports.{tally_in_lem, text_of, no_book, report_of}
use mathlib.Core.Path.{◌≡◌}

length-decimal : (k n : ℕ) → length (decimal_in k n) ≤ k
unfolding decimal_in
length-decimal zero n = omega arith
length-decimal (suc k) n = go (ltb 9 n) (length-decimal k (n / 10))
  where
    go : (b : Bool) → length (decimal_in k (n / 10)) ≤ k → length ((when b then decimal_in k (n / 10) else []) ++ ((48 + n % 10) ∷ [])) ≤ suc k
    go true h = omega (arith, length-append (decimal_in k (n / 10)) ((48 + n % 10) ∷ []))
    go false h = omega arith

length-numbers : (t : Tally) → length (four_numbers t) ≤ 45
unfolding four_numbers
length-numbers t =
    let a = length-decimal 10 t.messages in
    let b = length-decimal 10 t.accepted in
    let c = length-decimal 10 t.refused in
    let d = length-decimal 10 t.busy in
    simp length-append (omega arith)

length-line : (q : ℕ) (t : Tally) → length (line_of q t) ≤ 55
length-line q t = go (eqb t.messages 0)
  where
    go : (b : Bool) → length (when b then [] else sender_line q t) ≤ 55
    go true = omega arith
    go false = omega (arith, length-append (decimal_of q) (four_numbers t), length-decimal 10 q, length-numbers t)

length-lines : (f : ℕ → Tally) (q n : ℕ) → length (lines_from f q n) ≤ 55 * n
unfolding lines_from
length-lines f q zero = omega arith
length-lines f q (suc n) = omega (arith, length-append (line_of q (f q)) (lines_from f (suc q) n), length-line q (f q), length-lines f (suc q) n)

length-for : (f : ℕ → Tally) → length (lines_for f) ≤ 16384
unfolding lines_for
length-for f = omega (arith, length-append (lines_from f 0 256) (all_line (sums_from f 0 256)), length-lines f 0 256, length-append (said "all") (four_numbers (sums_from f 0 256)), length-numbers (sums_from f 0 256))

length-refusal : length no_book ≤ 20
length-refusal = omega (arith, length-append (decimal_of 24) (10 ∷ []), length-decimal 10 24)

pub text-fits : (p : Place) (t : Day) → length (report_of p t) ≤ 16384
unfolding text_of
text-fits p t = go (day_sized t) (is_done p.awaits)
  where
    go : (b c : Bool) → length (when b then (when c then lines_for (tally_in_lem t) else no_book) else no_book) ≤ 16384
    go true true = length-for (tally_in_lem t)
    go true false = omega (arith, length-refusal)
    go false c = omega (arith, length-refusal)

-- so in a buffer of 16384 octets or more nothing of it is left out: the octets
-- that `report` counts are the text
pub report-whole : (p : Place) (t : Day) (out rest : List ℕ) (n : ℕ) → sheet rest n ≡ pour (sheet out 0) (report_of p t) → 16384 ≤ length out → take n rest ≡ report_of p t
report-whole p t out rest n e h = (poured-front out (report_of p t) rest n e (omega (arith, text-fits p t))).1
