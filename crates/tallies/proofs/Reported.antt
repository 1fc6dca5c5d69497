-- What the functions of the report come to, for their proofs.
use Prim.Native.Nat.{ℕ, zero, suc, ◌+◌, ◌%◌, ◌≤◌}
use mathlib.Core.Path.{◌≡◌, refl, sym, ◌∙◌, ap}
use mathlib.Core.Bool.{Bool, true, false}
use mathlib.Core.List.{List, [], ◌∷◌, ◌++◌}
use native.Mathlib.Omega.{arith}
use native.Mathlib.Nat.{add-zero, zero-add}
use borrow.Author.Tests.{eq-eqb, ne_eqb}
use lib.Dec.{eqb}
use lib.ListN.{length, drop, drop_of_length-le}
use lib.Seq.{drop-cons}
use Rattle.std.specs.List.{zip, sum_by}
use Rattle.std.proofs.lemmas.List.Sums.{sum_by-cons}
use Rattle.octets.specs.Octet.{octet}
use Rattle.octets.specs.Choice.{when◌then◌else◌}
use Rattle.words.specs.Said.{said}
use Rattle.printing.specs.Sheet.{Sheet, put, pour}
use Rattle.printing.proofs.Pours.{pour-append, pour-one}
use Rattle.tallies.specs.declared.Tally.{Tally}
use Rattle.book.specs.declared.Place.{Place}
use Rattle.book.specs.Awaits.{is_done}
use Rattle.day.specs.Hub.{Rows}
use Rattle.day.specs.Day.{Day, day_sized}
use Rattle.tallies.specs.Lines.{tally, added, four_numbers, sender_line, line_of, shown_of, lines_from, sums_from, all_line, lines_for}
use Rattle.tallies.specs.Reports.{busy_of_lem, tally_in_lem, text_of, no_book, report_of}
use Rattle.lines.proofs.Pouring.{and_then}

-- ---- a choice
pub if-true : {A : Type 0} {t : Bool} (x y : A) → t ≡ true → (when t then x else y) ≡ x
if-true x y e = ap (λ (b : Bool). when b then x else y) e

pub if-false : {A : Type 0} {t : Bool} (x y : A) → t ≡ false → (when t then x else y) ≡ y
if-false x y e = ap (λ (b : Bool). when b then x else y) e

pub then-put : (s : Sheet) {u v : Sheet} (a : List ℕ) (c : ℕ) → u ≡ pour s a → v ≡ put u c → v ≡ pour s (a ++ (c ∷ []))
then-put s {u} a c p q = and_then s a (c ∷ []) p (q ∙ pour-one u c)

-- ---- busy circuits
-- those of an owner and a row
abbrev pub busy-pair : ℕ → ℕ × ℕ → ℕ
busy-pair q p = when eqb p.0 q then p.1 % 2 else 0

pub busy-summed : (owners : List ℕ) (rows : Rows) (q c n : ℕ) → c + n ≡ length owners → c + n ≡ length rows → sum_by (busy-pair q) (zip (drop c owners) (drop c rows)) ≡ busy_of_lem owners rows q c n
unfolding busy_of_lem
busy-summed owners rows q c zero h k = ap (λ (l : List ℕ). sum_by (busy-pair q) (zip l (drop c rows))) (drop_of_length-le owners (omega (arith, h)))
busy-summed owners rows q c (suc n) h k =
    (λ i. sum_by (busy-pair q) (zip (drop-cons owners c 0 (omega (arith, h)) i) (drop-cons rows c 0 (omega (arith, k)) i)))
    ∙ sum_by-cons (busy-pair q) (octet owners c, octet rows c) (zip (drop (suc c) owners) (drop (suc c) rows))
    ∙ ap (λ (m : ℕ). busy-pair q (octet owners c, octet rows c) + m) (busy-summed owners rows q (suc c) n (omega (arith, h)) (omega (arith, k)))

pub busy-most : (owners : List ℕ) (rows : Rows) (q c n : ℕ) → busy_of_lem owners rows q c n ≤ n
unfolding busy_of_lem
busy-most owners rows q c zero = omega arith
busy-most owners rows q c (suc n) = go (eqb (octet owners c) q) (busy-most owners rows q (suc c) n)
  where
    go : (b : Bool) {m : ℕ} → m ≤ n → (when b then octet rows c % 2 else 0) + m ≤ suc n
    go true e = omega (arith, e)
    go false e = omega (arith, e)

-- ---- a sender's line
pub line-none : (s : Sheet) (q : ℕ) (t : Tally) → t.messages ≡ 0 → s ≡ pour s (line_of q t)
unfolding pour
line-none s q t e = rw (eq-eqb t.messages 0 e)

pub line-some : (s : Sheet) {u : Sheet} (q : ℕ) (t : Tally) → (t.messages ≡ 0 → ⊥) → u ≡ pour s (sender_line q t) → u ≡ pour s (line_of q t)
line-some s q t e p = rw (ne_eqb t.messages 0 e) p

-- ---- the sums
pub shown-none : (s t : Tally) → t.messages ≡ 0 → s ≡ added s (shown_of t)
shown-none s t e =
    let z = add-zero in
    rw (eq-eqb t.messages 0 e) (λ i. tally (sym (z s.messages) i) (sym (z s.accepted) i) (sym (z s.refused) i) (sym (z s.busy) i))

pub shown-some : (s t : Tally) → (t.messages ≡ 0 → ⊥) → added s t ≡ added s (shown_of t)
shown-some s t e = rw (ne_eqb t.messages 0 e)

-- numbers that are 0 where there is no line have the same line, and add the same
pub shown-line : (q : ℕ) (t : Tally) → line_of q (shown_of t) ≡ line_of q t
shown-line q t = go (eqb t.messages 0) refl
  where
    go : (b : Bool) → eqb t.messages 0 ≡ b → line_of q (shown_of t) ≡ line_of q t
    go true e = rw e
    go false e = rw (e, e)

pub shown-shown : (t : Tally) → shown_of (shown_of t) ≡ shown_of t
shown-shown t = go (eqb t.messages 0) refl
  where
    go : (b : Bool) → eqb t.messages 0 ≡ b → shown_of (shown_of t) ≡ shown_of t
    go true e = rw e
    go false e = rw (e, e)

pub tally-none : (t : Day) (q : ℕ) {a r : ℕ} → a ≡ octet t.accepted q → r ≡ octet t.refused q → a + r ≡ 0 → tally 0 0 0 0 ≡ shown_of (tally_in_lem t q)
tally-none t q p s e = rw (eq-eqb (octet t.accepted q + octet t.refused q) 0 (omega arith))

pub tally-some : (t : Day) (q : ℕ) {a r b : ℕ} → a ≡ octet t.accepted q → r ≡ octet t.refused q → (a + r ≡ 0 → ⊥) → b ≡ busy_of_lem t.owners t.rows q 0 4096 → tally (a + r) a r b ≡ shown_of (tally_in_lem t q)
tally-some t q p s n e =
    rw (ne_eqb (octet t.accepted q + octet t.refused q) 0 (λ z. n (omega arith))) (λ i. tally (p i + s i) (p i) (s i) (e i))

-- ---- the lines
module _ (f : ℕ → Tally) where
  pub lines_more : (s : Sheet) {u : Sheet} (q n d m : ℕ) → n ≡ suc m → d ≡ suc q → u ≡ pour s (line_of q (f q)) → pour u (lines_from f d m) ≡ pour s (lines_from f q n)
  unfolding lines_from
  lines_more s q n d m e p h = rw (e, p, h, pour-append s (line_of q (f q)))

  pub lines-done : (s : Sheet) (q n : ℕ) → n ≡ 0 → pour s (lines_from f q n) ≡ s
  unfolding lines_from pour
  lines-done s q n e = rw e

  added-assoc : (a b c : Tally) → added (added a b) c ≡ added a (added b c)
  added-assoc a b c =
      let p : a.messages + b.messages + c.messages ≡ a.messages + (b.messages + c.messages) = omega arith in
      let q : a.accepted + b.accepted + c.accepted ≡ a.accepted + (b.accepted + c.accepted) = omega arith in
      let r : a.refused + b.refused + c.refused ≡ a.refused + (b.refused + c.refused) = omega arith in
      let s : a.busy + b.busy + c.busy ≡ a.busy + (b.busy + c.busy) = omega arith in
      λ i. tally (p i) (q i) (r i) (s i)

  pub sums-more : (s : Tally) {u : Tally} (q n d m : ℕ) → n ≡ suc m → d ≡ suc q → u ≡ added s (shown_of (f q)) → added u (sums_from f d m) ≡ added s (sums_from f q n)
  unfolding sums_from
  sums-more s q n d m e p h = rw (e, p, h) (added-assoc s (shown_of (f q)) (sums_from f (suc q) m))

  pub sums-done : (s : Tally) (q n : ℕ) → n ≡ 0 → added s (sums_from f q n) ≡ s
  unfolding sums_from
  sums-done s q n e =
      let z = add-zero in
      rw e (λ i. tally (z s.messages i) (z s.accepted i) (z s.refused i) (z s.busy i))

  pub sums-begin : added (tally 0 0 0 0) (sums_from f 0 256) ≡ sums_from f 0 256
  sums-begin = let z = zero-add in λ i. tally (z (sums_from f 0 256).messages i) (z (sums_from f 0 256).accepted i) (z (sums_from f 0 256).refused i) (z (sums_from f 0 256).busy i)

pub lines-all : (f : ℕ → Tally) (s : Sheet) {u v w : Sheet} (sums : Tally) → u ≡ pour s (lines_from f 0 256) → v ≡ pour u (said "all") → w ≡ pour v (four_numbers sums) → sums ≡ sums_from f 0 256 → w ≡ pour s (lines_for f)
unfolding lines_for
lines-all f s {u} sums p q r e =
    and_then s (lines_from f 0 256) (all_line sums) p (and_then u (said "all") (four_numbers sums) q r)
    ∙ ap (λ (t : Tally). pour s (lines_from f 0 256 ++ all_line t)) e

-- ---- the report
pub report-lines : (p : Place) (t : Day) → day_sized t ≡ true → is_done p.awaits ≡ true → lines_for (tally_in_lem t) ≡ report_of p t
unfolding text_of
report-lines p t e d = λ i. when sym e i then (when sym d i then lines_for (tally_in_lem t) else no_book) else no_book

pub report-unsized : (p : Place) (t : Day) → day_sized t ≡ false → no_book ≡ report_of p t
report-unsized p t e = λ i. when sym e i then text_of p.awaits t else no_book

pub report-undone : (p : Place) (t : Day) → day_sized t ≡ true → is_done p.awaits ≡ false → no_book ≡ report_of p t
unfolding text_of
report-undone p t e d = λ i. when sym e i then (when sym d i then lines_for (tally_in_lem t) else no_book) else no_book
