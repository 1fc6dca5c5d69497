-- Any two answers that the contract of `report` allows are one, and the lent
-- buffer holds the same octets afterwards.
use Prim.Native.Nat.{ℕ}
use mathlib.Core.Path.{◌≡◌, refl}
use mathlib.Core.List.{List, [], ◌∷◌, ◌++◌}
use Rattle.octets.proofs.Answer.{one_answer}
use Rattle.words.specs.Said.{said}
use Rattle.printing.specs.Sheet.{sheet, pour}
use Rattle.printing.specs.Shown.{decimal_in}
use Rattle.printing.proofs.Pours.{sheet-one}
use Rattle.book.specs.declared.Place.{Place}
use Rattle.day.specs.Day.{Day}
use Rattle.tallies.specs.Reports.{no_book, report_of}

pub report-determined : (p : Place) (t : Day) (out : List ℕ) {left rest : List ℕ} {r q : ℕ} → sheet left r ≡ pour (sheet out 0) (report_of p t) → sheet rest q ≡ pour (sheet out 0) (report_of p t) → (left ≡ rest) × (r ≡ q)
report-determined p t out x y = sheet-one (one_answer x y)

-- the paper's words, alone on the line
pub no-book-said : no_book ≡ said "refused 24" ++ (10 ∷ [])
unfolding decimal_in
no-book-said = refl
