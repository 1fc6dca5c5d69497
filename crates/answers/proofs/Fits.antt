-- No answer's line is long: the desk's buffer has room for each, so nothing of it is left out.
use Prim.Native.Nat.{ℕ, ◌≤◌, ◌<◌}
use mathlib.Core.Path.{◌≡◌, refl, sym, ◌∙◌, ap}
use mathlib.Core.Bool.{Bool, true, false}
use mathlib.Core.List.{List, [], ◌∷◌, ◌++◌}
use native.Mathlib.Omega.{arith}
use borrow.Author.Tests.{le-ltb, eqb-true, ne_eqb}
use lib.Dec.{eqb}
use lib.ListN.{length, take, length-append}
use Rattle.octets.specs.Choice.{when◌then◌else◌}
use Rattle.printing.specs.Sheet.{sheet, pour}
use Rattle.printing.proofs.Pours.{pour-one, pour-append}
use Rattle.forms.specs.Rows.{TICK, CHECK}
use Rattle.requests.specs.Words.{Asked, asks, nothing, asked_of}
use Rattle.requests.proofs.Sound.{Short, short}
use Rattle.lines.specs.Lines.{refusal}
use Rattle.lines.proofs.Pouring.{poured-front}
use Rattle.turns.specs.Turns.{Desk, DeskTurn, desk_turn, DeskLeft, desk_left, desk_left_by}
use Rattle.turns.proofs.Fits.{ShortAll, counted-length, row_fits}
use Rattle.answers.specs.Answers.{turn_for, turn_of, turn_in, with_line_end}
use Rattle.answers.proofs.Determined.{AnswersLine}

module _ (D : Desk) (k : length D.held.tables.states ≤ 4096) (w : length D.held.totals ≤ 4096) where
  -- whatever is asked
  asked-fits : (a : Asked) → Short a → length (turn_for D a).line ≤ 80000
  asked-fits (asks which gs) h = row_fits D k w which gs others
    where
      others : which < TICK → ShortAll gs
      others e i = let z : eqb which CHECK ≡ false = ne_eqb which CHECK (λ q. omega (arith, e)) in rw z at (h i)
  asked-fits nothing h = omega arith

-- of every line
pub answer-fits : (line : List ℕ) (D : Desk) → length (turn_of line D).line ≤ 80000
unfolding turn_of
answer-fits line D = go (eqb states 4096) (eqb (length D.held.tables.owners) 4096) (eqb (length D.held.tables.helpers) 4096) (eqb totals 64) (eqb (length D.ticks) 4096) refl refl
  where
    states : ℕ
    states = length D.held.tables.states

    totals : ℕ
    totals = length D.held.totals

    go : (s o h t u : Bool) → eqb states 4096 ≡ s → eqb totals 64 ≡ t
        → length (when (when s then (when o then (when h then (when t then u else false) else false) else false) else false) then turn_for D (asked_of line) else desk_turn D (refusal 16)).line ≤ 80000
    go true true true true true e f = asked-fits D (omega (arith, eqb-true states 4096 e)) (omega (arith, eqb-true totals 64 f)) (asked_of line) (short line)
    go true true true true false e f = omega (arith, counted-length "refused " 16)
    go true true true false u e f = omega (arith, counted-length "refused " 16)
    go true true false t u e f = omega (arith, counted-length "refused " 16)
    go true false h t u e f = omega (arith, counted-length "refused " 16)
    go false o h t u e f = omega (arith, counted-length "refused " 16)

-- so with 41032 octets of scratch a buffer of 81920 octets holds the whole
-- line with its LF, at its front
pub answer-whole : (scratch : ℕ) (line : List ℕ) (D : Desk) (buffer : List ℕ) (E : Desk) (b : List ℕ) (n : ℕ) → 41032 ≤ scratch → length buffer ≡ 81920 → AnswersLine scratch line D buffer E b n → (E ≡ (turn_of line D).desk) × (take n b ≡ (turn_of line D).line ++ (10 ∷ []))
answer-whole scratch line D buffer E b n k h e =
    let t = turn_of line D in
    let same : turn_in scratch line D ≡ t = rw (le-ltb _ _ k) refl in
    let e' : desk_left E (sheet b n) ≡ with_line_end (desk_left_by t (sheet buffer 0)) = e ∙ ap (λ (x : DeskTurn). with_line_end (desk_left_by x (sheet buffer 0))) same in
    let poured : sheet b n ≡ pour (sheet buffer 0) (t.line ++ (10 ∷ [])) = ap (λ (l : DeskLeft). l.sheet) e' ∙ pour-one (pour (sheet buffer 0) t.line) 10 ∙ sym (pour-append (sheet buffer 0) t.line (10 ∷ [])) in
    (ap (λ (l : DeskLeft). l.desk) e', (poured-front buffer (t.line ++ (10 ∷ [])) b n poured (omega (arith, answer-fits line D, length-append t.line (10 ∷ [])))).1)
