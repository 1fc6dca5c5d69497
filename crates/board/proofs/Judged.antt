-- A call with the totals lent is refused exactly when: the first fault in the paper's order.
use Prim.Native.Nat.{ℕ}
use mathlib.Core.Path.{◌≡◌, refl}
use mathlib.Core.Bool.{Bool, true, false}
use mathlib.Core.List.{List, ◌∷◌}
use mathlib.Core.Logic.{◌⊎◌, inl, inr, ⊎_elim}
use borrow.Author.Tests.{eqb-true, eqb-false}
use lib.Dec.{eqb}
use lib.ListN.{length}
use Rattle.octets.specs.Choice.{when◌then◌else◌}
use Rattle.octets.specs.Answer.{Answer, refused}
use Rattle.octets.specs.Faults.{Fault, Judges, fault}
use Rattle.octets.proofs.Faults.{judges-there, judges-first}
use Rattle.asks.specs.Asks.{ask_of}
use Rattle.rights.specs.Tables.{Tables}
use Rattle.hub.specs.Acts.{After, act_of}
use Rattle.hub.specs.Desk.{desk_of}
use Rattle.hub.specs.Deeds.{with_circuits}
use Rattle.hub.specs.declared.Handled.{Handled}
use Rattle.hub.proofs.Judged.{act-refuses-exactly, act-accepts-exactly}
use Rattle.hub.proofs.Desk.{desk-refuses-exactly, desk-accepts-exactly}
use Rattle.board.specs.Board.{board_after, totals_after, keeping, board_of, alone, desk_board_of}
use Rattle.board.specs.Faults.{WrongTotals, board_faults, desk_board_faults}

-- with the totals lent, 16 comes first also for them, and all else is as before
kept-judges : (states totals buffer : List ℕ) (named : Answer ℕ → Answer Handled) (r : After) {P : Type 0} {fs : List Fault} → Judges r.answer (fault 16 0 P ∷ fs) → Judges (keeping states totals buffer named r).answer (fault 16 0 (P ⊎ WrongTotals totals) ∷ fs)
kept-judges states totals buffer named r {P} {fs} j = go (eqb (length totals) 64) refl
  where
    go : (t : Bool) → eqb (length totals) 64 ≡ t → Judges (when t then board_after r.answer r.states (totals_after r.states (named r.answer) totals) r.buffer else board_after (refused 16 0) states totals buffer).answer (fault 16 0 (P ⊎ WrongTotals totals) ∷ fs)
    go true e = judges-first (λ p. inl p) (λ w. ⊎_elim (λ p. p) (λ n. absurd (n (eqb-true _ _ e))) w) j
    go false e = judges-there (fault 16 0 (P ⊎ WrongTotals totals)) fs 0 (refl, inr (eqb-false _ _ e)) (λ at h. h.0)

-- of a message: refused with the first of 16, the reader's, 17, 14, 18, 19, 22, 20, 21, 13 that is
-- there, and accepted exactly where there is none
pub board-judges : (T : Tables) (totals : List ℕ) (sender : ℕ) (m buffer : List ℕ) → Judges (board_of T totals sender m buffer).answer (board_faults T totals sender m (length buffer))
unfolding board_of
board-judges T totals sender m buffer =
    kept-judges T.states totals buffer (with_circuits (ask_of m)) (act_of T sender m buffer)
    (record { refuses = act-refuses-exactly T sender m buffer; accepts = act-accepts-exactly T sender m buffer })

-- of a desk call: refused with the first of 16, 9, 20, 13 that is there, and
-- accepted exactly where there is none
pub desk-board-judges : (states totals : List ℕ) (circuit : ℕ) (set : Bool) (buffer : List ℕ) → Judges (desk_board_of states totals circuit set buffer).answer (desk_board_faults states totals circuit (length buffer))
unfolding desk_board_of
desk-board-judges states totals circuit set buffer =
    kept-judges states totals buffer (alone circuit) (desk_of states circuit set buffer)
    (record { refuses = desk-refuses-exactly states circuit set buffer; accepts = desk-accepts-exactly states circuit set buffer })
