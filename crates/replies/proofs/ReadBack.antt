-- Every message of an answer reads, in the compact form: it carries the circuit, its type is the
-- one that answers, and it says its contents.
use Prim.Native.Nat.{ℕ, suc, ◌+◌, ◌/◌, ◌%◌, ◌≤◌, ◌<◌}
use mathlib.Core.Path.{◌≡◌, refl, sym, ◌∙◌, subst}
use mathlib.Core.Bool.{Bool, true, false}
use mathlib.Core.List.{List, [], ◌∷◌, ◌++◌, append-nil}
use native.Mathlib.Omega.{arith}
use native.Mathlib.Nat.{div-lt_iff_lt-mul}
use borrow.Author.Tests.{le-ltb}
use lib.Dec.{eqb}
use lib.ListN.{length}
use Rattle.std.specs.Prelude.{Some}
use Rattle.octets.specs.Answer.{accepted}
use Rattle.octets.specs.Octet.{octet}
use Rattle.octets.specs.Choice.{when◌then◌else◌}
use Rattle.octets.proofs.Tabulate.{length-tabulate}
use Rattle.isup.specs.Table.{shape_of}
use Rattle.runs.specs.Run.{step_at_lem, stops, stop_from, is_run_lem}
use Rattle.measuring.specs.Measure.{unfit_of}
use Rattle.writing.specs.Write.{pointers, ahead, variables, run_pointer, closed_run_lem, form_of, marks, exceeds, written_of}
use Rattle.isup.specs.Write.{write_in}
use Rattle.isup.proofs.WriteBack.{write-reads-back-in}
use Rattle.rows.specs.declared.Act.{Act}
use Rattle.rows.specs.declared.Act.TheVariants.{Seize, Release, Reset, Block, Unblock, ResetGroup, BlockGroup, UnblockGroup, Query}
use Rattle.isup.specs.Types.{RLC, BLO, UBL, BLA, UBA, CGBA, CGUA, GRA, CQR}
use Rattle.rows.specs.Rows.{local, circuit_state_lem}
use Rattle.marks.specs.Marks.{status_octet_lem, locked_octet_lem}
use Rattle.asks.specs.Asks.{width}
use Rattle.replies.specs.Replies.{headed, answer_to, notice_of, states_from}
use Rattle.replies.specs.Rules.{Saying, saying, messages_to, ReadsAs, ReadInTurn}

-- what the writer would write reads so
reads-written : (circuit type : ℕ) (fixed first second octets : List ℕ) → write_in circuit type fixed first second [] ≡ accepted (length octets, octets) → ReadsAs octets circuit (saying type fixed first second)
reads-written circuit type fixed first second octets e =
    (write-reads-back-in circuit type fixed first second [] (length octets) octets e).1

module _ (circuit : ℕ) (low : circuit ≤ 4095) where
  -- a circuit and a type alone
  plain-formed : (t : ℕ) → t ≤ 255 → shape_of t ≡ Some (record { fixed = 0; vars = 0; opt = false }) → ReadsAs ((circuit % 256) ∷ (circuit / 256) ∷ t ∷ []) circuit (saying t [] [] [])
  unfolding write_in written_of unfit_of is_run_lem stop_from stops step_at_lem marks exceeds form_of pointers ahead variables run_pointer closed_run_lem
  plain-formed t k h = reads-written circuit t [] [] [] _ (rw (le-ltb _ _ low, le-ltb _ _ k, h) refl)

  -- an optional part that is not there
  optional-formed : (t : ℕ) → t ≤ 255 → shape_of t ≡ Some (record { fixed = 0; vars = 0; opt = true }) → ReadsAs ((circuit % 256) ∷ (circuit / 256) ∷ t ∷ 0 ∷ []) circuit (saying t [] [] [])
  unfolding write_in written_of unfit_of is_run_lem stop_from stops step_at_lem marks exceeds form_of pointers ahead variables run_pointer closed_run_lem
  optional-formed t k h = reads-written circuit t [] [] [] _ (rw (le-ltb _ _ low, le-ltb _ _ k, h) refl)

  -- range and status as the one variable part
  status-formed : (t r : ℕ) (status : List ℕ) → t ≤ 255 → shape_of t ≡ Some (record { fixed = 0; vars = 1; opt = false }) → length status ≡ width r → width r ≤ 32
      → ReadsAs ((circuit % 256) ∷ (circuit / 256) ∷ t ∷ 1 ∷ (1 + width r) ∷ r ∷ status) circuit (saying t [] (r ∷ status) [])
  unfolding write_in written_of unfit_of is_run_lem stop_from stops step_at_lem marks exceeds form_of pointers ahead variables run_pointer closed_run_lem
  status-formed t r status k h e few =
      let a : suc (length status) ≤ 255 = omega arith in
      let b : suc (suc (suc (suc (suc (suc (length status)))))) ≤ 268 = omega arith in
      let n : suc (length status) ≡ 1 + width r = omega arith in
      let q : (status ++ []) ++ [] ≡ status = append-nil (status ++ []) ∙ append-nil status in
      subst (λ (c : ℕ). ReadsAs ((circuit % 256) ∷ (circuit / 256) ∷ t ∷ 1 ∷ c ∷ r ∷ status) circuit (saying t [] (r ∷ status) [])) n
      (reads-written circuit t [] (r ∷ status) [] _ (rw (le-ltb _ _ low, le-ltb _ _ k, h) (simp (le-ltb _ _ a) (rw q (simp (le-ltb _ _ b))))))

  -- the same after an indicator
  group-formed : (t i r : ℕ) (status : List ℕ) → t ≤ 255 → shape_of t ≡ Some (record { fixed = 1; vars = 1; opt = false }) → length status ≡ width r → width r ≤ 32
      → ReadsAs ((circuit % 256) ∷ (circuit / 256) ∷ t ∷ i ∷ 1 ∷ (1 + width r) ∷ r ∷ status) circuit (saying t (i ∷ []) (r ∷ status) [])
  unfolding write_in written_of unfit_of is_run_lem stop_from stops step_at_lem marks exceeds form_of pointers ahead variables run_pointer closed_run_lem
  group-formed t i r status k h e few =
      let a : suc (length status) ≤ 255 = omega arith in
      let b : suc (suc (suc (suc (suc (suc (suc (length status))))))) ≤ 268 = omega arith in
      let n : suc (length status) ≡ 1 + width r = omega arith in
      let q : (status ++ []) ++ [] ≡ status = append-nil (status ++ []) ∙ append-nil status in
      subst (λ (c : ℕ). ReadsAs ((circuit % 256) ∷ (circuit / 256) ∷ t ∷ i ∷ 1 ∷ c ∷ r ∷ status) circuit (saying t (i ∷ []) (r ∷ status) [])) n
      (reads-written circuit t (i ∷ []) (r ∷ status) [] _ (rw (le-ltb _ _ low, le-ltb _ _ k, h) (simp (le-ltb _ _ a) (rw q (simp (le-ltb _ _ b))))))

  -- range and circuit states as the two variable parts
  states-formed : (t r c : ℕ) (states : List ℕ) → t ≤ 255 → shape_of t ≡ Some (record { fixed = 0; vars = 2; opt = false }) → c ≡ length states → length states ≤ 255
      → ReadsAs ((circuit % 256) ∷ (circuit / 256) ∷ t ∷ 2 ∷ 3 ∷ 1 ∷ r ∷ c ∷ states) circuit (saying t [] (r ∷ []) states)
  unfolding write_in written_of unfit_of is_run_lem stop_from stops step_at_lem marks exceeds form_of pointers ahead variables run_pointer closed_run_lem
  states-formed t r c states k h e few =
      let b : suc (suc (suc (suc (suc (suc (suc (suc (length states)))))))) ≤ 268 = omega arith in
      let q : (states ++ []) ++ [] ≡ states = append-nil (states ++ []) ∙ append-nil states in
      rw e
      (reads-written circuit t [] (r ∷ []) states _ (rw (le-ltb _ _ low, le-ltb _ _ k, h) (simp (le-ltb _ _ few) (rw q (simp (le-ltb _ _ b))))))

-- the range is an octet, so its status has 32 octets at the most
few : (range : ℕ) → range ≤ 255 → width range ≤ 32
few range h = let k : range / 8 < 32 = (div-lt_iff_lt-mul {k = 8} {y = 32} (omega arith)).1 (omega arith) in omega arith

-- one message, and nothing after it
alone : (octets : List ℕ) (circuit : ℕ) (s : Saying) → ReadsAs octets circuit s → ReadInTurn octets circuit (s ∷ [])
alone octets circuit s r = (octets, [], sym (append-nil octets), r, refl)

-- what answers RSC: RLC, or BLO and then RLC
completion-reads : (circuit : ℕ) → circuit ≤ 4095 → (b : Bool)
    → ReadInTurn (when b then headed circuit BLO (headed circuit RLC (0 ∷ [])) else headed circuit RLC (0 ∷ [])) circuit
    (when b then saying BLO [] [] [] ∷ saying RLC [] [] [] ∷ [] else saying RLC [] [] [] ∷ [])
unfolding shape_of
completion-reads circuit low true = (
  headed circuit BLO [],
  headed circuit RLC (0 ∷ []),
  refl,
  plain-formed circuit low BLO (omega arith) refl,
  alone _ circuit _ (optional-formed circuit low RLC (omega arith) refl),
)
completion-reads circuit low false = alone _ circuit _ (optional-formed circuit low RLC (omega arith) refl)

-- every message of an answer reads, with the circuit, its type and its contents, and is in the
-- compact form; there are no other octets
pub answer-reads : (act : Act) (circuit range block : ℕ) (group status : List ℕ) → circuit ≤ 4095 → range ≤ 255 → (act ≡ Query → range ≤ 31)
    → ReadInTurn (answer_to act circuit range block group status) circuit (messages_to act range block group status)
unfolding shape_of
answer-reads Seize circuit range block group status low h k = refl
answer-reads Release circuit range block group status low h k = alone _ circuit _ (optional-formed circuit low RLC (omega arith) refl)
answer-reads Reset circuit range block group status low h k = completion-reads circuit low (eqb (local (octet group 0)) 1)
answer-reads Block circuit range block group status low h k = alone _ circuit _ (plain-formed circuit low BLA (omega arith) refl)
answer-reads Unblock circuit range block group status low h k = alone _ circuit _ (plain-formed circuit low UBA (omega arith) refl)
answer-reads ResetGroup circuit range block group status low h k = alone _ circuit _ (status-formed circuit low GRA range _ (omega arith) refl (length-tabulate (locked_octet_lem range group) 0 (width range)) (few range h))
answer-reads BlockGroup circuit range block group status low h k = alone _ circuit _ (group-formed circuit low CGBA block range _ (omega arith) refl (length-tabulate (status_octet_lem range status) 0 (width range)) (few range h))
answer-reads UnblockGroup circuit range block group status low h k = alone _ circuit _ (group-formed circuit low CGUA block range _ (omega arith) refl (length-tabulate (status_octet_lem range status) 0 (width range)) (few range h))
answer-reads Query circuit range block group status low h k =
    let l = length-tabulate (λ i. circuit_state_lem (octet group i)) 0 (range + 1) in
    let s : range ≤ 31 = k refl in
    alone _ circuit _ (states-formed circuit low CQR range ((range + 1) % 256) (states_from group 0 (range + 1)) (omega arith) refl (omega arith) (omega arith))

-- what the desk has to send reads as BLO, or UBL, in the compact form, with that circuit
pub notice-reads : (circuit : ℕ) (set : Bool) → circuit ≤ 4095 → ReadsAs (notice_of circuit set) circuit (saying (when set then BLO else UBL) [] [] [])
unfolding shape_of
notice-reads circuit true low = plain-formed circuit low BLO (omega arith) refl
notice-reads circuit false low = plain-formed circuit low UBL (omega arith) refl
