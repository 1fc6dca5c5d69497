-- What the four requests do to the totals.
use Prim.Native.Nat.{ℕ, ◌<◌, ◌≤◌}
use mathlib.Core.Path.{◌≡◌, refl, sym, ap}
use mathlib.Core.Bool.{Bool, true, false}
use mathlib.Core.List.{List}
use native.Mathlib.Omega.{arith}
use borrow.Author.Tests.{eqb-true, eqb-false}
use lib.Dec.{eqb}
use lib.ListN.{length, set}
use lib.Seq.{get_or-set_same, get_or-set_other}
use Rattle.octets.specs.Octet.{octet}
use Rattle.octets.specs.Choice.{when◌then◌else◌}
use Rattle.octets.specs.Answer.{refused}
use Rattle.octets.specs.Filled.{Done}
use Rattle.totals.specs.Blocks.{AllRight, rebuild_of}
use Rattle.totals.specs.Question.{busy_between_lem}
use Rattle.totals.proofs.Counting.{rebuild-done}
use Rattle.totals.proofs.Judged.{rebuild-right, rebuild-keeps}
use Rattle.words.specs.Said.{said}
use Rattle.fields.specs.Kinds.{FieldSays}
use Rattle.forms.specs.Rows.{BUSY, TOTALS, TOTAL, REBUILD}
use Rattle.requests.specs.Words.{number_at, octet_at_lem}
use Rattle.lines.specs.Lines.{shown, refusal}
use Rattle.busy_lines.specs.Busy.{busy_line, rebuild_line, busy_after, rebuilt, busy_done}

module _ (states totals : List ℕ) (gs : List FieldSays) where
  -- only total and rebuild change them: a question keeps them, and so does showing them
  pub others-keep-totals : (which : ℕ) → BUSY ≤ which → which ≤ REBUILD → (which ≡ TOTAL → ⊥) → (which ≡ REBUILD → ⊥) → (busy_done states totals which gs).totals ≡ totals
  unfolding busy_done
  others-keep-totals which l m t r = go (eqb which BUSY) (eqb which TOTALS) (eqb which TOTAL) refl refl refl
    where
      go : (a b c : Bool) → eqb which BUSY ≡ a → eqb which TOTALS ≡ b → eqb which TOTAL ≡ c
          → (when a then busy_after totals (busy_line (busy_between_lem states totals (number_at gs 0) (number_at gs 1)))
          else when b then busy_after totals (shown "totals " totals)
          else when c then busy_after (set totals (number_at gs 0) (octet_at_lem gs 1)) (said "ok")
          else rebuilt states totals).totals ≡ totals
      go true b c p q e = refl
      go false true c p q e = refl
      go false false true p q e = absurd (t (eqb-true which TOTAL e))
      go false false false p q e = let x = eqb-false which BUSY p in let y = eqb-false which TOTALS q in absurd (omega arith)

  -- one is overwritten
  pub total-there : number_at gs 0 < length totals → octet (busy_done states totals TOTAL gs).totals (number_at gs 0) ≡ octet_at_lem gs 1
  unfolding busy_done
  total-there h = get_or-set_same totals (number_at gs 0) (octet_at_lem gs 1) 0 h

  -- and every other stays
  pub total-elsewhere : (k : ℕ) → (k ≡ number_at gs 0 → ⊥) → octet (busy_done states totals TOTAL gs).totals k ≡ octet totals k
  unfolding busy_done
  total-elsewhere k h = get_or-set_other totals (number_at gs 0) k (octet_at_lem gs 1) 0 h

  -- with 4096 states and 64 totals a rebuild says ok, and every total is right
  pub rebuild-makes-right : length states ≡ 4096 → length totals ≡ 64 → ((busy_done states totals REBUILD gs).line ≡ said "ok") × AllRight states (busy_done states totals REBUILD gs).totals
  unfolding busy_done rebuild_line
  rebuild-makes-right s t =
      let e = ap (λ (d : Done ℕ). d.answer) (sym (rebuild-done states totals s t _ refl)) in
      (ap rebuild_line e, rebuild-right states totals 64 e)

  -- a refused one says its number, and keeps them
  pub rebuild-refused-keeps : (n at : ℕ) → (rebuild_of states totals).answer ≡ refused n at
      → ((busy_done states totals REBUILD gs).line ≡ refusal n) × ((busy_done states totals REBUILD gs).totals ≡ totals)
  unfolding busy_done rebuild_line
  rebuild-refused-keeps n at e = (ap rebuild_line e, rebuild-keeps states totals n at e)
