-- The plan's messages read, and ask what is meant.
use Prim.Native.Nat.{ℕ, ◌+◌, ◌-◌, ◌*◌, ◌/◌, ◌%◌, ◌≤◌}
use mathlib.Core.Path.{◌≡◌, refl, sym, ◌∙◌, ap}
use mathlib.Core.Bool.{true, false}
use mathlib.Core.List.{List}
use native.Mathlib.Omega.{arith}
use borrow.Author.Tests.{lt-ltb, le-ltb, lt-leb, eq-eqb, ne_eqb}
use lib.Dec.{eqb, ltb, leb}
use lib.ListN.{length}
use Rattle.octets.specs.Answer.{accepted, ◌then◌}
use Rattle.parts.specs.declared.Span.{Span}
use Rattle.parts.specs.Spans.{span}
use Rattle.layout.specs.Container.{parts_of, container_of, variable_slot_lem, variable_at_lem, optional_slot_lem}
use Rattle.parts.specs.Overlap.{judged, shares_of, held}
use Rattle.isup.specs.declared.Message.{Message}
use Rattle.isup.specs.Table.{shape_of}
use Rattle.isup.specs.Read.{read_of}
use Rattle.isup.specs.Types.{BLO, CGB}
use Rattle.rows.specs.declared.Act.TheVariants.{Block, BlockGroup}
use Rattle.marks.specs.Marks.{marks_in_lem}
use Rattle.marks.proofs.Laws.{marks-most}
use Rattle.asks.specs.Asks.{width, group_status, one_ask, broken_group, asked_in, ask_of}
use Rattle.asks.proofs.Reading.{asked_by}
use Rattle.planning.specs.Planner.{blo, cgb, cgb_ask}

-- the circuit number comes back
circuit-back : (c : ℕ) → c ≤ 4095 → (c % 256) + 256 * ((c / 256) % 16) ≡ c
circuit-back c h = omega arith

-- what they read as
abbrev laid : ℕ → ℕ → ℕ → Span → Message
laid circuit kind fixed first =
    record {
      circuit = circuit;
      kind = kind;
      parts = record { fixed = span 3 fixed; first = first; second = span 0 0; third = span 0 0; optional = span 0 0 };
    }

-- BLO reads, and asks for its circuit
reads-blo : (c : ℕ) → read_of (blo c) ≡ accepted (laid ((c % 256) + 256 * ((c / 256) % 16)) BLO 3 (span 0 0))
unfolding read_of parts_of container_of variable_slot_lem optional_slot_lem judged shares_of held shape_of
reads-blo c = refl

reads_here : (c : ℕ) → c ≤ 4095 → read_of (blo c) ≡ accepted (laid c BLO 3 (span 0 0))
reads_here c h = reads-blo c ∙ ap (λ (k : ℕ). accepted (laid k BLO 3 (span 0 0))) (circuit-back c h)

pub asks-blo : (c : ℕ) → c ≤ 4095 → ask_of (blo c) ≡ accepted (one_ask Block c)
unfolding ask_of
asks-blo c h =
    ap (λ z. z then asked_in (blo c)) (reads_here c h)
    ∙ sym (asked_by (blo c) (laid c BLO 3 (span 0 0)) Block refl)
    ∙ rw (le-ltb 4095 (c + 0) (omega arith))

module _ (c kind r : ℕ) (status : List ℕ) (few : r ≤ 31) (e : length status ≡ width r) where
  -- CGB reads: its indicator at 3, range and status from 6 to the end
  reads-cgb : read_of (cgb c kind r status) ≡ accepted (laid ((c % 256) + 256 * ((c / 256) % 16)) CGB 4 (span 6 (5 + 1 + (1 + width r))))
  unfolding read_of parts_of container_of variable_slot_lem variable_at_lem optional_slot_lem judged shares_of held shape_of
  reads-cgb =
      let m = cgb c kind r status in
      let t1 : leb (length m) 2 ≡ false = lt-leb (length m) 2 (omega arith) in
      let t2 : ltb 268 (length m) ≡ false = le-ltb 268 (length m) (omega arith) in
      let t3 : ltb (length m) 5 ≡ false = le-ltb (length m) 5 (omega arith) in
      let t4 : leb (length m) 5 ≡ false = lt-leb (length m) 5 (omega arith) in
      let t5 : ltb (length m) (5 + 1 + (1 + width r)) ≡ false = le-ltb (length m) (5 + 1 + (1 + width r)) (omega arith) in
      let t6 : ltb 5 (5 + 1 + (1 + width r)) ≡ true = lt-ltb 5 (5 + 1 + (1 + width r)) (omega arith) in
      simp (t1, t2, t3, t4, t5, t6)

  -- its contents keep their rule: 32 marks at the most
  keeps-cgb : kind ≤ 1 → 1 ≤ r → broken_group (cgb c kind r status) kind (span 6 (5 + 1 + (1 + width r))) ≡ false
  unfolding broken_group
  keeps-cgb k l =
      let m = cgb c kind r status in
      let s = group_status m (span 6 (5 + 1 + (1 + width r))) in
      let b : kind % 4 ≡ kind = omega arith in
      let w : (5 + 1 + (1 + width r)) - 6 ≡ 1 + width r = omega arith in
      let t1 : ltb 1 kind ≡ false = le-ltb 1 kind k in
      let t2 : eqb (1 + width r) 0 ≡ false = ne_eqb (1 + width r) 0 (omega arith) in
      let t3 : eqb r 0 ≡ false = ne_eqb r 0 (omega arith) in
      let t4 : eqb (1 + width r) (1 + width r) ≡ true = eq-eqb (1 + width r) (1 + width r) refl in
      let t5 : ltb 32 (marks_in_lem r s) ≡ false = le-ltb 32 (marks_in_lem r s) (omega (arith, marks-most r s)) in
      simp (b, w, t1, t2, t3, t4, t5)

  -- and asks for its circuits
  pub asks-cgb : kind ≤ 1 → 1 ≤ r → c + r ≤ 4095 → ask_of (cgb c kind r status) ≡ accepted (cgb_ask c kind r)
  unfolding ask_of
  asks-cgb k l h =
      let m = cgb c kind r status in
      let x = laid c CGB 4 (span 6 (5 + 1 + (1 + width r))) in
      let b : kind % 4 ≡ kind = omega arith in
      ap (λ z. z then asked_in m) (reads-cgb ∙ ap (λ (k : ℕ). accepted (laid k CGB 4 (span 6 (5 + 1 + (1 + width r))))) (circuit-back c (omega arith)))
      ∙ sym (asked_by m x BlockGroup refl)
      ∙ rw (keeps-cgb k l, le-ltb 4095 (c + r) h, b)
