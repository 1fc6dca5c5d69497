use Rattle.std.specs.Prelude.{Option}
use Prim.Native.Nat.{ℕ, ◌+◌}
use mathlib.Core.Path.{refl, sym, ◌∙◌, ap}
use mathlib.Core.List.{[], ◌∷◌, ◌++◌}
use native.Mathlib.Omega.{arith}
use lib.Seq.{set-get_or}
use Rattle.words.specs.Into.{entry}
use Rattle.words.proofs.Bounds.{word-within}
use Rattle.fields.specs.Placed.{no_field}
use Rattle.forms.specs.Inside.{kinds_in}
use Rattle.requests.specs.declared.Request.{Request}
use Rattle.requests.specs.Along.{fields_of, taken}
use Rattle.requests.proofs.Steps.{letters-none, letters-out, started, finished, left_over, lacking, breaking, reading, stored}
use Rattle.taking.proofs.fields_in.Goals as goal

pub loop-slot-init : goal.loop-slot-init
loop-slot-init c = (omega arith, [], refl, rw c.nowhere-fields.ensures refl, started c.args.row.which (fields_of (kinds_in 8 c.args.row.letters) 0 c.args.line.now c.args.end c.args.scratch.now 0))

pub returns-then-at-line : goal.returns-then-at-line
returns-then-at-line c =
    let a = c.args in
    let l = c.loop-slot in
    finished a.line.now l.letters a.row.which l.slot-index l.before l.at l.scratch l.next l.invariant.1 _ l.invariant.4 _ l.invariant.2 (set-get_or l.slot-items l.slot-index no_field ∙ l.invariant.3) (letters-none _ _ c.if-letters-eq0.true) c.if-at-line.true

pub returns-then-letters-eq0 : goal.returns-then-letters-eq0
returns-then-letters-eq0 c =
    let a = c.args in
    let l = c.loop-slot in
    ap (λ (r : Request). taken r l.scratch) c.none.ensures ∙ left_over a.line.now l.letters a.row.which l.slot-index l.before l.at l.scratch l.next l.invariant.1 _ l.invariant.4 (letters-none _ _ c.if-letters-eq0.true) c.if-at-line.false

pub returns-then-line-at : goal.returns-then-line-at
returns-then-line-at c =
    let a = c.args in
    let l = c.loop-slot in
    ap (λ (r : Request). taken r l.scratch) c.none-then-line-at.ensures ∙ lacking a.line.now l.letters a.row.which l.slot-index l.before l.at l.scratch l.next l.invariant.1 _ l.invariant.4 (omega arith) c.if-letters-eq0.false c.if-line-at.true

pub slice_bounds-value_of-end : goal.slice_bounds-value_of-end
slice_bounds-value_of-end c = omega (arith, c.word_end-to.ensures, word-within c.args.line.now (c.loop-slot.at + 1) (omega arith))

pub overflow_add-next : goal.overflow_add-next
overflow_add-next c = omega (arith, c.loop-slot.invariant.0, c.field_of-field.ensures.1)

pub returns-in-None : goal.returns-in-None
returns-in-None c =
    let a = c.args in
    let l = c.loop-slot in
    let v = c.value_of in
    ap (λ (r : Request). taken r v.new.scratch) c.none-in-None.ensures
    ∙ breaking a.line.now l.letters a.row.which l.slot-index l.before l.at l.scratch l.next l.invariant.1 _ l.invariant.4 (omega arith) c.if-letters-eq0.false c.if-line-at.false _ c.word_end-to.ensures _ (ap (λ (n : Option ℕ). entry n v.new.scratch) (sym c.in-None.is) ∙ v.ensures)

pub loop-slot-preserved : goal.loop-slot-preserved
loop-slot-preserved c =
    let a = c.args in
    let l = c.loop-slot in
    let v = c.value_of in
    let f = c.field_of-field in
    let s = stored l.invariant.1 l.slot-items l.slot-index f.result (omega arith) l.invariant.2 l.invariant.3 in (
      omega (arith, l.invariant.0, f.ensures.1),
      l.invariant.1 ++ (f.result ∷ []),
      s.0,
      s.1,
      reading a.line.now l.letters a.row.which l.slot-index l.before l.at l.scratch l.next l.invariant.1 _ l.invariant.4 (omega arith) c.if-letters-eq0.false c.if-line-at.false _ c.word_end-to.ensures _ _ (ap (λ (n : Option ℕ). entry n v.new.scratch) (sym c.in-Some.is) ∙ v.ensures) f.result f.ensures.0,
    )

pub returns-then-at-line-2 : goal.returns-then-at-line-2
returns-then-at-line-2 c =
    let a = c.args in
    let l = c.loop-slot in
    finished a.line.now l.letters a.row.which l.slot-index l.before l.at l.scratch l.next l.invariant.1 _ l.invariant.4 l.slot-items l.invariant.2 l.invariant.3 (letters-out _ _ (omega arith)) c.if-at-line-2.true

pub returns : goal.returns
returns c =
    let a = c.args in
    let l = c.loop-slot in
    ap (λ (r : Request). taken r l.scratch) c.none-2.ensures ∙ left_over a.line.now l.letters a.row.which l.slot-index l.before l.at l.scratch l.next l.invariant.1 _ l.invariant.4 (letters-out _ _ (omega arith)) c.if-at-line-2.false
