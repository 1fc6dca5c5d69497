use Rattle.octets.proofs.Told.{handed_on}
use mathlib.Core.Bool.{not}
use mathlib.Core.Path.{sym, ◌∙◌, ap}
use Rattle.writing.specs.Write.{order}
use Rattle.writing.proofs.Outcome.{no_run, a-run, ten, eleven, unmeasured, thirteen, storable, wrote}
use Rattle.filling.proofs.write_parts.Goals as goal

pub returns-then-unfit : goal.returns-then-unfit
returns-then-unfit c = let a = c.args in
    let o = order a.head.now a.kind a.fixed.now a.first.now a.second.now a.third.now a.run.now in
    ten a.shape a.most o a.out.now (sym c.unfit.ensures ∙ c.if-unfit.true)

pub returns-then-not-is_run : goal.returns-then-not-is_run
returns-then-not-is_run c = let a = c.args in
    let o = order a.head.now a.kind a.fixed.now a.first.now a.second.now a.third.now a.run.now in
    eleven a.shape a.most o a.out.now (sym c.unfit.ensures ∙ c.if-unfit.false) (no_run _ c.is_run.ensures (ap not c.if-not-is_run.true))

pub returns-then-out-size : goal.returns-then-out-size
returns-then-out-size c = let a = c.args in
    let o = order a.head.now a.kind a.fixed.now a.first.now a.second.now a.third.now a.run.now in
    thirteen a.shape a.most o a.out.now (sym c.unfit.ensures ∙ c.if-unfit.false) (a-run _ c.is_run.ensures (ap not c.if-not-is_run.false)) _ c.in_ok-frame.ensures c.if-out-size.true

pub store-requires : goal.store-requires
store-requires c = let a = c.args in
    let o = order a.head.now a.kind a.fixed.now a.first.now a.second.now a.third.now a.run.now in
    storable a.shape a.most o a.out.now (sym c.unfit.ensures ∙ c.if-unfit.false) (a-run _ c.is_run.ensures (ap not c.if-not-is_run.false)) _ c.in_ok-frame.ensures c.if-out-size.false

pub returns-in_err-frame : goal.returns-in_err-frame
returns-in_err-frame c = let a = c.args in
    let o = order a.head.now a.kind a.fixed.now a.first.now a.second.now a.third.now a.run.now in
    rw (handed_on _ _ c.from_residual.ensures.1) (unmeasured a.shape a.most o a.out.now (sym c.unfit.ensures ∙ c.if-unfit.false) (a-run _ c.is_run.ensures (ap not c.if-not-is_run.false)) _ _ c.in_err-frame.ensures)

pub returns : goal.returns
returns c = let a = c.args in
    let o = order a.head.now a.kind a.fixed.now a.first.now a.second.now a.third.now a.run.now in
    wrote a.shape a.most o a.out.now (sym c.unfit.ensures ∙ c.if-unfit.false) (a-run _ c.is_run.ensures (ap not c.if-not-is_run.false)) _ c.in_ok-frame.ensures _ c.if-out-size.false c.store.ensures
