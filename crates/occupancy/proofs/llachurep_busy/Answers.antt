use Rattle.octets.specs.Told.{told}
use mathlib.Core.Path.{sym, ◌∙◌, ap}
use native.Mathlib.Omega.{arith}
use Rattle.totals.proofs.Judged.{busy-looked, busy-small}
use Rattle.occupancy.proofs.llachurep_busy.Goals as goal

pub overflow_mul-result-in-Ok : goal.overflow_mul-result-in-Ok
overflow_mul-result-in-Ok c =
    let s = c.args in
    omega (arith, busy-looked s.states.now s.totals.now s.first s.last _ (sym c.busy_between.ensures ∙ ap told c.in-Ok.is))

pub overflow_add-result : goal.overflow_add-result
overflow_add-result c =
    let s = c.args in
    let e = sym c.busy_between.ensures ∙ ap told c.in-Ok.is in
    omega (arith, busy-looked s.states.now s.totals.now s.first s.last _ e, busy-small s.states.now s.totals.now s.first s.last _ e (λ i. (c.type_inv.totals i).fits))
