use borrow.Author.Tests.{eq-eqb, ne_eqb}
use mathlib.Core.Logic.{⊎_elim}
use mathlib.Core.Path.{◌≡◌, refl}
use Prim.Native.Nat.{◌+◌, ◌-◌, ◌/◌}
use native.Mathlib.Omega.{arith}
use Rattle.hub.specs.Replies.{status_in}
use Rattle.handling.proofs.status_of.Goals as goal

pub returns-then-status-eq0 : goal.returns-then-status-eq0
unfolding status_in
returns-then-status-eq0 c = rw (eq-eqb _ _ c.if-status-eq0.true) refl

pub overflow_add-end : goal.overflow_add-end
overflow_add-end c = ⊎_elim (λ e. absurd (c.if-status-eq0.false e)) (λ h. omega arith) c.requires.1

pub overflow_add-end-2 : goal.overflow_add-end-2
overflow_add-end-2 c = ⊎_elim (λ e. absurd (c.if-status-eq0.false e)) (λ h. omega arith) c.requires.1

pub slice_bounds-result-end-2 : goal.slice_bounds-result-end-2
slice_bounds-result-end-2 c = ⊎_elim (λ e. absurd (c.if-status-eq0.false e)) (λ h. omega arith) c.requires.1

pub returns : goal.returns
unfolding status_in
returns c =
    let a = c.args in
    let q : a.status + a.range / 8 + 1 - a.status ≡ a.range / 8 + 1 = omega arith in
    rw (ne_eqb _ _ c.if-status-eq0.false, q) refl
