use mathlib.Core.Path.{sym, ◌∙◌}
use native.Mathlib.Omega.{arith}
use lib.ListN.{length, length-set}
use Prim.Native.Nat.{◌+◌, ◌<◌}
use Rattle.book.specs.Awaits.{want_of}
use Rattle.day.specs.Day.{day}
use Rattle.machine.proofs.Told.{ready_at, bad-ready, step-none, step_kept, kept-ready, step-come, come-ready, stored-none, stored_one}
use Rattle.feeding.proofs.step.Goals as goal

pub returns-then-wanted-eq0 : goal.returns-then-wanted-eq0
returns-then-wanted-eq0 c =
    let a = c.args in
    (step-none a.place.awaits a.place.held a.buffer.now (day a.owners.now a.states.now a.accepted.now a.refused.now) a.octet (sym c.want-wanted.ensures ∙ c.if-wanted-eq0.true), bad-ready _, stored-none a.place.awaits a.place.held a.buffer.now (day a.owners.now a.states.now a.accepted.now a.refused.now) a.octet (sym c.want-wanted.ensures ∙ c.if-wanted-eq0.true))

pub bounds-buffer-held : goal.bounds-buffer-held
bounds-buffer-held c =
    let a = c.args in
    let r = ready_at c.requires.0 (λ z. c.if-wanted-eq0.false (c.want-wanted.ensures ∙ z)) in
    omega (arith, r.0, r.1, r.2)

pub overflow_add-held : goal.overflow_add-held
overflow_add-held c =
    let a = c.args in
    let r = ready_at c.requires.0 (λ z. c.if-wanted-eq0.false (c.want-wanted.ensures ∙ z)) in
    omega (arith, r.0, r.1)

pub returns-then-held-wanted : goal.returns-then-held-wanted
returns-then-held-wanted c =
    let a = c.args in
    let r = ready_at c.requires.0 (λ z. c.if-wanted-eq0.false (c.want-wanted.ensures ∙ z)) in
    let l : a.place.held + 1 < want_of a.place.awaits = omega (arith, c.if-held-wanted.true, c.want-wanted.ensures) in
    (step_kept a.place.awaits a.place.held a.buffer.now (day a.owners.now a.states.now a.accepted.now a.refused.now) a.octet (omega (arith, r.0, r.1, r.2)) l, kept-ready a.place.awaits a.place.held (length a.buffer.now) _ c.requires.0 (sym (length-set a.buffer.now a.place.held a.octet)) l, stored_one a.place.awaits a.place.held a.buffer.now (day a.owners.now a.states.now a.accepted.now a.refused.now) a.octet (λ z. c.if-wanted-eq0.false (c.want-wanted.ensures ∙ z)) (omega (arith, r.0, r.1, r.2)))

pub complete-then-requires : goal.complete-then-requires
complete-then-requires c =
    let a = c.args in
    let r = ready_at c.requires.0 (λ z. c.if-wanted-eq0.false (c.want-wanted.ensures ∙ z)) in
    let n = length-set a.buffer.now a.place.held a.octet in
    (omega (arith, r.1, r.2, n), omega (arith, r.2, n), c.requires.1)

pub returns : goal.returns
returns c =
    let a = c.args in
    let r = ready_at c.requires.0 (λ z. c.if-wanted-eq0.false (c.want-wanted.ensures ∙ z)) in
    let n = length-set a.buffer.now a.place.held a.octet in
    let e = c.complete-then.ensures in
    (step-come a.place.awaits a.place.held a.buffer.now (day a.owners.now a.states.now a.accepted.now a.refused.now) a.octet (omega (arith, r.0, r.1, r.2)) r.0 (omega (arith, c.if-held-wanted.false, c.want-wanted.ensures)) e, come-ready a.place.awaits _ _ _ _ (omega (arith, r.2, n)) e, stored_one a.place.awaits a.place.held a.buffer.now (day a.owners.now a.states.now a.accepted.now a.refused.now) a.octet (λ z. c.if-wanted-eq0.false (c.want-wanted.ensures ∙ z)) (omega (arith, r.0, r.1, r.2)))
