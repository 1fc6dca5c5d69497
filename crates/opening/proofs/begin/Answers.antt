use mathlib.Core.Path.{refl, sym, ◌∙◌}
use Rattle.day.specs.Day.{day}
use Rattle.day.proofs.Told.{begun-unsized, begun_sized}
use Rattle.opening.proofs.begin.Goals as goal

pub returns-then-sized : goal.returns-then-sized
returns-then-sized c =
    let a = c.args in
    (begun_sized (day a.owners.now a.states.now a.accepted.now a.refused.now) (sym c.sized.ensures ∙ c.if-sized.true) (c.fill.ensures.after (λ y e. e)) (c.fill-then-sized.ensures.after (λ y e. e)) (c.fill-then-sized-2.ensures.after (λ y e. e)) (c.fill-then-sized-3.ensures.after (λ y e. e)), refl)

pub returns : goal.returns
returns c =
    let a = c.args in (begun-unsized (day a.owners.now a.states.now a.accepted.now a.refused.now) (sym c.sized.ensures ∙ c.if-sized.false), refl)
