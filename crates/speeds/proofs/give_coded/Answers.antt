use mathlib.Core.Path.{refl, sym, ap, ◌∙◌}
use Rattle.octets.specs.Told.{told}
use Rattle.velocity.proofs.Exactly.{only-26}
use Rattle.speeds.specs.Velocities.{code_gives}
use Rattle.speeds.proofs.give_coded.Goals as goal

pub returns-in-Err : goal.returns-in-Err
unfolding code_gives
returns-in-Err c =
    let e = sym c.code.ensures ∙ ap told c.in-Err.is in
    let w = only-26 c.args.measured _ _ e in
    rw (c.refused.ensures, e, w.0, w.1) refl
