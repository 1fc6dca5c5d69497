use mathlib.Core.Path.{refl, sym, ◌∙◌}
use Rattle.locating.proofs.first_of.Goals as goal

pub returns-in-Some : goal.returns-in-Some
returns-in-Some c = rw (sym c.named_in.ensures ∙ c.in-Some.is) refl

pub returns-in-Some-named : goal.returns-in-Some-named
returns-in-Some-named c = rw (sym c.named_in.ensures ∙ c.in-None.is, sym c.named.ensures ∙ c.in-Some-named.is) refl

pub returns-in-None-named : goal.returns-in-None-named
returns-in-None-named c = rw (sym c.named_in.ensures ∙ c.in-None.is, sym c.named.ensures ∙ c.in-None-named.is) refl
