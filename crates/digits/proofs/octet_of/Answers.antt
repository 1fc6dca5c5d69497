use Rattle.words.specs.Words.{octet_of_lem}
use mathlib.Core.Path.{sym, ◌∙◌}
use borrow.Author.Tests.{eq-eqb, ne_eqb}
use Rattle.digits.proofs.octet_of.Goals as goal

pub returns-then-all_digits : goal.returns-then-all_digits
unfolding octet_of_lem
returns-then-all_digits c = simp (eq-eqb _ _ c.if-word-eq2.true, sym c.all_digits.ensures ∙ c.if-all_digits.true, c.value-high.ensures.0, c.value-low.ensures.0)

pub returns-else-all_digits : goal.returns-else-all_digits
unfolding octet_of_lem
returns-else-all_digits c = simp (eq-eqb _ _ c.if-word-eq2.true, sym c.all_digits.ensures ∙ c.if-all_digits.false)

pub returns-else-word-eq2 : goal.returns-else-word-eq2
unfolding octet_of_lem
returns-else-word-eq2 c = simp (ne_eqb _ _ c.if-word-eq2.false)
