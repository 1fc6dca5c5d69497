use mathlib.Core.Path.{refl}
use borrow.Author.Tests.{eq-eqb, ne_eqb}
use Rattle.fields.specs.Letters.{kind_of}
use Rattle.typing.proofs.value_of.Goals as goal

pub returns-then-letter-eq111 : goal.returns-then-letter-eq111
unfolding kind_of
returns-then-letter-eq111 c = rw (eq-eqb _ _ c.if-letter-eq111.true, c.octet_of.ensures) refl

pub returns-then-letter-eq115 : goal.returns-then-letter-eq115
unfolding kind_of
returns-then-letter-eq115 c = rw (ne_eqb _ _ c.if-letter-eq111.false, eq-eqb _ _ c.if-letter-eq115.true) c.octets_into.ensures

pub returns-then-letter-eq113 : goal.returns-then-letter-eq113
unfolding kind_of
returns-then-letter-eq113 c = rw (ne_eqb _ _ c.if-letter-eq111.false, ne_eqb _ _ c.if-letter-eq115.false, eq-eqb _ _ c.if-letter-eq113.true) c.octets_into-then-letter-eq113.ensures

pub returns-then-letter-eq119 : goal.returns-then-letter-eq119
unfolding kind_of
returns-then-letter-eq119 c = rw (ne_eqb _ _ c.if-letter-eq111.false, ne_eqb _ _ c.if-letter-eq115.false, ne_eqb _ _ c.if-letter-eq113.false, eq-eqb _ _ c.if-letter-eq119.true) c.keep_word.ensures

pub returns-then-letter-eq108 : goal.returns-then-letter-eq108
unfolding kind_of
returns-then-letter-eq108 c = rw (ne_eqb _ _ c.if-letter-eq111.false, ne_eqb _ _ c.if-letter-eq115.false, ne_eqb _ _ c.if-letter-eq113.false, ne_eqb _ _ c.if-letter-eq119.false, eq-eqb _ _ c.if-letter-eq108.true, c.not_below.ensures, c.number_of.ensures) refl

pub returns : goal.returns
unfolding kind_of
returns c = rw (ne_eqb _ _ c.if-letter-eq111.false, ne_eqb _ _ c.if-letter-eq115.false, ne_eqb _ _ c.if-letter-eq113.false, ne_eqb _ _ c.if-letter-eq119.false, ne_eqb _ _ c.if-letter-eq108.false, c.number_of-2.ensures, c.most.ensures) refl
