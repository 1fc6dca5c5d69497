use Rattle.asks.specs.Asks.{mark_of, bit_at}
use mathlib.Core.Logic.{⊎_elim}
use native.Mathlib.Omega.{arith}
use borrow.Author.Tests.{ne_eqb, eq-eqb}
use Rattle.checking.proofs.marked.Goals as goal

pub returns-then-status-eq0 : goal.returns-then-status-eq0
unfolding mark_of
returns-then-status-eq0 c = rw (eq-eqb _ _ c.if-status-eq0.true)

pub overflow_add-octet : goal.overflow_add-octet
overflow_add-octet c = ⊎_elim (λ e. absurd (c.if-status-eq0.false e)) (λ h. omega arith) c.requires

pub bounds-message-status : goal.bounds-message-status
bounds-message-status c = ⊎_elim (λ e. absurd (c.if-status-eq0.false e)) (λ h. omega arith) c.requires

pub returns : goal.returns
unfolding mark_of bit_at
returns c = rw (ne_eqb _ _ c.if-status-eq0.false)
