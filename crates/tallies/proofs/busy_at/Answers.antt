use mathlib.Core.Path.{sym}
use native.Mathlib.Omega.{arith}
use borrow.Author.Tests.{eq-eqb, ne_eqb}
use Rattle.tallies.proofs.Reported.{if-true, if-false}
use Rattle.tallies.proofs.busy_at.Goals as goal

pub returns-then-owner-sender : goal.returns-then-owner-sender
returns-then-owner-sender c =
    let a = c.args in (sym (if-true _ _ (eq-eqb a.owner a.sender c.if-owner-sender.true)), omega arith)

pub returns : goal.returns
returns c =
    let a = c.args in (sym (if-false _ _ (ne_eqb a.owner a.sender c.if-owner-sender.false)), omega arith)
