use Rattle.rows.specs.declared.Act.TheVariants.{Seize, Release, Reset, Block, Unblock, ResetGroup, BlockGroup, UnblockGroup, Query}
use Rattle.asks.proofs.Reading.{asked_by, one-reaches}
use Rattle.asks.specs.Types.{act_for}
use Rattle.asks.specs.Asks.{asked_in}
use Rattle.asks.specs.Inside.{looked}
use borrow.Author.Tests.{ne_eqb}
use mathlib.Core.Logic.{inl, inr}
use mathlib.Core.Path.{◌∙◌}
use Rattle.asking.proofs.ask_in.Goals as goal

pub bounds-message-at : goal.bounds-message-at
bounds-message-at c = c.requires.indicated (inl c.in-24.is)

pub bounds-message-at-in-25 : goal.bounds-message-at-in-25
bounds-message-at-in-25 c = c.requires.indicated (inr c.in-25.is)

pub returns-in-1 : goal.returns-in-1
returns-in-1 c = let a = c.args in c.ask_one.ensures ∙ one-reaches a.message.now (looked a.kind a.circuit a.at a.contents) Seize c.requires.low ∙ asked_by a.message.now (looked a.kind a.circuit a.at a.contents) Seize c.in-1.is

pub returns-in-12 : goal.returns-in-12
returns-in-12 c = let a = c.args in c.ask_one-in-12.ensures ∙ one-reaches a.message.now (looked a.kind a.circuit a.at a.contents) Release c.requires.low ∙ asked_by a.message.now (looked a.kind a.circuit a.at a.contents) Release c.in-12.is

pub returns-in-18 : goal.returns-in-18
returns-in-18 c = let a = c.args in c.ask_one-in-18.ensures ∙ one-reaches a.message.now (looked a.kind a.circuit a.at a.contents) Reset c.requires.low ∙ asked_by a.message.now (looked a.kind a.circuit a.at a.contents) Reset c.in-18.is

pub returns-in-19 : goal.returns-in-19
returns-in-19 c = let a = c.args in c.ask_one-in-19.ensures ∙ one-reaches a.message.now (looked a.kind a.circuit a.at a.contents) Block c.requires.low ∙ asked_by a.message.now (looked a.kind a.circuit a.at a.contents) Block c.in-19.is

pub returns-in-20 : goal.returns-in-20
returns-in-20 c = let a = c.args in c.ask_one-in-20.ensures ∙ one-reaches a.message.now (looked a.kind a.circuit a.at a.contents) Unblock c.requires.low ∙ asked_by a.message.now (looked a.kind a.circuit a.at a.contents) Unblock c.in-20.is

pub returns-in-23 : goal.returns-in-23
returns-in-23 c = let a = c.args in c.ask_range.ensures ∙ asked_by a.message.now (looked a.kind a.circuit a.at a.contents) ResetGroup c.in-23.is

pub returns-in-24 : goal.returns-in-24
returns-in-24 c = let a = c.args in c.ask_group.ensures ∙ asked_by a.message.now (looked a.kind a.circuit a.at a.contents) BlockGroup c.in-24.is

pub returns-in-25 : goal.returns-in-25
returns-in-25 c = let a = c.args in c.ask_group-in-25.ensures ∙ asked_by a.message.now (looked a.kind a.circuit a.at a.contents) UnblockGroup c.in-25.is

pub returns-in-42 : goal.returns-in-42
returns-in-42 c = let a = c.args in c.ask_range-in-42.ensures ∙ asked_by a.message.now (looked a.kind a.circuit a.at a.contents) Query c.in-42.is

pub returns-in_default : goal.returns-in_default
unfolding asked_in act_for
returns-in_default c = simp (ne_eqb _ _ c.in_default.in_default-own.rest.1, ne_eqb _ _ c.in_default.in_default-own.rest.0.1, ne_eqb _ _ c.in_default.in_default-own.rest.0.0.1, ne_eqb _ _ c.in_default.in_default-own.rest.0.0.0.1, ne_eqb _ _ c.in_default.in_default-own.rest.0.0.0.0.1, ne_eqb _ _ c.in_default.in_default-own.rest.0.0.0.0.0.1, ne_eqb _ _ c.in_default.in_default-own.rest.0.0.0.0.0.0.1, ne_eqb _ _ c.in_default.in_default-own.rest.0.0.0.0.0.0.0.1, ne_eqb _ _ c.in_default.in_default-own.rest.0.0.0.0.0.0.0.0.1)
