use Rattle.rows.specs.Rows.{changed_row}
use Rattle.rows.specs.declared.Act.{Act}
use mathlib.Core.Path.{sym, ap, ◌∙◌}
use Rattle.changes.proofs.changed.Goals as goal

pub returns-in-Seize : goal.returns-in-Seize
unfolding changed_row
returns-in-Seize c = let a = c.args in sym (ap (λ (k : Act). changed_row k a.block a.row) c.in-Seize.is)

pub returns-in-Release : goal.returns-in-Release
unfolding changed_row
returns-in-Release c = let a = c.args in sym (ap (λ (k : Act). changed_row k a.block a.row) c.in-Release.is)

pub returns-in-Reset : goal.returns-in-Reset
unfolding changed_row
returns-in-Reset c = let a = c.args in sym (ap (λ (k : Act). changed_row k a.block a.row) c.in-Reset.is)

pub returns-in-Block : goal.returns-in-Block
unfolding changed_row
returns-in-Block c = let a = c.args in c.blocked.ensures ∙ sym (ap (λ (k : Act). changed_row k a.block a.row) c.in-Block.is)

pub returns-in-Unblock : goal.returns-in-Unblock
unfolding changed_row
returns-in-Unblock c = let a = c.args in c.unblocked.ensures ∙ sym (ap (λ (k : Act). changed_row k a.block a.row) c.in-Unblock.is)

pub returns-in-ResetGroup : goal.returns-in-ResetGroup
unfolding changed_row
returns-in-ResetGroup c = let a = c.args in sym (ap (λ (k : Act). changed_row k a.block a.row) c.in-ResetGroup.is)

pub returns-in-BlockGroup : goal.returns-in-BlockGroup
unfolding changed_row
returns-in-BlockGroup c = let a = c.args in c.blocked-in-BlockGroup.ensures ∙ sym (ap (λ (k : Act). changed_row k a.block a.row) c.in-BlockGroup.is)

pub returns-in-UnblockGroup : goal.returns-in-UnblockGroup
unfolding changed_row
returns-in-UnblockGroup c = let a = c.args in c.unblocked-in-UnblockGroup.ensures ∙ sym (ap (λ (k : Act). changed_row k a.block a.row) c.in-UnblockGroup.is)

pub returns-in-Query : goal.returns-in-Query
unfolding changed_row
returns-in-Query c = let a = c.args in sym (ap (λ (k : Act). changed_row k a.block a.row) c.in-Query.is)
