use mathlib.Core.List.{[], ◌∷◌}
use native.Mathlib.Omega.{arith}
use Rattle.writing.proofs.Storing.{stored-join, room_after, room-first, stored-no-run, closed_run}
use Rattle.filling.proofs.put_run.Goals as goal

pub returns-then-run-eq0 : goal.returns-then-run-eq0
returns-then-run-eq0 c = let a = c.args in stored-no-run a.out.now a.run.now a.at c.if-run-eq0.true

pub put_all-past-requires : goal.put_all-past-requires
put_all-past-requires c = let a = c.args in
    let h = rw (closed_run a.run.now c.if-run-eq0.false) at c.requires in
    room-first a.run.now (0 ∷ []) a.at _ h

pub put-requires : goal.put-requires
put-requires c = let a = c.args in
    let h = rw (closed_run a.run.now c.if-run-eq0.false) at c.requires in
    let r = room_after (0 ∷ []) c.put_all-past.ensures h in
    omega arith

pub returns : goal.returns
returns c = let a = c.args in rw (closed_run a.run.now c.if-run-eq0.false) (stored-join c.put_all-past.ensures c.put.ensures)
