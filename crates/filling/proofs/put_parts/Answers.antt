use mathlib.Core.List.{◌++◌}
use lib.Dec.{ltb}
use Rattle.writing.specs.Write.{closed_run_lem}
use Rattle.writing.specs.Inside.{part_if}
use Rattle.writing.proofs.Storing.{stored-join, room_after, room-first}
use Rattle.filling.proofs.put_parts.Goals as goal

pub put_part-one-requires : goal.put_part-one-requires
put_part-one-requires c = let a = c.args in
    let p₁ = part_if (ltb 0 a.vars) a.first.now in
    let p₂ = part_if (ltb 1 a.vars) a.second.now in
    let p₃ = part_if (ltb 2 a.vars) a.third.now in
    let p₄ = closed_run_lem a.run.now in
    let h = c.requires in
    (room-first p₁ (p₂ ++ (p₃ ++ p₄)) a.at _ h.0, h.1)

pub put_part-two-requires : goal.put_part-two-requires
put_part-two-requires c = let a = c.args in
    let p₁ = part_if (ltb 0 a.vars) a.first.now in
    let p₂ = part_if (ltb 1 a.vars) a.second.now in
    let p₃ = part_if (ltb 2 a.vars) a.third.now in
    let p₄ = closed_run_lem a.run.now in
    let h = c.requires in
    (room-first p₂ (p₃ ++ p₄) _ _ (room_after (p₂ ++ (p₃ ++ p₄)) c.put_part-one.ensures h.0), h.2)

pub put_part-three-requires : goal.put_part-three-requires
put_part-three-requires c = let a = c.args in
    let p₁ = part_if (ltb 0 a.vars) a.first.now in
    let p₂ = part_if (ltb 1 a.vars) a.second.now in
    let p₃ = part_if (ltb 2 a.vars) a.third.now in
    let p₄ = closed_run_lem a.run.now in
    let h = c.requires in
    (room-first p₃ p₄ _ _ (room_after (p₃ ++ p₄) c.put_part-two.ensures (room_after (p₂ ++ (p₃ ++ p₄)) c.put_part-one.ensures h.0)), h.3)

pub put_run-requires : goal.put_run-requires
put_run-requires c = let a = c.args in
    let p₁ = part_if (ltb 0 a.vars) a.first.now in
    let p₂ = part_if (ltb 1 a.vars) a.second.now in
    let p₃ = part_if (ltb 2 a.vars) a.third.now in
    let p₄ = closed_run_lem a.run.now in
    let h = c.requires in
    room_after p₄ c.put_part-three.ensures (room_after (p₃ ++ p₄) c.put_part-two.ensures (room_after (p₂ ++ (p₃ ++ p₄)) c.put_part-one.ensures h.0))

pub returns : goal.returns
returns c = stored-join c.put_part-one.ensures (stored-join c.put_part-two.ensures (stored-join c.put_part-three.ensures c.put_run.ensures))
