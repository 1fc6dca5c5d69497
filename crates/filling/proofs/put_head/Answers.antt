use Prim.Native.Nat.{◌+◌, ◌≤◌}
use mathlib.Core.List.{[], ◌∷◌, ◌++◌}
use native.Mathlib.Omega.{arith}
use lib.ListN.{length}
use Rattle.writing.specs.Inside.{head_pieces}
use Rattle.writing.proofs.Storing.{stored-join, room_after, room-first}
use Rattle.filling.proofs.put_head.Goals as goal

pub put_all-typed-requires : goal.put_all-typed-requires
put_all-typed-requires c = let a = c.args in
    let h : 0 + length (head_pieces a.head.now a.kind a.fixed.now) ≤ length a.out.now = omega (arith, c.requires) in
    room-first a.head.now ((a.kind ∷ []) ++ a.fixed.now) 0 _ h

pub put-past-requires : goal.put-past-requires
put-past-requires c = let a = c.args in
    let h : 0 + length (head_pieces a.head.now a.kind a.fixed.now) ≤ length a.out.now = omega (arith, c.requires) in
    let r = room_after ((a.kind ∷ []) ++ a.fixed.now) c.put_all-typed.ensures h in
    omega arith

pub put_all-requires : goal.put_all-requires
put_all-requires c = let a = c.args in
    let h : 0 + length (head_pieces a.head.now a.kind a.fixed.now) ≤ length a.out.now = omega (arith, c.requires) in
    room_after a.fixed.now c.put-past.ensures (room_after ((a.kind ∷ []) ++ a.fixed.now) c.put_all-typed.ensures h)

pub returns : goal.returns
returns c = stored-join c.put_all-typed.ensures (stored-join c.put-past.ensures c.put_all.ensures)
