use Prim.Native.Nat.{◌+◌, ◌≤◌}
use native.Mathlib.Omega.{arith}
use mathlib.Core.List.{◌++◌}
use lib.ListN.{length}
use Rattle.writing.specs.Inside.{head_pieces, pointer_pieces, part_pieces}
use Rattle.writing.proofs.Storing.{stored-join, room_after, room-first}
use Rattle.filling.proofs.store.Goals as goal

pub put_head-pointing-requires : goal.put_head-pointing-requires
put_head-pointing-requires c = let a = c.args in
    let h = c.requires in
    let hs = head_pieces a.head.now a.kind a.fixed.now in
    let ps = pointer_pieces a.shape a.frame.pointers in
    let qs = part_pieces a.shape.vars a.first.now a.second.now a.third.now a.run.now in
    let r : 0 + length (hs ++ (ps ++ qs)) ≤ length a.out.now = omega (arith, h.0) in
    omega (arith, room-first hs (ps ++ qs) 0 _ r)

pub put_pointers-holding-requires : goal.put_pointers-holding-requires
put_pointers-holding-requires c = let a = c.args in
    let h = c.requires in
    let hs = head_pieces a.head.now a.kind a.fixed.now in
    let ps = pointer_pieces a.shape a.frame.pointers in
    let qs = part_pieces a.shape.vars a.first.now a.second.now a.third.now a.run.now in
    let r : 0 + length (hs ++ (ps ++ qs)) ≤ length a.out.now = omega (arith, h.0) in
    (room-first ps qs _ _ (room_after (ps ++ qs) c.put_head-pointing.ensures r), h.1)

pub put_parts-requires : goal.put_parts-requires
put_parts-requires c = let a = c.args in
    let h = c.requires in
    let hs = head_pieces a.head.now a.kind a.fixed.now in
    let ps = pointer_pieces a.shape a.frame.pointers in
    let qs = part_pieces a.shape.vars a.first.now a.second.now a.third.now a.run.now in
    let r : 0 + length (hs ++ (ps ++ qs)) ≤ length a.out.now = omega (arith, h.0) in
    (room_after qs c.put_pointers-holding.ensures (room_after (ps ++ qs) c.put_head-pointing.ensures r), h.2, h.3, h.4)

pub returns : goal.returns
returns c = (stored-join c.put_head-pointing.ensures (stored-join c.put_pointers-holding.ensures c.put_parts.ensures)).made
