use Prim.Native.Nat.{◌+◌, ◌≤◌}
use mathlib.Core.Path.{ap}
use mathlib.Core.List.{◌∷◌}
use native.Mathlib.Omega.{arith}
use lib.ListN.{length}
use Rattle.writing.specs.Inside.{part_if}
use Rattle.writing.proofs.Storing.{stored-join, room_after, stored-part, stored-no-part}
use Rattle.filling.proofs.put_part.Goals as goal

pub put-past-requires : goal.put-past-requires
put-past-requires c = let a = c.args in
    let h : a.at + length (length a.contents.now ∷ a.contents.now) ≤ length a.out.now = omega (arith, ap (λ w. length (part_if w a.contents.now)) c.if-wanted.true, c.requires.0) in
    omega arith

pub put_all-requires : goal.put_all-requires
put_all-requires c = let a = c.args in
    let h : a.at + length (length a.contents.now ∷ a.contents.now) ≤ length a.out.now = omega (arith, ap (λ w. length (part_if w a.contents.now)) c.if-wanted.true, c.requires.0) in
    room_after a.contents.now c.put-past.ensures h

pub returns-then-wanted : goal.returns-then-wanted
returns-then-wanted c = stored-part c.args.wanted c.if-wanted.true (stored-join c.put-past.ensures c.put_all.ensures)

pub returns : goal.returns
returns c = let a = c.args in stored-no-part a.out.now a.at a.contents.now a.wanted c.if-wanted.false
