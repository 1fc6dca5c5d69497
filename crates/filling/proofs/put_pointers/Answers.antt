use Rattle.writing.proofs.Storing.{stored-join, pointers-room₁, pointers-room₂, pointers-room₃, pointers-room₄}
use Rattle.filling.proofs.put_pointers.Goals as goal

pub put_pointer-one-requires : goal.put_pointer-one-requires
put_pointer-one-requires c = let a = c.args in
    let h = c.requires in
    pointers-room₁ a.shape a.pointers a.at a.out.now h.0 h.1

pub put_pointer-two-requires : goal.put_pointer-two-requires
put_pointer-two-requires c = let a = c.args in
    let h = c.requires in
    pointers-room₂ a.shape a.pointers a.at a.out.now h.0 h.1 c.put_pointer-one.ensures

pub put_pointer-three-requires : goal.put_pointer-three-requires
put_pointer-three-requires c = let a = c.args in
    let h = c.requires in
    pointers-room₃ a.shape a.pointers a.at a.out.now h.0 h.1 c.put_pointer-one.ensures c.put_pointer-two.ensures

pub put_pointer-requires : goal.put_pointer-requires
put_pointer-requires c = let a = c.args in
    let h = c.requires in
    pointers-room₄ a.shape a.pointers a.at a.out.now h.0 h.1 c.put_pointer-one.ensures c.put_pointer-two.ensures c.put_pointer-three.ensures

pub returns : goal.returns
returns c = stored-join c.put_pointer-one.ensures (stored-join c.put_pointer-two.ensures (stored-join c.put_pointer-three.ensures c.put_pointer.ensures))
