use Rattle.std.proofs.Common.{◌+◌, ◌-◌, ◌*◌, sym, ◌∙◌, arith}
use Rattle.marks.specs.Marks.{bits_in_lem}
use Rattle.marks.proofs.Locked.{bits_most, locked-none, locked-all, locked-few, locked-more}
use Rattle.marks.proofs.locked_octet.Goals as goal

pub loop-bit-init : goal.loop-bit-init
loop-bit-init c = sym (locked-none c.args.group.now _ _ (omega (arith, c.bits_in-bit.ensures)))

pub overflow_mul-octet : goal.overflow_mul-octet
overflow_mul-octet c =
    let l = c.loop-bit in
    let a = c.args in
    let n = bits_most a.range a.j in
    let e = l.invariant in
    omega (arith, e, locked-few a.group.now (8 * a.j + l.bit) (bits_in_lem a.range a.j - l.bit) (omega (arith, n)))

pub overflow_add-octet : goal.overflow_add-octet
overflow_add-octet c =
    let l = c.loop-bit in
    let a = c.args in
    let n = bits_most a.range a.j in
    let e = l.invariant in
    omega (arith, e, locked-few a.group.now (8 * a.j + l.bit) (bits_in_lem a.range a.j - l.bit) (omega (arith, n)))

pub loop-bit-preserved : goal.loop-bit-preserved
loop-bit-preserved c =
    let l = c.loop-bit in
    let a = c.args in
    locked-more a.group.now _ (8 * a.j + l.bit) (bits_in_lem a.range a.j - l.bit) _ l.octet _ (omega arith) (omega arith) c.octet_at-row.ensures l.invariant

pub returns : goal.returns
returns c =
    let l = c.loop-bit in
    let a = c.args in
    l.invariant ∙ locked-all a.group.now (8 * a.j) l.bit (bits_in_lem a.range a.j) (omega arith)
