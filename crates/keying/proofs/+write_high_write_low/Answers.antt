-- Each step takes one signal, or has none left to write; a signal is at most 15.
use Rattle.std.proofs.Common.{◌+◌, ◌*◌, refl, arith}
use Rattle.dialling.proofs.Laws.{none_above}
use Rattle.dialling.proofs.Steps.{write-taken, write-none, write-last, write-both}
use Rattle.keying.proofs.+write_high_write_low.Goals as goal

pub write_high-returns-then-left-eq0 : goal.write_high-returns-then-left-eq0
write_high-returns-then-left-eq0 t c =
    let a = c.args in write-last a.signals.now.now a.out.now (a.at + 2) (2 * a.at + 1) a.low (omega arith)

pub write_high-overflow_mul-out-2 : goal.write_high-overflow_mul-out-2
write_high-overflow_mul-out-2 t c =
    omega (arith, none_above c.args.signals.now.now c.requires.2 (2 * c.args.at + 1))

pub write_high-overflow_add-out-3 : goal.write_high-overflow_add-out-3
write_high-overflow_add-out-3 t c =
    omega (arith, none_above c.args.signals.now.now c.requires.2 (2 * c.args.at + 1))

pub write_high-returns : goal.write_high-returns
write_high-returns t c =
    let a = c.args in
    write-both a.signals.now.now a.out.now (a.at + 2) (a.at + 1 + 2) (2 * a.at + 1) (2 * (a.at + 1)) a.low _ (omega arith) (omega arith) (omega arith) c.write_low.ensures refl

pub write_low-returns-then-left-eq0 : goal.write_low-returns-then-left-eq0
write_low-returns-then-left-eq0 t c =
    let a = c.args in write-none a.signals.now.now a.out.now (a.at + 2) (2 * a.at) (omega arith)

pub write_low-write_high-requires : goal.write_low-write_high-requires
write_low-write_high-requires t c =
    (omega arith, (omega arith, omega arith, c.requires.2, omega arith, none_above c.args.signals.now.now c.requires.2 (2 * c.args.at)))

pub write_low-returns : goal.write_low-returns
write_low-returns t c =
    let a = c.args in
    write-taken a.signals.now.now a.out.now (a.at + 2) (2 * a.at) (2 * a.at + 1) (omega arith) (omega arith) c.write_high.ensures
