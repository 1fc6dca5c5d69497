use Rattle.lines.proofs.Stretches.{stretch-none, stretch-short, stretch-whole}
use Rattle.pieces.proofs.stretch.Goals as goal

pub returns-then-all-from : goal.returns-then-all-from
returns-then-all-from c = stretch-none c.args.all.now c.args.from c.args.count c.if-all-from.true

pub returns-then-all-from-2 : goal.returns-then-all-from-2
returns-then-all-from-2 c = stretch-short c.args.all.now c.args.from c.args.count c.if-all-from-2.true

pub returns : goal.returns
returns c = stretch-whole c.args.all.now c.args.from c.args.count
