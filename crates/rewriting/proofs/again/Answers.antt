use mathlib.Core.Path.{◌∙◌}
use Rattle.family.proofs.Given.{read-inside, again-rewritten}
use Rattle.rewriting.proofs.again.Goals as goal

pub part_of-fixed-requires : goal.part_of-fixed-requires
part_of-fixed-requires c = (read-inside c.args.message.now c.args.width c.args.most c.args.shape c.args.parts c.requires).0

pub part_of-first-requires : goal.part_of-first-requires
part_of-first-requires c = (read-inside c.args.message.now c.args.width c.args.most c.args.shape c.args.parts c.requires).1

pub part_of-second-requires : goal.part_of-second-requires
part_of-second-requires c = (read-inside c.args.message.now c.args.width c.args.most c.args.shape c.args.parts c.requires).2

pub part_of-third-requires : goal.part_of-third-requires
part_of-third-requires c = (read-inside c.args.message.now c.args.width c.args.most c.args.shape c.args.parts c.requires).3

pub part_of-run-requires : goal.part_of-run-requires
part_of-run-requires c = (read-inside c.args.message.now c.args.width c.args.most c.args.shape c.args.parts c.requires).4

pub returns : goal.returns
returns c = let a = c.args in
    c.write_parts.ensures
    ∙ again-rewritten a.message.now a.width a.most a.shape a.parts c.requires a.head.now a.out.now _ _ _ _ _ _ c.kind_at-kind.ensures c.part_of-fixed.ensures c.part_of-first.ensures c.part_of-second.ensures c.part_of-third.ensures c.part_of-run.ensures
