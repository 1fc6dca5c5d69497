use Rattle.measuring.proofs.beyond.Goals as goal

pub returns-then-wanted : goal.returns-then-wanted
returns-then-wanted c = simp c.if-wanted.true
