use Rattle.parts.proofs.Apart.{no-share}
use Rattle.parts.specs.Overlap.{judged, held}
use Rattle.parts.proofs.judge.Goals as goal

pub returns-then-d-eq0 : goal.returns-then-d-eq0
unfolding judged held
returns-then-d-eq0 c = simp (no-share c.args.a c.args.b c.if-b-eq0.true, no-share c.args.a c.args.c c.if-c-eq0.true, no-share c.args.a c.args.d c.if-d-eq0.true, no-share c.args.b c.args.c c.if-c-eq0.true, no-share c.args.b c.args.d c.if-d-eq0.true, no-share c.args.c c.args.d c.if-d-eq0.true, c.contents_of.ensures, c.contents_of-then-d-eq0.ensures, c.contents_of-then-d-eq0-2.ensures, c.run_of.ensures)
