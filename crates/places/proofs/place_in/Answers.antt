use Rattle.cursor.proofs.Plainly.{at-broken, at-run, at_none}
use Rattle.places.proofs.place_in.Goals as goal

pub returns-then-from-run : goal.returns-then-from-run
returns-then-from-run c = at-run c.args.message.now _ c.read_parts.ensures _ c.in-Ok.is c.if-from-run.true

pub returns-in-Err : goal.returns-in-Err
returns-in-Err c = at-broken c.args.message.now _ c.read_parts.ensures _ c.in-Err.is

pub returns-else-from-run : goal.returns-else-from-run
returns-else-from-run c = at_none c.args.message.now _ c.read_parts.ensures _ c.in-Ok.is c.if-from-run.false
