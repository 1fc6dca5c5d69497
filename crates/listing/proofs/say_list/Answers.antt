use Rattle.listing.proofs.say_list.Goals as goal

pub returns-in-Ok : goal.returns-in-Ok
returns-in-Ok c = rw c.in-Ok.is c.say_steps.ensures

pub returns-in-Err : goal.returns-in-Err
returns-in-Err c = rw c.in-Err.is (rw (c.number.ensures, c.place.ensures) at c.say_fault.ensures)
