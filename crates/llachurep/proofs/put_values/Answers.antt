use lib.ListN.{length-set}
use Rattle.boundary.proofs.Room.{ten-places, start_fits, ten-stored}
use Rattle.llachurep.proofs.put_values.Goals as goal

pub bounds-parts-1 : goal.bounds-parts-1
bounds-parts-1 c = simp length-set (ten-places _ c.requires.1).1

pub fixed_start-requires : goal.fixed_start-requires
fixed_start-requires c = (start_fits _ c.requires.0.0).0

pub bounds-parts-2 : goal.bounds-parts-2
bounds-parts-2 c = simp length-set (ten-places _ c.requires.1).2

pub size_of-requires : goal.size_of-requires
size_of-requires c = c.requires.0.0

pub bounds-parts-3 : goal.bounds-parts-3
bounds-parts-3 c = simp length-set (ten-places _ c.requires.1).3

pub overflow_cast-parts-2 : goal.overflow_cast-parts-2
overflow_cast-parts-2 c = record { fits = (start_fits _ c.requires.0.1).1 }

pub bounds-parts-4 : goal.bounds-parts-4
bounds-parts-4 c = simp length-set (ten-places _ c.requires.1).4

pub size_of-requires-2 : goal.size_of-requires-2
size_of-requires-2 c = c.requires.0.1

pub bounds-parts-5 : goal.bounds-parts-5
bounds-parts-5 c = simp length-set (ten-places _ c.requires.1).5

pub overflow_cast-parts-3 : goal.overflow_cast-parts-3
overflow_cast-parts-3 c = record { fits = (start_fits _ c.requires.0.2).1 }

pub bounds-parts-6 : goal.bounds-parts-6
bounds-parts-6 c = simp length-set (ten-places _ c.requires.1).6

pub size_of-requires-3 : goal.size_of-requires-3
size_of-requires-3 c = c.requires.0.2

pub bounds-parts-7 : goal.bounds-parts-7
bounds-parts-7 c = simp length-set (ten-places _ c.requires.1).7

pub overflow_cast-parts-4 : goal.overflow_cast-parts-4
overflow_cast-parts-4 c = record { fits = (start_fits _ c.requires.0.3).1 }

pub bounds-parts-8 : goal.bounds-parts-8
bounds-parts-8 c = simp length-set (ten-places _ c.requires.1).8

pub size_of-requires-4 : goal.size_of-requires-4
size_of-requires-4 c = c.requires.0.3

pub bounds-parts-9 : goal.bounds-parts-9
bounds-parts-9 c = simp length-set (ten-places _ c.requires.1).9

pub shape_of-parts : goal.shape_of-parts
shape_of-parts c = simp length-set

pub returns : goal.returns
returns c =
    ten-stored c.args.parts.now _ _ c.args.x.parts c.requires.1 c.fixed_start.ensures c.size_of.ensures c.size_of-2.ensures c.size_of-3.ensures c.size_of-4.ensures
