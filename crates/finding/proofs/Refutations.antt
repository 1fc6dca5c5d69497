-- Wrong programs, each refuted on one call: what it answers is not what the definition says.
use mathlib.Core.Path.{◌≡◌, refl}
use mathlib.Core.List.{[], ◌∷◌}
use Rattle.octets.specs.Answer.{accepted, refused}
use Rattle.runs.specs.Run.{step_at_lem, stops, stop_from, is_run_lem, seeks, named_from}
use Rattle.layout.specs.Container.{run_from, variable_at_lem, optional_at_lem, variable_slot_lem, optional_slot_lem, container_of, parts_of}
use Rattle.parts.specs.Overlap.{shares_of, judged, held}
use Rattle.isup.specs.Table.{shape_of}
use Rattle.isup.specs.Read.{read_of}
use Rattle.finding.specs.Find.{spot, named_in, sought_in, locate_of, stretch_start}
use Rattle.isup.proofs.Refutations.{one}

-- the parameter is found in the message, at octet 6
pub found-there : locate_of one [] 0x20 ≡ accepted (spot 0 6 1)
unfolding step_at_lem stops stop_from run_from is_run_lem seeks named_from variable_at_lem optional_at_lem variable_slot_lem optional_slot_lem shares_of judged held container_of parts_of shape_of read_of named_in sought_in locate_of
found-there = refl

-- a finder that looks for name 1 whatever it was given finds nothing there
pub other-name-refuted : locate_of one [] 0x01 ≡ refused 15 0
unfolding step_at_lem stops stop_from run_from is_run_lem seeks named_from variable_at_lem optional_at_lem variable_slot_lem optional_slot_lem shares_of judged held container_of parts_of shape_of read_of named_in sought_in locate_of
other-name-refuted = refl

-- a finder that takes the message for the defaults reads no message at all
pub elsewhere-refuted : locate_of [] one 0x20 ≡ refused 1 0
unfolding parts_of read_of locate_of
elsewhere-refuted = refl

-- its contents start at octet 6, and have one octet: a stretch that starts at
-- its own length starts elsewhere
pub starts-there : stretch_start (locate_of one [] 0x20) ≡ 6
unfolding step_at_lem stops stop_from run_from is_run_lem seeks named_from variable_at_lem optional_at_lem variable_slot_lem optional_slot_lem shares_of judged held container_of parts_of shape_of read_of named_in sought_in locate_of
starts-there = refl

-- defaults that are a 0 alone are no run: 11, even where the message holds the parameter
pub bad-defaults-refuted : locate_of one (0x00 ∷ []) 0x20 ≡ refused 11 0
unfolding step_at_lem stops stop_from run_from is_run_lem seeks named_from variable_at_lem optional_at_lem variable_slot_lem optional_slot_lem shares_of judged held container_of parts_of shape_of read_of named_in sought_in locate_of
bad-defaults-refuted = refl
