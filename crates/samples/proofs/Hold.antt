-- The samples hold: one theorem over each list, by the definitions that the code is proved to meet.
use mathlib.Core.Path.{refl}
use Rattle.runs.specs.Run.{step_at_lem, stops, stop_from, is_run_lem}
use Rattle.layout.specs.Container.{run_from, variable_at_lem, optional_at_lem, variable_slot_lem, optional_slot_lem, container_of, parts_of}
use Rattle.parts.specs.Overlap.{shares_of, judged, held}
use Rattle.writing.specs.Write.{pointers, ahead, variables, run_pointer, closed_run_lem, form_of, marks, exceeds, written_of}
use Rattle.measuring.specs.Measure.{unfit_of}
use Rattle.isup.specs.Table.{shape_of}
use Rattle.isup.specs.Read.{read_of}
use Rattle.isup.specs.Write.{write_in, compact_in}
use Rattle.number.specs.Halves.{halves}
use Rattle.number.specs.Contents.{signals_in}
use Rattle.octets.specs.Applied.{applied}
use Rattle.rows.specs.Rows.{is_legal, blocked_row, unblocked_row, changed_row}
use Rattle.asks.specs.Types.{act_for}
use Rattle.octets.specs.Sum.{total}
use Rattle.marks.specs.Marks.{marks_in_lem, status_octet_lem, bits_in_lem, locked_bits}
use Rattle.asks.specs.Asks.{broken_range, broken_group, asked_in, ask_of, bit_at, mark_of}
use Rattle.rights.specs.Rights.{first_not, may_help}
use Rattle.hub.specs.Replies.{status_in, reply_of}
use Rattle.rights.specs.Permits.{is_unhelpable, permitted_of}
use Rattle.hub.specs.Acts.{allowed_of, grant_of, act_of}
use Rattle.samples.specs.Samples.{paper_rows, AllHold, ours, OursHold}

-- the paper's twelve
pub samples-hold : AllHold paper_rows
unfolding total marks_in_lem step_at_lem stops stop_from run_from is_run_lem variable_at_lem optional_at_lem variable_slot_lem optional_slot_lem shares_of judged held container_of parts_of pointers ahead variables run_pointer closed_run_lem form_of unfit_of marks exceeds written_of shape_of read_of write_in compact_in broken_range broken_group act_for asked_in ask_of bit_at mark_of is_legal first_not applied blocked_row unblocked_row changed_row status_octet_lem bits_in_lem locked_bits status_in reply_of may_help is_unhelpable permitted_of allowed_of grant_of act_of halves signals_in
samples-hold = (refl, (refl, (refl, (refl, (refl, (refl, (refl, (refl, (refl, (refl, (refl, (refl, tt))))))))))))

-- our own, every type and kind of the hub
pub ours-hold : OursHold ours
unfolding total marks_in_lem step_at_lem stops stop_from run_from is_run_lem variable_at_lem optional_at_lem variable_slot_lem optional_slot_lem shares_of judged held container_of parts_of pointers ahead variables run_pointer closed_run_lem form_of unfit_of marks exceeds written_of shape_of read_of write_in compact_in broken_range broken_group act_for asked_in ask_of bit_at mark_of is_legal first_not applied blocked_row unblocked_row changed_row status_octet_lem bits_in_lem locked_bits status_in reply_of may_help is_unhelpable permitted_of allowed_of grant_of act_of halves signals_in
ours-hold = (refl, (refl, (refl, (refl, (refl, (refl, (refl, (refl, (refl, (refl, (refl, (refl, (refl, (refl, (refl, (refl, tt))))))))))))))))
