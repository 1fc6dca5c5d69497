-- Wrong programs, each refuted on one call: what it answers is not what the definition says.
use Prim.Native.Nat.{ℕ}
use mathlib.Core.Path.{◌≡◌, refl, sym}
use mathlib.Core.List.{List, [], ◌∷◌}
use Rattle.octets.specs.Answer.{refused}
use Rattle.octets.specs.Filled.{leaving}
use Rattle.octets.proofs.Answer.{refused-accepted}
use Rattle.runs.specs.Run.{step_at_lem, stops, stop_from}
use Rattle.layout.specs.Container.{run_from, variable_at_lem, optional_at_lem, variable_slot_lem, optional_slot_lem, container_of, parts_of}
use Rattle.parts.specs.Overlap.{shares_of, judged, held}
use Rattle.isup.specs.Table.{shape_of}
use Rattle.isup.specs.Read.{read_of}
use Rattle.isup.specs.Write.{write_in, write_of}

-- ANM with one optional parameter: name 20, contents 41 (hexadecimal)
abbrev pub one : List ℕ
one = 0x01 ∷ 0x00 ∷ 0x09 ∷ 0x01 ∷ 0x20 ∷ 0x01 ∷ 0x41 ∷ 0x00 ∷ []

-- a reader that refuses all refuses this one
pub all-refused-refuted : (n at : ℕ) → read_of one ≡ refused n at → ⊥
unfolding step_at_lem stops stop_from run_from variable_at_lem optional_at_lem variable_slot_lem optional_slot_lem shares_of judged held container_of parts_of shape_of read_of
all-refused-refuted n at e = refused-accepted (sym e)

-- a writer that lets a thirteenth bit of the circuit number into a spare bit accepts circuit 4096,
-- which is refused with 9 whatever else is given
pub spare-bit-refuted : (kind : ℕ) (fixed first second run buffer : List ℕ) → write_of 4096 kind fixed first second run buffer ≡ leaving (refused 9 0) buffer
unfolding write_in write_of
spare-bit-refuted kind fixed first second run buffer = refl
