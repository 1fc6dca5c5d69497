use Prim.Native.Nat.{◌*◌, ◌-◌, ◌≤◌}
use mathlib.Core.Path.{◌≡◌}
use mathlib.Core.List.{List, ◌++◌}
use lib.ListN.{length, replicate}
use Rattle.fields.specs.declared.Field.{Field}
use Rattle.fields.specs.Placed.{no_field}
use Rattle.forms.specs.Inside.{kinds_in}
use Rattle.requests.specs.Along.{fields_of, taken_by}
use Rattle.requests.proofs.Steps.{answer}
use Rattle.taking.proofs.fields_in.Given as goal

abbrev pub invariant-loop-slot : goal.invariant-loop-slot
invariant-loop-slot l =
    (l.next ≤ l.slot-index * 4294967295)
    × (done : List Field)
    × (length done ≡ l.slot-index)
    × (l.slot-items ≡ done ++ replicate (8 - l.slot-index) no_field)
    × (answer l.which done (fields_of (kinds_in (8 - l.slot-index) l.letters) l.before l.line l.at l.scratch l.next) ≡ taken_by l.which (fields_of (kinds_in 8 l.initial.letters) 0 l.line l.end l.initial.scratch 0))
