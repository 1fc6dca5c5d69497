use Rattle.hub.specs.Rows.{effect, rows_after}
use Rattle.octets.specs.Applied.{applied}
use mathlib.Core.Path.{◌≡◌}
use Prim.Native.Nat.{◌+◌, ◌-◌}
use Rattle.handling.proofs.change_rows.Given as goal

-- what is left to do gives the whole's rows
abbrev pub invariant-loop-i : goal.invariant-loop-i
invariant-loop-i l =
    applied (effect l.message l.ask) (l.ask.circuit + l.i) (l.i-end - l.i) l.states ≡ rows_after l.message l.ask l.initial.states
