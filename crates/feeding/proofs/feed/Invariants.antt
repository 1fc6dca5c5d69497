use mathlib.Core.Path.{◌≡◌}
use lib.ListN.{length, drop}
use Rattle.day.specs.Day.{day}
use Rattle.machine.specs.Machine.{machine_of, feed_of, buffer_after, Ready}
use Rattle.feeding.proofs.feed.Given as goal

abbrev pub invariant-loop-octet : goal.invariant-loop-octet
invariant-loop-octet l =
    Ready l.at (length l.buffer)
    × (buffer_after (machine_of l.at l.buffer (day l.owners l.states l.accepted l.refused)) l.buffer (drop l.octet-index l.chunk) ≡ buffer_after (machine_of l.initial.at l.initial.buffer (day l.initial.owners l.initial.states l.initial.accepted l.initial.refused)) l.initial.buffer l.chunk)
    × (feed_of (machine_of l.at l.buffer (day l.owners l.states l.accepted l.refused)) (drop l.octet-index l.chunk) ≡ feed_of (machine_of l.initial.at l.initial.buffer (day l.initial.owners l.initial.states l.initial.accepted l.initial.refused)) l.chunk)
