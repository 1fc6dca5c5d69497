-- R72. What refuses a velocity, or codes: 26, which is about no octet.
use Rattle.std.specs.Prelude.{List, [], ◌∷◌, ◌<◌}
use Rattle.octets.specs.Faults.{Fault, fault}
use Rattle.velocity.specs.declared.Velocity.{Velocity}
use Rattle.velocity.specs.declared.Codes.{Codes}
use Rattle.velocity.specs.Rules.{RefusedFor, bearing_code_lem}

-- not a number, infinite, below zero, or a bearing from 360 up
abbrev pub velocity_faults : Velocity → List Fault
velocity_faults v = fault 26 0 (RefusedFor v) ∷ []

-- R72. a bearing code above 359
abbrev pub codes_faults : Codes → List Fault
codes_faults c = fault 26 0 (359 < bearing_code_lem c) ∷ []
