-- What reading a called party number gives: an answer of 64 bits.
use Rattle.std.specs.Prelude.{ℕ, ◌+◌, ◌*◌}
use Rattle.octets.specs.Answer.{Answer, accepted, refused}
use Rattle.octets.specs.Filled.{Done}
use Rattle.number.specs.declared.Number.{Number}
use Rattle.boundary.specs.Boundary.{Given, given}

-- reading a number: 4294967296 * N + 65536 * nature + 4096 * internal + 256 * plan + count
abbrev pub packed_number : Answer Number → ℕ
packed_number (accepted x) = 65536 * x.nature + 4096 * x.internal + 256 * x.plan + x.count
packed_number (refused n at) = 4294967296 * n

-- what reading a number gives: its answer as one number, and the buffer
abbrev pub number_given : Done Number → Given
number_given d = given (packed_number d.answer) d.left
