-- Busy circuits at the boundary: what a question gives, an answer of 64 bits.
use Rattle.std.specs.Prelude.{ℕ, ◌+◌, ◌*◌}
use Rattle.octets.specs.Answer.{Answer, accepted, refused}
use Rattle.totals.specs.declared.Count.{Count}

-- a question: 4294967296 * N + 65536 * looked + count
abbrev pub packed_count : Answer Count → ℕ
packed_count (accepted c) = 65536 * c.looked + c.count
packed_count (refused n at) = 4294967296 * n
