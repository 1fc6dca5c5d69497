-- Answers as one number: 65536 * N + v, where N is the refusal's number, 0 for what is accepted,
-- and v is what each function says, or the octet that a refusal is about.
use Rattle.std.specs.Prelude.{ℕ, ◌+◌, ◌*◌, ◌%◌, ◌≤◌, ◌≡◌}
use Rattle.octets.specs.Answer.{Answer, accepted, refused}

-- what is accepted gives its value, a refusal its number and its octet
abbrev pub packed : Answer ℕ → ℕ
packed (accepted v) = v
packed (refused n at) = 65536 * n + at

-- the same with the 16 low bits of the value and of the octet, so that every answer has a number
abbrev pub packed_low : Answer ℕ → ℕ
packed_low (accepted v) = v % 65536
packed_low (refused n at) = 65536 * n + at % 65536

-- the value goes into 16 bits, and so does the octet that a refusal is about
abbrev pub In16Bits : Answer ℕ → Type 0
In16Bits a = ((n : ℕ) → a ≡ accepted n → n ≤ 65535) × ((n at : ℕ) → a ≡ refused n at → at ≤ 65535)
