-- The status of a group: a bit for each of the circuits m to m+r, low bit first
-- in each octet; the bits beyond are spare.
use Rattle.std.specs.Prelude.{ℕ, zero, suc, ◌+◌, ◌*◌, ◌/◌, ◌%◌, ◌^◌, List, ltb}
use Rattle.octets.specs.Octet.{octet}
use Rattle.octets.specs.Choice.{when◌then◌else◌}
use Rattle.octets.specs.Sum.{total}
use Rattle.rows.specs.Rows.{local}

-- status bit n: 1 where circuit m+n is marked
abbrev pub status_bit : List ℕ → ℕ → ℕ
status_bit status n = octet status (n / 8) / 2 ^ (n % 8) % 2

-- the last status octet of range r without its spare bits
abbrev pub cut_to : ℕ → ℕ → ℕ
cut_to x r = x % 2 ^ (r % 8 + 1)

-- R41. how many of the circuits m to m+r are marked: the bits 0 to r that are 1
unfoldable pub marks_in_lem : ℕ → List ℕ → ℕ
marks_in_lem r status = total (status_bit status) 0 (r + 1)

-- ---- the status octets of an answer
-- octet j of the answer's status: the message's, 0 where the message has none, and in the last the
-- bits past circuit m+r are spare, 0
unfoldable pub status_octet_lem : ℕ → List ℕ → ℕ → ℕ
status_octet_lem range status j =
    when ltb j (range / 8) then octet status j
    else cut_to (octet status j) range

-- how many circuits octet j is about: eight, and in the last octet those that are left
unfoldable pub bits_in_lem : ℕ → ℕ → ℕ
bits_in_lem range j = when ltb j (range / 8) then 8 else range % 8 + 1

-- a bit for each of n rows from row i of the group on, low bit first: 1 where
-- the circuit is locally blocked
unfoldable pub locked_bits : List ℕ → ℕ → ℕ → ℕ
locked_bits group i zero = 0
locked_bits group i (suc n) = local (octet group i) + 2 * locked_bits group (suc i) n

-- octet j of GRA's status
abbrev pub locked_octet_lem : ℕ → List ℕ → ℕ → ℕ
locked_octet_lem range group j = locked_bits group (8 * j) (bits_in_lem range j)
