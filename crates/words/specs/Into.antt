-- The octets of a word, put into a lent buffer as its digits are read. `octets-into` of
-- proofs/Into.antt says the same with no order of reading.
use Rattle.std.specs.Prelude.{ℕ, ◌+◌, ◌*◌, ◌-◌, ◌/◌, ◌%◌, List, [], ◌∷◌, ltb, eqb, length, get_or, set, Option, Some, None}
use Rattle.octets.specs.Choice.{when◌then◌else◌}
use Rattle.words.specs.Digits.{value_of}

-- how many octets were put, or that the word is none of octets, and the buffer afterwards
pub record Entry : Type 0 where
  pub count : Option ℕ
  pub left : List ℕ

-- what was put, and what it left
abbrev pub entry : Option ℕ → List ℕ → Entry
entry count left = record { count = count; left = left }

-- the digits from the one after n octets on: each two are put as they are read,
-- and an octet that is no digit ends it
unfoldable pub pairs_into : List ℕ → List ℕ → ℕ → ℕ → Entry
pairs_into [] buffer at n = entry (Some n) buffer
pairs_into (a ∷ []) buffer at n = entry None buffer
pairs_into (a ∷ b ∷ cs) buffer at n =
    when ltb 15 (value_of a) then entry None buffer
    else when ltb 15 (value_of b) then entry None buffer
    else pairs_into cs (set buffer (at + n) ((16 * value_of a + value_of b) % 256)) at (n + 1)

-- a word of up to `most` octets, into a buffer from octet `at` on, where it has room for them
unfoldable pub octets_into_lem : ℕ → List ℕ → List ℕ → ℕ → Entry
octets_into_lem most word buffer at =
    when eqb (length word) 1 then entry (when eqb (get_or word 0 0) 45 then Some 0 else None) buffer
    else when eqb (length word) 0 then entry None buffer
    else when ltb most (length word / 2) then entry None buffer
    else when eqb (length word % 2) 1 then entry None buffer
    else when ltb (length buffer) at then entry None buffer
    else when ltb (length buffer - at) (length word / 2) then entry None buffer
    else pairs_into word buffer at 0
