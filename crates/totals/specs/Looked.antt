-- The question as statements and not as a computation: which blocks are whole, which rows are
-- loose, and the sums over all blocks and all circuits.
use Rattle.std.specs.Prelude.{ℕ, ◌+◌, ◌*◌, ◌/◌, Bool, true, false, ltb}
use Rattle.octets.specs.Choice.{when◌then◌else◌}
use Rattle.octets.specs.Sum.{total}

-- circuit i is one of a to b
abbrev pub is_asked : ℕ → ℕ → ℕ → Bool
is_asked a b i = when ltb i a then false else (when ltb b i then false else true)

-- the first circuit of block k
abbrev pub block_first : ℕ → ℕ
block_first k = 64 * k

-- its last
abbrev pub block_last : ℕ → ℕ
block_last k = 64 * k + 63

-- block k is whole: its first circuit and its last are both of a to b
abbrev pub is_whole : ℕ → ℕ → ℕ → Bool
is_whole a b k = when is_asked a b (block_first k) then is_asked a b (block_last k) else false

-- row i is loose: circuit i is one of a to b, and its block is not whole
abbrev pub is_loose : ℕ → ℕ → ℕ → Bool
is_loose a b i = when is_asked a b i then (when is_whole a b (i / 64) then false else true) else false

-- R57. the sum over all 4096 rows that are loose, and over all 64 blocks that are whole
abbrev pub loose_and_whole : (ℕ → ℕ) → (ℕ → ℕ) → ℕ → ℕ → ℕ
loose_and_whole row whole a b =
    total (λ i. when is_loose a b i then row i else 0) 0 4096
    + total (λ k. when is_whole a b k then whole k else 0) 0 64
