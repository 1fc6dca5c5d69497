-- A list changed in place over a span: each entry becomes a function of its
-- place and its old value.
use Rattle.std.specs.Prelude.{ℕ, zero, suc, ◌+◌, ◌-◌, List, get_or, set}

-- the n entries from k on, in order
unfoldable pub applied : (ℕ → ℕ → ℕ) → ℕ → ℕ → List ℕ → List ℕ
applied f k zero l = l
applied f k (suc n) l = applied f (suc k) n (set l k (f k (get_or l k 0)))

-- a table whose entries from the first to the last are that octet
abbrev pub spread : List ℕ → ℕ → ℕ → ℕ → List ℕ
spread table first last octet = applied (λ place old. octet) first (last + 1 - first) table
