-- Any two outcomes that a public function's contract allows are equal: the
-- table, the buffer and the next place.
use Prim.Native.Nat.{ℕ, ◌%◌}
use mathlib.Core.Path.{◌≡◌, ap}
use mathlib.Core.List.{List}
use Rattle.octets.proofs.Answer.{one_answer}
use Rattle.octets.specs.Applied.{spread}
use Rattle.words.specs.Said.{said}
use Rattle.printing.specs.Sheet.{Sheet, sheet, pour}

-- of a table that holds an octet from one entry to another
pub spread-said-determined : (table out : List ℕ) (first last octet : ℕ) {s t a b : List ℕ} {r q : ℕ}
    → (s ≡ spread table first last (octet % 256)) × (sheet a r ≡ pour (sheet out 0) (said "ok"))
    → (t ≡ spread table first last (octet % 256)) × (sheet b q ≡ pour (sheet out 0) (said "ok")) → (s ≡ t) × (a ≡ b) × (r ≡ q)
spread-said-determined table out first last octet p e =
    let w = one_answer p.1 e.1 in
    (one_answer p.0 e.0, ap (λ (x : Sheet). x.octets) w, ap (λ (x : Sheet). x.at) w)
