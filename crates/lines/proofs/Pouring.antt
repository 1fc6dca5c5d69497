-- Pieces poured one after the other are one piece.
use Prim.Native.Nat.{ℕ, ◌≤◌}
use mathlib.Core.Path.{◌≡◌, sym, ◌∙◌, ap}
use mathlib.Core.List.{List, ◌++◌}
use lib.ListN.{length, take}
use Rattle.printing.specs.Sheet.{Sheet, sheet, pour}
use Rattle.printing.proofs.Pours.{pour-append, pour-front}

pub and_then : (s : Sheet) {t u : Sheet} (a b : List ℕ) → t ≡ pour s a → u ≡ pour t b → u ≡ pour s (a ++ b)
and_then s a b e f = f ∙ ap (λ (x : Sheet). pour x b) e ∙ sym (pour-append s a b)

-- what is poured into an empty buffer with room for it stands at its front
pub poured-front : (buffer xs rest : List ℕ) (n : ℕ) → sheet rest n ≡ pour (sheet buffer 0) xs → length xs ≤ length buffer → (n ≡ length (take n rest)) × (take n rest ≡ xs)
poured-front buffer xs rest n e h =
    let front = pour-front buffer xs h in
    let count : n ≡ length xs = ap (λ (s : Sheet). s.at) e ∙ front.0 in
    let same : rest ≡ (pour (sheet buffer 0) xs).octets = ap (λ (s : Sheet). s.octets) e in
    let there : take n rest ≡ xs = rw (count, same) front.1 in
    (count ∙ sym (ap length there), there)
