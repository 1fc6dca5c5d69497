-- An answer does not look at the spare bits of the status.
use Prim.Native.Nat.{ℕ, ◌+◌, ◌/◌, ◌≤◌}
use mathlib.Core.Path.{◌≡◌, refl, ap}
use mathlib.Core.List.{List, ◌∷◌}
use native.Mathlib.Omega.{arith}
use Rattle.octets.proofs.Tabulate.{tabulate-alike}
use Rattle.marks.specs.Marks.{status_octet_lem}
use Rattle.rows.specs.declared.Act.{Act}
use Rattle.rows.specs.declared.Act.TheVariants.{Seize, Release, Reset, Block, Unblock, ResetGroup, BlockGroup, UnblockGroup, Query}
use Rattle.isup.specs.Types.{CGBA, CGUA}
use Rattle.asks.specs.Asks.{width}
use Rattle.replies.specs.Replies.{headed, status_given, range_and_status, answer_to}

pub answer-alike : (act : Act) (circuit range block : ℕ) (group s t : List ℕ) → ((k : ℕ) → k ≤ range / 8 → status_octet_lem range s k ≡ status_octet_lem range t k) → answer_to act circuit range block group s ≡ answer_to act circuit range block group t
answer-alike act circuit range block group s t h = go act
  where
    same : range_and_status range (status_given range s) ≡ range_and_status range (status_given range t)
    same = ap (λ (l : List ℕ). 1 ∷ (1 + width range) ∷ range ∷ l) (tabulate-alike (status_octet_lem range s) (status_octet_lem range t) 0 (width range) (λ k p q. h k (omega arith)))

    go : (act : Act) → answer_to act circuit range block group s ≡ answer_to act circuit range block group t
    go Seize = refl
    go Release = refl
    go Reset = refl
    go Block = refl
    go Unblock = refl
    go ResetGroup = refl
    go BlockGroup = ap (λ (l : List ℕ). headed circuit CGBA (block ∷ l)) same
    go UnblockGroup = ap (λ (l : List ℕ). headed circuit CGUA (block ∷ l)) same
    go Query = refl
