-- Wrong questions and wrong recounts, each refuted on a call.
use Prim.Native.Nat.{ℕ, ◌+◌, ◌-◌}
use mathlib.Core.Path.{◌≡◌, refl, sym, ◌∙◌}
use mathlib.Core.List.{List, [], ◌∷◌}
use native.Mathlib.Omega.{arith}
use borrow.Author.Tests.{eq-eqb}
use lib.Dec.{ltb}
use lib.ListN.{length, set, replicate}
use Rattle.octets.specs.Octet.{octet}
use Rattle.octets.specs.Choice.{when◌then◌else◌}
use Rattle.octets.specs.Answer.{Answer, accepted, refused}
use Rattle.octets.specs.Sum.{total}
use Rattle.octets.proofs.Answer.{refused-same}
use Rattle.totals.specs.declared.Count.{Count}
use Rattle.totals.specs.Blocks.{block_count_lem, Right, recounted, sized_totals}
use Rattle.totals.specs.Question.{count_between_lem, busy_between_lem}
use Rattle.totals.proofs.Recounted.{recounted-right}

-- 18 looked at before 9
abbrev eighteen_first : List ℕ → List ℕ → ℕ → ℕ → Answer Count
eighteen_first states totals a b =
    when sized_totals states totals then
    (when ltb b a then refused 18 0
    else when ltb 4095 b then refused 9 0
    else accepted (count_between_lem states totals a b))
    else refused 16 0

-- a question about 5000 to 4999 is 9, and that one gives 18
pub eighteen-before-nine : (states totals : List ℕ) → length states ≡ 4096 → length totals ≡ 64 → eighteen_first states totals 5000 4999 ≡ busy_between_lem states totals 5000 4999 → ⊥
unfolding busy_between_lem
eighteen-before-nine states totals s t e =
    let p : eighteen_first states totals 5000 4999 ≡ refused 18 0 = rw (eq-eqb _ _ s, eq-eqb _ _ t) refl in
    let q : busy_between_lem states totals 5000 4999 ≡ refused 9 0 = rw (eq-eqb _ _ s, eq-eqb _ _ t) refl in
    let z = (refused-same (sym p ∙ e ∙ q)).0 in
    omega (arith, z)

-- ---- a total that is stepped, and not counted anew
-- idle rows
abbrev idle : List ℕ
idle = replicate 4096 0

-- the same with circuit 0 busy
abbrev seized : List ℕ
seized = set idle 0 1

-- the first total stepped by what has changed in its block
abbrev stepped : List ℕ → List ℕ → List ℕ → List ℕ
stepped rows rows' totals = set totals 0 (octet totals 0 + block_count_lem rows' 0 - block_count_lem rows 0)

-- the first total says 5 of idle rows. Circuit 0 becomes busy: stepped it
-- says 6, where its rows' count is 1
pub stepped-stays-wrong : Right seized (stepped idle seized (5 ∷ [])) 0 → ⊥
unfolding total
stepped-stays-wrong e = omega (arith, e)

-- counted anew it is right
pub counted-anew-right : Right seized (recounted seized 0 0 (5 ∷ [])) 0
counted-anew-right = recounted-right seized 0 0 (5 ∷ []) 0 (omega arith) (omega arith) (omega arith)
