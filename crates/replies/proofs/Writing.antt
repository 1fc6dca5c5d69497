-- The stores of an answer, over plain variables.
use Prim.Native.Nat.{ℕ, suc, ◌+◌, ◌≤◌}
use mathlib.Core.Path.{◌≡◌, refl, ◌∙◌}
use mathlib.Core.Logic.{⊎_elim}
use mathlib.Core.List.{List, ◌∷◌}
use native.Mathlib.Omega.{arith}
use borrow.Author.Tests.{le-ltb}
use lib.Dec.{eqb}
use lib.ListN.{length, set}
use lib.Seq.{sets}
use Rattle.octets.specs.Octet.{octet}
use Rattle.octets.specs.Answer.{accepted}
use Rattle.octets.specs.Filled.{leaving, filled}
use Rattle.octets.proofs.Filled.{sets-filled}
use Rattle.octets.proofs.Choice.{decided}
use Rattle.octets.proofs.Tabulate.{length-tabulate}
use Rattle.marks.specs.Marks.{status_octet_lem, locked_octet_lem}
use Rattle.rows.specs.declared.Act.{Act}
use Rattle.rows.specs.declared.Act.TheVariants.{Seize, Release, Reset, Block, Unblock, ResetGroup, BlockGroup, UnblockGroup, Query}
use Rattle.rows.specs.Rows.{local, circuit_state_lem}
use Rattle.asks.specs.Asks.{width}
use Rattle.replies.specs.Replies.{answer_to, sent, reply_length}

-- three stores, then the rest
pub three-stores : (b : List ℕ) (at x y z : ℕ) (rest : List ℕ) → sets (set (set (set b at x) (at + 1) y) (at + 2) z) (at + 3) rest ≡ sets b at (x ∷ y ∷ z ∷ rest)
three-stores b at x y z rest =
    let p : at + 1 ≡ suc at = omega arith in
    let q : at + 2 ≡ suc (suc at) = omega arith in
    let r : at + 3 ≡ suc (suc (suc at)) = omega arith in
    rw (p, q, r)

-- ---- the answer
-- there is room for it, and its octets were stored from the start on
pub sent-stored : (octets buffer left : List ℕ) (n : ℕ) → n ≡ length octets → n ≤ length buffer → left ≡ sets buffer 0 octets → leaving (accepted n) left ≡ sent octets buffer
sent-stored octets buffer left n e h q =
    let l : length octets ≤ length buffer = omega arith in
    let k : left ≡ filled octets buffer = q ∙ sets-filled octets buffer l in
    rw (le-ltb (length buffer) (length octets) l) (λ i. leaving (accepted (e i)) (k i))

-- how many octets answer an act
pub length-answer : (act : Act) (circuit range block : ℕ) (group status : List ℕ) → length (answer_to act circuit range block group status) ≡ reply_length act range (octet group 0)
unfolding reply_length
length-answer Seize circuit range block group status = refl
length-answer Release circuit range block group status = refl
length-answer Reset circuit range block group status = ⊎_elim (λ t. rw t refl) (λ t. rw t refl) (decided (eqb (local (octet group 0)) 1))
length-answer Block circuit range block group status = refl
length-answer Unblock circuit range block group status = refl
length-answer ResetGroup circuit range block group status = omega (arith, length-tabulate (locked_octet_lem range group) 0 (width range))
length-answer BlockGroup circuit range block group status = omega (arith, length-tabulate (status_octet_lem range status) 0 (width range))
length-answer UnblockGroup circuit range block group status = omega (arith, length-tabulate (status_octet_lem range status) 0 (width range))
length-answer Query circuit range block group status = omega (arith, length-tabulate (λ i. circuit_state_lem (octet group i)) 0 (range + 1))

-- the range is an octet, and 31 at the most where CQM asks: so 40 octets at the most
pub reply-length : (act : Act) (range row : ℕ) → range ≤ 255 → (act ≡ Query → range ≤ 31) → reply_length act range row ≤ 40
unfolding reply_length
reply-length Seize range row h k = omega arith
reply-length Release range row h k = omega arith
reply-length Reset range row h k = ⊎_elim (λ t. rw t (omega arith)) (λ t. rw t (omega arith)) (decided (eqb (local row) 1))
reply-length Block range row h k = omega arith
reply-length Unblock range row h k = omega arith
reply-length ResetGroup range row h k = omega arith
reply-length BlockGroup range row h k = omega arith
reply-length UnblockGroup range row h k = omega arith
reply-length Query range row h k = omega (arith, k refl)
