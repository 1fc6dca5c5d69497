-- What the functions' steps come to, for their proofs.
use Prim.Native.Nat.{ℕ}
use mathlib.Core.Path.{◌≡◌, refl, sym, ◌∙◌, ap}
use mathlib.Core.Bool.{Bool, true, false}
use mathlib.Core.List.{List, []}
use native.Mathlib.Omega.{arith}
use borrow.Author.Tests.{eqb-true}
use lib.Dec.{eqb}
use lib.ListN.{length, replicate}
use Rattle.std.specs.Prelude.{Result, Ok, Err}
use Rattle.octets.specs.Told.{told}
use Rattle.octets.specs.declared.Refusal.{Refusal}
use Rattle.octets.specs.Choice.{when◌then◌else◌}
use Rattle.rights.specs.Tables.{tables}
use Rattle.hub.specs.Acts.{after, act_of}
use Rattle.hub.proofs.Unhelped.{owners-help-none}
use Rattle.book.specs.declared.Await.TheVariants.{SpanCount, Bad}
use Rattle.day.specs.Hub.{Rows, at_first_lem, heard_as, heard_by, unhelped, heard_of}
use Rattle.day.specs.Day.{nobody, Day, day, machine, one_more_lem, counted_if, heard_in_lem, start, zeros, sized_by, day_sized, begun_of}

-- ---- a message
pub heard-taken : (owners : List ℕ) (rows : Rows) (sender : ℕ) (m : List ℕ) {r : Result ℕ Refusal} {n : ℕ} {states answer : List ℕ} → after (told r) states answer ≡ act_of (tables rows owners owners) sender m (replicate 268 0) → r ≡ Ok n → heard_as states true ≡ heard_of owners rows sender m
unfolding heard_of unhelped
heard-taken owners rows sender m {r} {n} {states} {answer} e p = (λ i. heard_by (after (told (sym p i)) states answer)) ∙ ap heard_by (e ∙ owners-help-none rows owners sender m (replicate 268 0))

pub heard-refused : (owners : List ℕ) (rows : Rows) (sender : ℕ) (m : List ℕ) {r : Result ℕ Refusal} {why : Refusal} {states answer : List ℕ} → after (told r) states answer ≡ act_of (tables rows owners owners) sender m (replicate 268 0) → r ≡ Err why → heard_as states false ≡ heard_of owners rows sender m
unfolding heard_of unhelped
heard-refused owners rows sender m {r} {why} {states} {answer} e p = (λ i. heard_by (after (told (sym p i)) states answer)) ∙ ap heard_by (e ∙ owners-help-none rows owners sender m (replicate 268 0))

counted-in : (t : Day) (sender : ℕ) (m : List ℕ) {rows : Rows} {taken : Bool} → heard_as rows taken ≡ heard_of t.owners t.rows sender m → (b : Bool) → taken ≡ b → counted_if b sender (heard_as rows b) t ≡ heard_in_lem sender m t
unfolding heard_in_lem
counted-in t sender m {rows} {taken} e b p = (λ i. counted_if (sym p i) sender (heard_as rows (sym p i)) t) ∙ (λ i. counted_if (e i).taken sender (e i) t)

pub counted-taken : (t : Day) (sender : ℕ) (m : List ℕ) {rows : Rows} {taken : Bool} {accepted : List ℕ} → heard_as rows taken ≡ heard_of t.owners t.rows sender m → taken ≡ true → accepted ≡ one_more_lem t.accepted sender → day t.owners rows accepted t.refused ≡ heard_in_lem sender m t
counted-taken t sender m {rows} e p q = (λ i. day t.owners rows (q i) t.refused) ∙ counted-in t sender m e true p

pub counted-refused : (t : Day) (sender : ℕ) (m : List ℕ) {rows : Rows} {taken : Bool} {refused : List ℕ} → heard_as rows taken ≡ heard_of t.owners t.rows sender m → taken ≡ false → refused ≡ one_more_lem t.refused sender → day t.owners rows t.accepted refused ≡ heard_in_lem sender m t
counted-refused t sender m {rows} e p q = (λ i. day t.owners rows t.accepted (q i)) ∙ counted-in t sender m e false p

pub sized-true : (o s a r : ℕ) → sized_by o s a r ≡ true → (o ≡ 4096) × (s ≡ 4096) × (a ≡ 256) × (r ≡ 256)
sized-true o s a r e = go (eqb o 4096) refl (eqb s 4096) refl (eqb a 256) refl e
  where
    go : (x : Bool) → eqb o 4096 ≡ x → (y : Bool) → eqb s 4096 ≡ y → (z : Bool) → eqb a 256 ≡ z → (when x then (when y then (when z then eqb r 256 else false) else false) else false) ≡ true → (o ≡ 4096) × (s ≡ 4096) × (a ≡ 256) × (r ≡ 256)
    go false p y q z f h = absurd (let n : ◌≡◌ {A = ℕ} 0 1 = cc in omega arith)
    go true p false q z f h = absurd (let n : ◌≡◌ {A = ℕ} 0 1 = cc in omega arith)
    go true p true q false f h = absurd (let n : ◌≡◌ {A = ℕ} 0 1 = cc in omega arith)
    go true p true q true f h = (eqb-true o 4096 p, eqb-true s 4096 q, eqb-true a 256 f, eqb-true r 256 h)

-- ---- the beginning
pub begun-unsized : (t : Day) → day_sized t ≡ false → machine Bad [] t ≡ begun_of t
begun-unsized t e = ap (λ (b : Bool). when b then start else machine Bad [] t) (sym e)

pub begun_sized : (t : Day) {owners rows accepted refused : List ℕ} → day_sized t ≡ true → owners ≡ replicate (length t.owners) 0 → rows ≡ replicate (length t.rows) 0 → accepted ≡ replicate (length t.accepted) 0 → refused ≡ replicate (length t.refused) 0 → machine SpanCount [] (day owners rows accepted refused) ≡ begun_of t
unfolding nobody at_first_lem zeros
begun_sized t e a b c d =
    let n = sized-true (length t.owners) (length t.rows) (length t.accepted) (length t.refused) e in
    (λ i. machine SpanCount [] (day ((a ∙ ap (λ (k : ℕ). replicate k 0) n.0) i) ((b ∙ ap (λ (k : ℕ). replicate k 0) n.1) i) ((c ∙ ap (λ (k : ℕ). replicate k 0) n.2) i) ((d ∙ ap (λ (k : ℕ). replicate k 0) n.3) i)))
    ∙ ap (λ (b : Bool). when b then start else machine Bad [] t) (sym e)
