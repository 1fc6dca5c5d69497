-- Any two answers that a public function's contract allows are one, and what it
-- is lent holds the same octets afterwards.
use Prim.Native.Nat.{ℕ}
use mathlib.Core.Path.{◌≡◌, sym, ◌∙◌, ap}
use mathlib.Core.Bool.{Bool, false}
use mathlib.Core.List.{List, []}
use Rattle.octets.specs.Choice.{when◌then◌else◌}
use Rattle.octets.proofs.Answer.{one_answer}
use Rattle.book.specs.declared.Await.TheVariants.{Bad}
use Rattle.book.specs.declared.Place.{Place}
use Rattle.day.specs.Day.{Day, Machine, machine, start, heard_in_lem, sized_by, day_sized, begun_of}

pub sized-determined : (owners states accepted refused : ℕ) {r s : Bool} → r ≡ sized_by owners states accepted refused → s ≡ sized_by owners states accepted refused → r ≡ s
sized-determined owners states accepted refused = one_answer

pub heard-in-determined : (sender : ℕ) (m : List ℕ) (t : Day) {u v : Day} → u ≡ heard_in_lem sender m t → v ≡ heard_in_lem sender m t → u ≡ v
heard-in-determined sender m t = one_answer

pub begin-determined : (t : Day) {r s : Place} {u v : Day} → (machine r.awaits [] u ≡ begun_of t) × (r.held ≡ 0) → (machine s.awaits [] v ≡ begun_of t) × (s.held ≡ 0) → (r ≡ s) × (u ≡ v)
begin-determined t p q =
    let e = one_answer p.0 q.0 in
    ((λ i. record { awaits = (e i).awaits; held = (p.1 ∙ sym q.1) i }), ap (λ (m : Machine). m.day) e)

-- tables of other lengths are kept, and there is no book
pub begin-keeps : (t : Day) → day_sized t ≡ false → begun_of t ≡ machine Bad [] t
begin-keeps t e = ap (λ (b : Bool). when b then start else machine Bad [] t) e
