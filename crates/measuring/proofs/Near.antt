-- What it is that no length and no pointer is above 255.
use Prim.Native.Nat.{ℕ, ◌≤◌}
use mathlib.Core.Path.{◌≡◌, refl}
use mathlib.Core.Bool.{Bool, true, false}
use mathlib.Core.Logic.{⊎_elim}
use native.Mathlib.Omega.{arith}
use borrow.Author.Tests.{le-ltb, ltb-true, ltb-false}
use lib.Dec.{ltb}
use Rattle.octets.specs.Choice.{when◌then◌else◌}
use Rattle.octets.proofs.Choice.{decided}
use Rattle.layout.specs.declared.Shape.{Shape}
use Rattle.layout.proofs.Packed.{bit-small}
use Rattle.measuring.specs.declared.Lengths.{Lengths}
use Rattle.measuring.specs.declared.Pointers.{Pointers}
use Rattle.measuring.specs.Measure.{count_of, gap, beyond_of, too_long_lem, too_far_lem}

-- neither of two holds
pub neither : (t u : Bool) → (when t then true else u) ≡ false → (t ≡ false) × (u ≡ false)
neither true u h = absurd (let z : ◌≡◌ {A = ℕ} 0 1 = cc in omega arith)
neither false u h = (refl, h)

pub beyond-not : (w : Bool) (p : ℕ) → (w ≡ true → p ≤ 255) → beyond_of w p ≡ false
beyond-not true p h = le-ltb _ _ (h refl)
beyond-not false p h = refl

pub not_beyond : (w : Bool) (p : ℕ) → beyond_of w p ≡ false → w ≡ true → p ≤ 255
not_beyond true p h e = ltb-false _ _ h
not_beyond false p h e = absurd (let z : ◌≡◌ {A = ℕ} 0 1 = cc in omega arith)

count_small : (n : ℕ) → count_of n ≤ 3
count_small n = ⊎_elim (λ t. rw t (omega (arith, ltb-true))) (λ f. rw f (omega arith)) (decided (ltb n 3))

pub gap-small : (s : Shape) → gap s ≤ 4
gap-small s = omega (arith, count_small s.vars, bit-small s.opt)

-- contents whose lengths an octet can say
pub not-long : (l : Lengths) → too_long_lem l ≡ false → (l.first ≤ 255) × (l.second ≤ 255) × (l.third ≤ 255)
unfolding too_long_lem
not-long l h =
    let x = neither (ltb 255 l.first) _ h in
    let y = neither (ltb 255 l.second) _ x.1 in
    (ltb-false _ _ x.0, ltb-false _ _ y.0, ltb-false _ _ y.1)

-- pointers that an octet can say
pub not-far : (n : ℕ) (p : Pointers) → too_far_lem n p ≡ false → (beyond_of (ltb 1 n) p.second ≡ false) × (beyond_of (ltb 2 n) p.third ≡ false) × (p.last ≤ 255)
unfolding too_far_lem
not-far n p h =
    let x = neither (beyond_of (ltb 1 n) p.second) _ h in
    let y = neither (beyond_of (ltb 2 n) p.third) _ x.1 in
    (x.0, y.0, ltb-false _ _ y.1)
