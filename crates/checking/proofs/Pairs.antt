-- The ticks beside what is seen, pair by pair, as the code compares them.
use Prim.Native.Nat.{ℕ, zero, suc, ◌+◌, ◌≤◌}
use mathlib.Core.Bool.{Bool, true, false, not, ◌&&◌}
use mathlib.Core.List.{List}
use mathlib.Core.Path.{◌≡◌, refl}
use native.Mathlib.Omega.{arith}
use lib.Dec.{eqb}
use lib.ListN.{length, drop, drop_of_length-le}
use lib.Seq.{drop-cons}
use Rattle.std.specs.List.{zip, list_all}
use Rattle.octets.specs.Octet.{octet}
use Rattle.octets.specs.Choice.{when◌then◌else◌}
use Rattle.layout.specs.Container.{bit}
use Rattle.plans.specs.Check.{agree}

-- a tick's octet and the mark of its circuit say the same
abbrev pub same : ℕ × ℕ → Bool
same p = eqb p.1 (bit (not (eqb p.0 0)))

and-when : (b x : Bool) → (b && x) ≡ when b then x else false
and-when true x = refl
and-when false x = refl

-- from circuit c on, all pairs say the same where the definition agrees
pub pairs-agree : (ticks seen : List ℕ) (c n : ℕ) → c + n ≡ length ticks → length seen ≡ length ticks → list_all same (zip (drop c ticks) (drop c seen)) ≡ agree ticks seen c n
unfolding agree
pairs-agree ticks seen c zero e q =
    let h : length ticks ≤ c = omega arith in
    rw (drop_of_length-le ticks h) refl
pairs-agree ticks seen c (suc n) e q =
    rw (drop-cons ticks c 0 (omega arith), drop-cons seen c 0 (omega arith), pairs-agree ticks seen (suc c) n (omega arith) q)
    (and-when (same (octet ticks c, octet seen c)) (agree ticks seen (suc c) n))
