-- What measuring comes to, from what was tested on the way, and what it says of the frame. A caller
-- hands over what its calls ensure.
use Prim.Native.Nat.{ℕ, ◌+◌, ◌≤◌, ◌<◌}
use mathlib.Core.Path.{◌≡◌, refl, sym, ◌∙◌, ap}
use mathlib.Core.Bool.{true, false}
use mathlib.Core.List.{List}
use native.Mathlib.Omega.{arith}
use borrow.Author.Tests.{lt-ltb, le-ltb}
use lib.Dec.{ltb}
use Rattle.octets.specs.Answer.{accepted, refused}
use Rattle.octets.proofs.Answer.{past-test, accepted-same}
use Rattle.layout.specs.declared.Shape.{Shape}
use Rattle.measuring.specs.declared.Lengths.{Lengths}
use Rattle.measuring.specs.declared.Pointers.{Pointers}
use Rattle.measuring.specs.declared.Frame.{Frame}
use Rattle.measuring.specs.Measure.{unfit_of, gap, reach, pointers_of_lem, too_long_lem, too_far_lem, unheld, run_size_lem, size_of, frame_of, measure_of}

-- the pointers, as they are computed: g is the first and z the last
pub pointing : (s : Shape) (l : Lengths) (g z : ℕ) → g ≡ gap s → z ≡ reach l.run (g + l.first + l.second + l.third)
    → record { first = g; second = g + l.first; third = g + l.first + l.second; last = z } ≡ pointers_of_lem s l
pointing s l g z eg ez = rw (ez, eg) refl

module _ (s : Shape) (most : ℕ) (l : Lengths) where
  -- what is accepted is the frame, which holds every length and pointer and
  -- fits the longest message
  pub measured-frame : (f : Frame) → accepted f ≡ measure_of s most l → (unheld s l ≡ false) × (ltb most (size_of s l) ≡ false) × (f ≡ frame_of s l)
  unfolding measure_of
  measured-frame f e =
      let x = past-test 12 0 (unheld s l) (sym e) in
      let y = past-test 2 0 (ltb most (size_of s l)) x.1 in
      (x.0, y.0, sym (accepted-same y.1))

  pub long : too_long_lem l ≡ true → refused 12 0 ≡ measure_of s most l
  unfolding measure_of unheld
  long h = rw h refl

  module _ (short : too_long_lem l ≡ false) (p : Pointers) (at : p ≡ pointers_of_lem s l) where
    pub far : too_far_lem s.vars p ≡ true → refused 12 0 ≡ measure_of s most l
    unfolding measure_of unheld
    far h = rw (short, ap (too_far_lem s.vars) (sym at) ∙ h) refl

    module _ (near : too_far_lem s.vars p ≡ false) where
      pub over : most < size_of s l → refused 2 0 ≡ measure_of s most l
      unfolding measure_of unheld
      over h = rw (short, ap (too_far_lem s.vars) (sym at) ∙ near, lt-ltb _ _ h) refl

      pub over-head : most < l.head → refused 2 0 ≡ measure_of s most l
      over-head h = over (omega arith)

      pub over-run : most < l.run → refused 2 0 ≡ measure_of s most l
      over-run h =
          let p : 0 < l.run = omega arith in
          let y : run_size_lem l.run ≡ l.run + 1 = simp (lt-ltb _ _ p) in
          over (omega (arith, y))

      pub fits : (n : ℕ) → n ≡ size_of s l → n ≤ most → accepted (record { pointers = p; size = n }) ≡ measure_of s most l
      unfolding measure_of unheld
      fits n e h =
          let k : size_of s l ≤ most = omega (arith, e) in
          rw (short, ap (too_far_lem s.vars) (sym at) ∙ near, le-ltb _ _ k) (λ i. accepted (record { pointers = at i; size = e i }))

-- a shape of more than three variable parts fits nothing
pub over-three : (s : Shape) (fixed a b c r : List ℕ) → 3 < s.vars → unfit_of s fixed a b c r ≡ true
unfolding unfit_of
over-three s fixed a b c r h = simp (lt-ltb _ _ h)
