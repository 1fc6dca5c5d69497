-- What writing comes to, from what was tested and measured on the way: a
-- caller hands over what its calls ensure.
use Prim.Native.Nat.{ℕ, ◌≤◌, ◌<◌}
use mathlib.Core.Path.{◌≡◌, refl, sym, ◌∙◌, ap}
use mathlib.Core.Bool.{Bool, true, false, not}
use mathlib.Core.List.{List}
use native.Mathlib.Omega.{arith}
use borrow.Author.Tests.{lt-ltb, le-ltb}
use lib.Dec.{ltb}
use lib.ListN.{length}
use lib.Seq.{sets}
use Rattle.octets.specs.Choice.{when◌then◌else◌}
use Rattle.octets.specs.Answer.{Answer, accepted, refused, ◌then◌}
use Rattle.octets.specs.Filled.{leaving, filled}
use Rattle.octets.proofs.Filled.{sets-filled}
use Rattle.layout.specs.declared.Shape.{Shape}
use Rattle.runs.specs.Run.{is_run_lem}
use Rattle.measuring.specs.declared.Frame.{Frame}
use Rattle.measuring.specs.Measure.{unfit_of, gap, unheld, too_long_lem, pointers_of_lem, size_of, frame_of, measure_of}
use Rattle.measuring.proofs.Near.{neither, beyond-not, gap-small, not-long, not-far}
use Rattle.measuring.proofs.Outcome.{measured-frame}
use Rattle.writing.specs.Write.{Order, lengths_of, order_octets, written_of, write_parts_of, Fits}
use Rattle.writing.specs.Inside.{pieces, Near}
use Rattle.writing.proofs.Plain.{fits-exactly, plain-octets, plain_size, plain-exceeds}

-- the test of the run, as the code has it
pub no_run : (t : Bool) {u : Bool} → t ≡ u → not t ≡ true → u ≡ false
no_run true e h = absurd (let z : ◌≡◌ {A = ℕ} 0 1 = cc in omega arith)
no_run false e h = sym e

pub a-run : (t : Bool) {u : Bool} → t ≡ u → not t ≡ false → u ≡ true
a-run true e h = sym e
a-run false e h = absurd (let z : ◌≡◌ {A = ℕ} 0 1 = cc in omega arith)

-- two tests, and then what is done with a frame
tested : (t u : Bool) (f : Frame) (k : Frame → Answer (ℕ × List ℕ)) → (when t then refused 12 0 else when u then refused 2 0 else k f) ≡ ((when t then refused 12 0 else when u then refused 2 0 else accepted f) then k)
tested true u f k = refl
tested false true f k = refl
tested false false f k = refl

module _ (s : Shape) (most : ℕ) (o : Order) (buffer : List ℕ) where
  pub ten : unfit_of s o.fixed o.first o.second o.third o.run ≡ true → leaving (refused 10 0) buffer ≡ write_parts_of s most o buffer
  unfolding write_parts_of written_of
  ten h = rw h refl

  module _ (fit : unfit_of s o.fixed o.first o.second o.third o.run ≡ false) where
    pub eleven : is_run_lem o.run ≡ false → leaving (refused 11 0) buffer ≡ write_parts_of s most o buffer
    unfolding write_parts_of written_of
    eleven h = rw (fit, h) refl

    fitting : Fits s o
    fitting = (fits-exactly s o).0 fit

    counted-octets : length (order_octets s o) ≡ size_of s (lengths_of o)
    counted-octets = ap length (sym (plain-octets s o fitting)) ∙ plain_size s o fitting

    module _ (run : is_run_lem o.run ≡ true) where
      -- what is written has the frame that was measured
      measured-written : written_of s most o ≡ (measure_of s most (lengths_of o) then (λ f. accepted (f.size, order_octets s o)))
      unfolding written_of measure_of
      measured-written = rw (fit, run, plain-exceeds s o fitting, counted-octets) (tested (unheld s (lengths_of o)) (ltb most (size_of s (lengths_of o))) (frame_of s (lengths_of o)) (λ f. accepted (f.size, order_octets s o)))

      pub unmeasured : (n at : ℕ) → refused n at ≡ measure_of s most (lengths_of o) → leaving (refused n at) buffer ≡ write_parts_of s most o buffer
      unfolding write_parts_of
      unmeasured n at e = rw (measured-written, sym e) refl

      module _ (f : Frame) (e : accepted f ≡ measure_of s most (lengths_of o)) where
        framed : f ≡ frame_of s (lengths_of o)
        framed = (measured-frame s most (lengths_of o) f e).2

        all-pieces : pieces s f o.head o.kind o.fixed o.first o.second o.third o.run ≡ order_octets s o
        all-pieces = ap (λ (x : Frame). pieces s x o.head o.kind o.fixed o.first o.second o.third o.run) framed ∙ plain-octets s o fitting

        sized : f.size ≡ length (order_octets s o)
        sized = ap (λ (x : Frame). x.size) framed ∙ sym counted-octets

        pub thirteen : length buffer < f.size → leaving (refused 13 0) buffer ≡ write_parts_of s most o buffer
        unfolding write_parts_of
        thirteen h = let l : length buffer < length (order_octets s o) = omega (arith, sized) in rw (measured-written, sym e, lt-ltb _ _ l) refl

        near-pointers : Near s (pointers_of_lem s (lengths_of o))
        unfolding unheld
        near-pointers =
            let x = neither (too_long_lem (lengths_of o)) _ (measured-frame s most (lengths_of o) f e).0 in
            let y = not-far s.vars (pointers_of_lem s (lengths_of o)) x.1 in
            record {
              first = beyond-not (ltb 0 s.vars) (gap s) (λ t. omega (arith, gap-small s));
              second = y.0;
              third = y.1;
              last = beyond-not s.opt (pointers_of_lem s (lengths_of o)).last (λ t. y.2);
            }

        -- what storing requires
        pub storable : f.size ≤ length buffer
            → (length (pieces s f o.head o.kind o.fixed o.first o.second o.third o.run) ≤ length buffer) × Near s f.pointers × (length o.first ≤ 255) × (length o.second ≤ 255) × (length o.third ≤ 255)
        unfolding unheld
        storable h =
            let n = not-long (lengths_of o) (neither (too_long_lem (lengths_of o)) _ (measured-frame s most (lengths_of o) f e).0).0 in
            (omega (arith, sized, ap length all-pieces), rw framed near-pointers, n.0, n.1, n.2)

        pub wrote : (left : List ℕ) → f.size ≤ length buffer → left ≡ sets buffer 0 (pieces s f o.head o.kind o.fixed o.first o.second o.third o.run)
            → leaving (accepted f.size) left ≡ write_parts_of s most o buffer
        unfolding write_parts_of
        wrote left h q =
            let l : length (order_octets s o) ≤ length buffer = omega (arith, sized) in
            let k : left ≡ filled (order_octets s o) buffer = q ∙ ap (sets buffer 0) all-pieces ∙ sets-filled (order_octets s o) buffer l in
            rw (measured-written, sym e, le-ltb _ _ l) (λ i. leaving (accepted f.size) (k i))
