-- A number is written as the one well formed number of its values and
-- signals whose spare bits are 0.
use Prim.Native.Nat.{ℕ, zero, suc, ◌+◌, ◌*◌, ◌/◌, ◌%◌, ◌<◌, ◌≤◌}
use mathlib.Core.Path.{◌≡◌, refl, sym, ◌∙◌, ap, subst}
use mathlib.Core.List.{List, [], ◌∷◌}
use mathlib.Core.Logic.{⊎_elim, ◌↔◌}
use native.Mathlib.Omega.{arith}
use borrow.Author.Tests.{ltb-true, ltb-false}
use lib.Dec.{ltb}
use lib.ListN.{length, get_or, set, length-set, get_or-eq_default}
use lib.Seq.{ext_get_or, set-get_or}
use Rattle.octets.specs.Answer.{accepted}
use Rattle.octets.specs.Filled.{filled, leaving}
use Rattle.octets.proofs.Answer.{accepted-same, past-test}
use Rattle.octets.proofs.Choice.{decided}
use Rattle.octets.proofs.Parity.{by-halves}
use Rattle.number.specs.declared.Number.{Number}
use Rattle.number.specs.Halves.{two_to_an_octet}
use Rattle.number.specs.Contents.{coded_as}
use Rattle.octets.specs.Octet.{AllOctets}
use Rattle.dialling.specs.Write.{any_above15, with_length, number_octets, write_number_of}
use Rattle.number.specs.WellFormed.{WellFormedNumber, spareless}
use Rattle.dialling.specs.WellWritten.{WrittenNumber}
use Rattle.dialling.proofs.Laws.{none_above, not-above, length-packed, packed-low, packed-high, octet-past}
use Rattle.octets.proofs.Filled.{room-accepted, sets-filled}
use Rattle.dialling.proofs.Writing.{octets-there, write_done}

-- what is known of values and signals for which there are octets
pub record OctetsFound (nature plan internal : ℕ) (signals : List ℕ) (n : ℕ) (octets : List ℕ) : Type 0 where
  pub nature-fits : nature ≤ 127
  pub plan-fits : plan ≤ 7
  pub internal-fits : internal ≤ 1
  pub few : length signals ≤ 30
  pub each : (k : ℕ) → get_or signals k 0 ≤ 15
  pub found : with_length (coded_as nature plan internal signals) ≡ (n, octets)

pub octets-found : (nature plan internal : ℕ) (signals : List ℕ) (n : ℕ) (octets : List ℕ) → number_octets nature plan internal signals ≡ accepted (n, octets) → OctetsFound nature plan internal signals n octets
octets-found nature plan internal signals n octets e =
    let a = past-test 14 0 (ltb 127 nature) e in
    let b = past-test 14 0 (ltb 7 plan) a.1 in
    let d = past-test 14 0 (ltb 1 internal) b.1 in
    let f = past-test 14 0 (ltb 30 (length signals)) d.1 in
    let g = past-test 14 0 (any_above15 signals) f.1 in
    record {
      nature-fits = ltb-false _ _ a.0;
      plan-fits = ltb-false _ _ b.0;
      internal-fits = ltb-false _ _ d.0;
      few = ltb-false _ _ f.0;
      each = none_above signals g.0;
      found = accepted-same g.1;
    }

-- two octets, one for each two signals, and one for a signal that is left over
pub length_found : {nature plan internal n : ℕ} {signals octets : List ℕ} → OctetsFound nature plan internal signals n octets → length octets ≡ 2 + (length signals + 1) / 2
length_found {signals = signals} f =
    let q = ap (λ (x : ℕ × List ℕ). length x.1) f.found in omega (arith, length-packed signals)

-- what is written is well formed, with spare bits 0
written-number : (nature plan internal : ℕ) (signals : List ℕ) → nature ≤ 127 → plan ≤ 7 → internal ≤ 1 → length signals ≤ 30 → ((k : ℕ) → get_or signals k 0 ≤ 15) → WrittenNumber nature plan internal signals (coded_as nature plan internal signals)
written-number nature plan internal signals a b d f g = record {
  each = octet;
  number = record {
    octets = omega (arith, length-packed signals);
    odd = omega arith;
    nature = omega arith;
    plan = omega arith;
    internal = omega arith;
    count = refl;
    few = f;
    low = λ j h. sym (packed-low signals g j) ∙ ap (λ (x : ℕ). x % 16) (sym (octet-past _ _ (two_to_an_octet signals) j));
    high = λ j h. sym (packed-high signals g j) ∙ ap (λ (x : ℕ). x / 16) (sym (octet-past _ _ (two_to_an_octet signals) j));
    filler = λ j h. ap (λ (x : ℕ). x / 16) (octet-past _ _ (two_to_an_octet signals) j) ∙ packed-high signals g j ∙ get_or-eq_default signals 0 (omega arith);
  };
  spare = omega arith;
}
  where
    octet : AllOctets (coded_as nature plan internal signals)
    octet zero = omega arith
    octet (suc zero) = omega arith
    octet (suc (suc j)) =
        let p = packed-low signals g j in
        let q = packed-high signals g j in
        let r = g (2 * j + 1) in
        omega arith

-- the signals of a well formed number are at most 15
well-formed-each : (contents : List ℕ) (number : Number) (signals : List ℕ) → AllOctets contents → WellFormedNumber contents number signals → (k : ℕ) → get_or signals k 0 ≤ 15
well-formed-each contents number signals o w k =
    ⊎_elim
    (λ t.
    by-halves (λ m. m < number.count → get_or signals m 0 ≤ 15)
    (λ j h. omega (arith, w.low j h))
    (λ j h. omega (arith, w.high j h, o (j + 2)))
    k
    (ltb-true k number.count t))
    (λ t. let q = get_or-eq_default signals 0 {n = k} (omega (arith, ltb-false k number.count t, w.count)) in omega arith)
    (decided (ltb k number.count))

-- its values and signals are written as the same octets, but for the spare bits, 0
well-formed-octets : (contents : List ℕ) (number : Number) (signals : List ℕ) → AllOctets contents → WellFormedNumber contents number signals → coded_as number.nature number.plan number.internal signals ≡ spareless contents
well-formed-octets [] number signals o w = absurd (omega (arith, w.octets))
well-formed-octets (first ∷ []) number signals o w = absurd (omega (arith, w.octets))
well-formed-octets (first ∷ second ∷ octets) number signals o w =
    let each = well-formed-each (first ∷ second ∷ octets) number signals o w in
    let p = o 0 in
    let q = o 1 in
    let same : two_to_an_octet signals ≡ octets =
    ext_get_or 0 (two_to_an_octet signals) octets (omega (arith, length-packed signals, w.octets, w.count)) (λ j h.
    let past = octet-past first second octets j in
    let low = w.low j (omega (arith, length-packed signals, w.count)) in
    let l = packed-low signals each j in
    let r = packed-high signals each j in
    let high : get_or signals (2 * j + 1) 0 ≡ get_or octets j 0 / 16 =
    ⊎_elim
    (λ t. w.high j (ltb-true _ _ t) ∙ ap (λ (x : ℕ). x / 16) past)
    (λ t.
    let n : number.count ≡ 2 * j + 1 = omega (arith, ltb-false (2 * j + 1) number.count t, length-packed signals, w.count) in
    let z = get_or-eq_default signals 0 {n = 2 * j + 1} (omega (arith, w.count)) in
    let y = w.filler j n in
    omega arith)
    (decided (ltb (2 * j + 1) number.count)) in
    omega arith) in
    let a : 128 * (length signals % 2) + number.nature ≡ first = omega (arith, w.odd, w.nature, w.count) in
    let b : 128 * number.internal + 16 * number.plan ≡ second / 16 * 16 = omega (arith, w.internal, w.plan) in
    λ i. a i ∷ b i ∷ same i

-- so there are octets for what was read
pub well-formed-written : (contents : List ℕ) (number : Number) (signals : List ℕ) → AllOctets contents → WellFormedNumber contents number signals → number_octets number.nature number.plan number.internal signals ≡ accepted (length contents, spareless contents)
well-formed-written contents number signals o w =
    octets-there number.nature number.plan number.internal signals (omega (arith, w.nature)) (omega (arith, w.plan)) (omega (arith, w.internal)) (omega (arith, w.few, w.count)) (not-above signals (well-formed-each contents number signals o w))
    ∙ (let e = well-formed-octets contents number signals o w in
    let n : length (coded_as number.nature number.plan number.internal signals) ≡ length contents = ap length e ∙ simp length-set in
    λ i. accepted (n i, e i))

-- there are octets for values and signals exactly where they are that number
pub octets-exactly : (nature plan internal : ℕ) (signals : List ℕ) (n : ℕ) (octets : List ℕ) → (number_octets nature plan internal signals ≡ accepted (n, octets)) ↔ ((n ≡ length octets) × WrittenNumber nature plan internal signals octets)
octets-exactly nature plan internal signals n octets = (
  λ e. (let f = octets-found nature plan internal signals n octets e in
      let p = ap (λ (x : ℕ × List ℕ). x.0) f.found in
      let q = ap (λ (x : ℕ × List ℕ). x.1) f.found in
      (sym p ∙ ap length q, subst (λ (l : List ℕ). WrittenNumber nature plan internal signals l) q (written-number nature plan internal signals f.nature-fits f.plan-fits f.internal-fits f.few f.each))),
  λ h. (let w = h.1 in
      let z : get_or octets 1 0 / 16 * 16 ≡ get_or octets 1 0 = omega (arith, w.spare) in
      let q : spareless octets ≡ octets = ap (λ (v : ℕ). set octets 1 v) z ∙ set-get_or octets 1 0 in
      well-formed-written octets _ signals w.each w.number ∙ (λ i. accepted (sym h.0 i, q i))),
)

-- values and signals are one list of octets at most
pub written_one : {nature plan internal : ℕ} {signals octets others : List ℕ} → WrittenNumber nature plan internal signals octets → WrittenNumber nature plan internal signals others → octets ≡ others
written_one v w =
    ap (λ (x : ℕ × List ℕ). x.1) (accepted-same (sym ((octets-exactly _ _ _ _ _ _).1 (refl, v)) ∙ (octets-exactly _ _ _ _ _ _).1 (refl, w)))

-- writing accepts exactly where there are octets that have room, and leaves
-- these at the front of the buffer
pub write-number-exactly : (nature plan internal : ℕ) (signals buffer : List ℕ) (n : ℕ) (left : List ℕ) →
    (write_number_of nature plan internal signals buffer ≡ leaving (accepted n) left)
    ↔ ((octets : List ℕ) × WrittenNumber nature plan internal signals octets × (n ≡ length octets) × (length octets ≤ length buffer) × (left ≡ filled octets buffer))
write-number-exactly nature plan internal signals buffer n left = (
  λ e. (let r = room-accepted buffer (number_octets nature plan internal signals) e in
      let x = (octets-exactly nature plan internal signals n r.0).0 r.1 in
      (r.0, x.1, x.0, r.2, r.3)),
  λ h. sym (write_done nature plan internal signals buffer n h.0 ((octets-exactly nature plan internal signals n h.0).1 (h.2, h.1)) n left h.3 refl (h.4 ∙ sym (sets-filled h.0 buffer h.3))),
)
