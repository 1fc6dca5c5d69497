-- Laws of an answer with a lent buffer: a refusal keeps the buffer, what is
-- accepted fills its front.
use Prim.Native.Nat.{ℕ, ◌≤◌}
use mathlib.Core.Path.{◌≡◌, refl, sym, ◌∙◌, ap}
use mathlib.Core.List.{List, [], ◌∷◌, ◌++◌}
use native.Mathlib.Omega.{arith}
use native.Mathlib.Nat.{zero-add}
use borrow.Author.Tests.{ltb-true, ltb-false}
use lib.Dec.{ltb}
use lib.ListN.{length, take}
use lib.Seq.{sets, sets-eq, take_at}
use Rattle.octets.specs.Answer.{Answer, accepted, refused, ◌then◌}
use Rattle.octets.specs.Faults.{Fault, Judges}
use Rattle.octets.specs.Filled.{Done, done, filled, room_for, leaving, room_fault}
use Rattle.octets.proofs.Faults.{judges-done, judges-if, judges-then}
use Rattle.octets.proofs.Answer.{refused-accepted, accepted-same, refused-same, then-accepted, past-test}

-- a refusal keeps the lent buffer
pub done-kept : {A : Type 0} (buffer : List ℕ) (x : Answer (A × List ℕ)) {n at : ℕ} → (done buffer x).answer ≡ refused n at → (done buffer x).left ≡ buffer
done-kept buffer (accepted x) e = absurd (refused-accepted (sym e))
done-kept buffer (refused n at) e = refl

-- stored from the start on, octets fill the front
pub sets-filled : (octets buffer : List ℕ) → length octets ≤ length buffer → sets buffer 0 octets ≡ filled octets buffer
sets-filled octets buffer h = sets-eq octets buffer 0 (rw zero-add h) ∙ rw zero-add

-- what fills the front stands there
pub take-filled : (octets buffer : List ℕ) (n : ℕ) → n ≡ length octets → take n (filled octets buffer) ≡ octets
take-filled octets buffer n e = take_at octets _ n (sym e)

-- what was accepted, and the octets that fill the front
pub done-accepted : {A : Type 0} (buffer : List ℕ) (x : Answer (A × List ℕ)) {a : A} {left : List ℕ} → done buffer x ≡ leaving (accepted a) left → (octets : List ℕ) × (x ≡ accepted (a, octets)) × (left ≡ filled octets buffer)
done-accepted buffer (accepted x) e = (x.1, (let p = accepted-same (ap (λ (d : Done _). d.answer) e) in λ i. accepted (p i, x.1)), sym (ap (λ (d : Done _). d.left) e))
done-accepted buffer (refused n at) e = absurd (refused-accepted (ap (λ (d : Done _). d.answer) e))

-- with room for it
pub room-accepted : {A : Type 0} (buffer : List ℕ) (x : Answer (A × List ℕ)) {a : A} {left : List ℕ} → done buffer (x then room_for buffer) ≡ leaving (accepted a) left → (octets : List ℕ) × (x ≡ accepted (a, octets)) × (length octets ≤ length buffer) × (left ≡ filled octets buffer)
room-accepted buffer x e =
    let d = done-accepted buffer (x then room_for buffer) e in
    let t = then-accepted x (room_for buffer) d.1 in
    let r = past-test 13 0 (ltb (length buffer) (length t.0.1)) t.2 in
    let same = accepted-same r.1 in
    (d.0, t.1 ∙ r.1, (let h = ltb-false (length buffer) (length t.0.1) r.0 in let q = ap (λ (y : _ × List ℕ). length y.1) same in omega arith), d.2)

-- the faults of an answer are those of what it is made of
pub judges-filled : {A : Type 0} (buffer : List ℕ) (x : Answer (A × List ℕ)) (fs : List Fault) → Judges x fs → Judges (done buffer x).answer fs
judges-filled buffer (accepted x) fs j = record {
  refuses = λ n at. (λ e. absurd (refused-accepted (sym e)), λ f. absurd (refused-accepted (sym ((j.refuses n at).1 f))));
  accepts = (λ e. j.accepts.0 (x, refl), λ f. (x.0, refl));
}
judges-filled buffer (refused n at) fs j = record {
  refuses = λ m q. (
    λ e. (j.refuses m q).0 (let s = refused-same e in λ i. refused (s.0 i) (s.1 i)),
    λ f. (let s = refused-same ((j.refuses m q).1 f) in λ i. refused (s.0 i) (s.1 i)),
  );
  accepts = (λ e. absurd (refused-accepted e.1), λ f. absurd (refused-accepted (j.accepts.1 f).1));
}

-- 13 comes last
pub room-judges : {A : Type 0} (x : Answer (A × List ℕ)) (buffer : List ℕ) (fs : List Fault) → Judges x fs → Judges (x then room_for buffer) (fs ++ (room_fault x buffer ∷ []))
room-judges {A} x buffer fs j =
    judges-then x (room_for buffer) fs _ j
    (λ y e.
    judges-if (ltb (length buffer) (length y.1)) (λ t. (y.0, y.1, e, ltb-true _ _ t))
    (λ t h. let q : y.1 ≡ h.1 = ap (λ (z : A × List ℕ). z.1) (accepted-same (sym e ∙ h.2)) in omega (arith, ltb-false (length buffer) (length y.1) t, h.3, ap length q))
    (λ t. judges-done y))
