-- How an answer that is put together judges the faults of its pieces.
use Prim.Native.Nat.{ℕ}
use mathlib.Core.Path.{◌≡◌, refl, sym, subst}
use mathlib.Core.Bool.{Bool, true, false}
use mathlib.Core.List.{List, [], ◌∷◌, ◌++◌}
use mathlib.Core.Logic.{◌⊎◌, inl, inr, ⊎_elim, ◌↔◌}
use Rattle.octets.specs.Choice.{when◌then◌else◌}
use Rattle.octets.specs.Answer.{Answer, accepted, refused, ◌then◌}
use Rattle.octets.specs.Faults.{Fault, Absent, First, None, Judges, fault}
use Rattle.octets.proofs.Answer.{refused-accepted, refused-same}

-- a first fault and no fault exclude each other
pub first-none : (fs : List Fault) (n at : ℕ) → First fs n at → None fs → ⊥
first-none [] n at f z = f
first-none (g ∷ fs) n at f z = ⊎_elim (λ h. z.0 at h.1) (λ h. first-none fs n at h.1 z.1) f

pub first-append : (fs gs : List Fault) (n at : ℕ) → First (fs ++ gs) n at ↔ (First fs n at ⊎ (None fs × First gs n at))
first-append [] gs n at = (λ h. inr (tt, h), ⊎_elim (λ h. absurd h) (λ h. h.1))
first-append (f ∷ fs) gs n at = (
  ⊎_elim
      (λ h. inl (inl h))
      (λ h. ⊎_elim (λ k. inl (inr (h.0, k))) (λ k. inr ((h.0, k.0), k.1)) ((first-append fs gs n at).0 h.1)),
  ⊎_elim
      (⊎_elim (λ h. inl h) (λ h. inr (h.0, (first-append fs gs n at).1 (inl h.1))))
      (λ h. inr (h.0.0, (first-append fs gs n at).1 (inr (h.0.1, h.1)))),
)

none-append : (fs gs : List Fault) → None (fs ++ gs) ↔ (None fs × None gs)
none-append [] gs = (λ h. (tt, h), λ h. h.1)
none-append (f ∷ fs) gs = (
  λ h. let r = (none-append fs gs).0 h.1 in ((h.0, r.0), r.1),
  λ h. (h.0.0, (none-append fs gs).1 (h.0.1, h.1)),
)

-- nothing is looked for
pub judges-done : {A : Type 0} (a : A) → Judges (accepted a) []
judges-done a = record {
  refuses = λ n at. (λ e. refused-accepted (sym e), λ f. absurd f);
  accepts = (λ x. tt, λ x. (a, refl));
}

-- the first fault is there, at one octet alone
pub judges-there : {A : Type 0} (f : Fault) (fs : List Fault) (q : ℕ) → f.there q → ((at : ℕ) → f.there at → at ≡ q) → Judges {A = A} (refused f.number q) (f ∷ fs)
judges-there {A} f fs q h u = record {
  refuses = λ n at. (
    λ e. inl (sym (refused-same e).0, subst (λ (x : ℕ). f.there x) (refused-same e).1 h),
    ⊎_elim (λ x. λ i. refused (sym x.0 i) (sym (u at x.1) i)) (λ x. absurd (x.0 q h)),
  );
  accepts = (λ x. absurd (refused-accepted x.1), λ x. absurd (x.0 q h));
}

-- the first fault is not there
pub judges-absent : {A : Type 0} {y : Answer A} (f : Fault) {fs : List Fault} → Absent f → Judges y fs → Judges y (f ∷ fs)
judges-absent f z j = record {
  refuses = λ n at. (
    λ e. inr (z, (j.refuses n at).0 e),
    ⊎_elim (λ x. absurd (z at x.1)) (λ x. (j.refuses n at).1 x.1),
  );
  accepts = (λ x. (z, j.accepts.0 x), λ x. j.accepts.1 x.1);
}

-- a test for a fault, then the rest
pub judges-if : {A : Type 0} {y : Answer A} {P : Type 0} {n q : ℕ} {fs : List Fault} (t : Bool)
    → (t ≡ true → P) → (t ≡ false → P → ⊥) → (t ≡ false → Judges y fs) → Judges (when t then refused n q else y) (fault n q P ∷ fs)
judges-if {n = n} {q = q} true p z j = judges-there (fault n q _) _ q (refl, p refl) (λ at h. h.0)
judges-if {n = n} {q = q} false p z j = judges-absent (fault n q _) (λ at h. z refl h.1) (j refl)

-- one after the other
pub judges-then : {A B : Type 0} (x : Answer A) (g : A → Answer B) (fs gs : List Fault) → Judges x fs → ((a : A) → x ≡ accepted a → Judges (g a) gs) → Judges (x then g) (fs ++ gs)
judges-then (accepted a) g fs gs j k =
    let z : None fs = j.accepts.0 (a, refl) in
    let r = k a refl in
    record {
      refuses = λ n at. (
        λ e. (first-append fs gs n at).1 (inr (z, (r.refuses n at).0 e)),
        λ f. ⊎_elim (λ h. absurd (first-none fs n at h z)) (λ h. (r.refuses n at).1 h.1) ((first-append fs gs n at).0 f),
      );
      accepts = (
        λ h. (none-append fs gs).1 (z, r.accepts.0 h),
        λ h. r.accepts.1 ((none-append fs gs).0 h).1,
      );
    }
judges-then (refused n' at') g fs gs j k =
    let f' : First fs n' at' = (j.refuses n' at').0 refl in
    record {
      refuses = λ n at. (
        λ e. (first-append fs gs n at).1 (inl ((j.refuses n at).0 (let s = refused-same e in λ i. refused (s.0 i) (s.1 i)))),
        λ f. ⊎_elim
            (λ h. let s = refused-same ((j.refuses n at).1 h) in λ i. refused (s.0 i) (s.1 i))
            (λ h. absurd (first-none fs n' at' f' h.0))
            ((first-append fs gs n at).0 f),
      );
      accepts = (
        λ h. absurd (refused-accepted h.1),
        λ h. absurd (first-none fs n' at' f' ((none-append fs gs).0 h).0),
      );
    }

-- a choice that is no refusal by itself
pub judges-choice : {A : Type 0} {x y : Answer A} {fs : List Fault} (t : Bool) → (t ≡ true → Judges x fs) → (t ≡ false → Judges y fs) → Judges (when t then x else y) fs
judges-choice true f g = f refl
judges-choice false f g = g refl

-- the first fault said in other words
pub judges-first : {A : Type 0} {y : Answer A} {P Q : Type 0} {n q : ℕ} {fs : List Fault} → (P → Q) → (Q → P) → Judges y (fault n q P ∷ fs) → Judges y (fault n q Q ∷ fs)
judges-first f g j = record {
  refuses = λ k at. (
    λ e. ⊎_elim (λ w. inl (w.0, (w.1.0, f w.1.1))) (λ w. inr (λ a h. w.0 a (h.0, g h.1), w.1)) ((j.refuses k at).0 e),
    λ e. (j.refuses k at).1 (⊎_elim (λ w. inl (w.0, (w.1.0, g w.1.1))) (λ w. inr (λ a h. w.0 a (h.0, f h.1), w.1)) e),
  );
  accepts = (
    λ e. let w = j.accepts.0 e in (λ a h. w.0 a (h.0, g h.1), w.1),
    λ e. j.accepts.1 (λ a h. e.0 a (h.0, f h.1), e.1),
  );
}
