-- Refused exactly when: the number is the first fault in the paper's order,
-- and acceptance is the absence of all.
use Prim.Native.Nat.{ℕ, ◌+◌, ◌≤◌, ◌<◌}
use mathlib.Core.Path.{◌≡◌, refl, sym, ◌∙◌, ap}
use mathlib.Core.Bool.{Bool, true, false}
use mathlib.Core.List.{List}
use mathlib.Core.Logic.{◌⊎◌, inl, inr, ⊎_elim, ◌↔◌}
use native.Mathlib.Omega.{arith}
use borrow.Author.Tests.{lt-ltb, ltb-true, ltb-false, eqb-false}
use lib.Dec.{ltb, eqb}
use lib.ListN.{length}
use Rattle.octets.specs.Choice.{when◌then◌else◌}
use Rattle.octets.specs.Answer.{◌then◌}
use Rattle.octets.specs.Filled.{room_for}
use Rattle.octets.specs.Faults.{Judges, fault}
use Rattle.octets.proofs.Choice.{chosen}
use Rattle.octets.proofs.Faults.{judges-done, judges-there, judges-absent, judges-if, judges-then, judges-choice}
use Rattle.octets.proofs.Filled.{judges-filled}
use Rattle.layout.specs.declared.Shape.{Shape}
use Rattle.runs.specs.Run.{is_run_lem}
use Rattle.runs.specs.Params.{BadRun}
use Rattle.runs.proofs.Exactly.{bad-run-exactly}
use Rattle.measuring.specs.Measure.{lacks_of, unfit_of, gap, reach, pointers_of_lem, too_long_lem, beyond_of, too_far_lem, unheld}
use Rattle.writing.specs.Write.{Order, lengths_of, contents_in, order_octets, marks, exceeds, written_of, write_parts_of, Fits}
use Rattle.writing.specs.Faults.{Misfits, Exceeds, parts_faults, write_parts_faults}
use Rattle.writing.proofs.Plain.{fits-exactly, plain-exceeds}
use Rattle.writing.proofs.Taken.{written-taken}

-- one of two holds
either-of : (t u : Bool) → (when t then true else u) ≡ true → (t ≡ true) ⊎ (u ≡ true)
either-of true u h = inl refl
either-of false u h = inr h

beyond-says : (w : Bool) (p : ℕ) → beyond_of w p ≡ true → (w ≡ true) × (255 < p)
beyond-says true p h = (refl, ltb-true _ _ h)
beyond-says false p h = absurd (let z : ◌≡◌ {A = ℕ} 0 1 = cc in omega arith)

reach-says : (r g : ℕ) → ltb 255 (reach r g) ≡ true → (0 < r) × (255 < g)
reach-says r g h = go (ltb 0 r) refl h
  where
    go : (t : Bool) → ltb 0 r ≡ t → ltb 255 (when t then g else 0) ≡ true → (0 < r) × (255 < g)
    go true e h = (ltb-true _ _ e, ltb-true _ _ h)
    go false e h = absurd (let z : ◌≡◌ {A = ℕ} 0 1 = cc in omega arith)

-- 12 in plain numbers, by pointer
pub exceeds-exactly : (s : Shape) (o : Order) → Fits s o → (exceeds (marks s.opt (contents_in s o) o.run) ≡ true) ↔ Exceeds s o
unfolding unheld too_long_lem too_far_lem
exceeds-exactly s o f = (λ h. there (sym (plain-exceeds s o f) ∙ h), λ x. plain-exceeds s o f ∙ back x)
  where
    long : too_long_lem (lengths_of o) ≡ true → Exceeds s o
    long h =
        ⊎_elim (λ t. inl (ltb-true _ _ t))
        (λ h. ⊎_elim (λ t. inr (inl (ltb-true _ _ t)))
        (λ t. inr (inr (inl (ltb-true _ _ t))))
        (either-of (ltb 255 (length o.second)) _ h))
        (either-of (ltb 255 (length o.first)) _ h)

    far : too_far_lem s.vars (pointers_of_lem s (lengths_of o)) ≡ true → Exceeds s o
    far h =
        ⊎_elim (λ t. let y = beyond-says (ltb 1 s.vars) _ t in inr (inr (inr (inl (ltb-true _ _ y.0, y.1)))))
        (λ h. ⊎_elim (λ t. let y = beyond-says (ltb 2 s.vars) _ t in inr (inr (inr (inr (inl (ltb-true _ _ y.0, y.1))))))
        (λ t. inr (inr (inr (inr (inr (reach-says (length o.run) _ t))))))
        (either-of (beyond_of (ltb 2 s.vars) (gap s + length o.first + length o.second)) _ h))
        (either-of (beyond_of (ltb 1 s.vars) (gap s + length o.first)) _ h)

    there : unheld s (lengths_of o) ≡ true → Exceeds s o
    there h = ⊎_elim long far (either-of (too_long_lem (lengths_of o)) (too_far_lem s.vars (pointers_of_lem s (lengths_of o))) h)

    or-true : (t u : Bool) → (t ≡ true) ⊎ (u ≡ true) → (when t then true else u) ≡ true
    or-true true u x = refl
    or-true false u x = ⊎_elim (λ e. absurd (let z : ◌≡◌ {A = ℕ} 0 1 = cc in omega arith)) (λ e. e) x

    back : Exceeds s o → unheld s (lengths_of o) ≡ true
    back x =
        or-true (too_long_lem (lengths_of o)) (too_far_lem s.vars (pointers_of_lem s (lengths_of o)))
        (⊎_elim (λ y. inl (or-true (ltb 255 (length o.first)) _ (inl (lt-ltb _ _ y)))) (λ x.
        ⊎_elim (λ y. inl (or-true (ltb 255 (length o.first)) _ (inr (or-true (ltb 255 (length o.second)) _ (inl (lt-ltb _ _ y)))))) (λ x.
        ⊎_elim (λ y. inl (or-true (ltb 255 (length o.first)) _ (inr (or-true (ltb 255 (length o.second)) _ (inr (lt-ltb _ _ y)))))) (λ x. inr (
        or-true (beyond_of (ltb 1 s.vars) (gap s + length o.first)) _ (⊎_elim (λ y. inl (simp (lt-ltb _ _ y.0) (lt-ltb _ _ y.1))) (λ x.
        inr (or-true (beyond_of (ltb 2 s.vars) (gap s + length o.first + length o.second)) _ (⊎_elim (λ y. inl (simp (lt-ltb _ _ y.0) (lt-ltb _ _ y.1))) (λ y. inr (simp (lt-ltb _ _ y.0) (lt-ltb _ _ y.1))) x))) x))) x) x) x)

misfit-or : (s : Shape) (o : Order) → Fits s o → Misfits s o → ⊥
misfit-or s o f x =
    ⊎_elim (λ y. omega (arith, f.few))
    (⊎_elim (λ y. y f.fixed)
    (⊎_elim (λ y. let e = ap length (f.first y.0) in omega (arith, y.1))
    (⊎_elim (λ y. let e = ap length (f.second y.0) in omega (arith, y.1))
    (⊎_elim (λ y. let e = ap length (f.third y.0) in omega (arith, y.1)) (λ y. let e = ap length (f.run y.0) in omega (arith, y.1))))))
    x

unfit-says : (s : Shape) (o : Order) → unfit_of s o.fixed o.first o.second o.third o.run ≡ true → Misfits s o
unfolding unfit_of
unfit-says s o h =
    ⊎_elim (λ t. inl (ltb-true _ _ t))
    (λ h. ⊎_elim
    (λ t.
    ⊎_elim (λ x. let y = lacks-says s.vars 0 o.first x in inr (inr (inl y)))
    (λ h. ⊎_elim (λ x. let y = lacks-says s.vars 1 o.second x in inr (inr (inr (inl y))))
    (λ h. ⊎_elim (λ x. let y = lacks-says s.vars 2 o.third x in inr (inr (inr (inr (inl y)))))
    (λ h. inr (inr (inr (inr (inr (last s.opt refl h))))))
    (either-of (lacks_of s.vars 2 o.third) _ h))
    (either-of (lacks_of s.vars 1 o.second) _ h))
    (either-of (lacks_of s.vars 0 o.first) _ t.1))
    (λ f. inr (inl (eqb-false _ _ f.0)))
    (chosen (eqb (length o.fixed) s.fixed) h))
    (either-of (ltb 3 s.vars) _ h)
  where
    lacks-says : (n k : ℕ) (c : List ℕ) → lacks_of n k c ≡ true → (n ≤ k) × (0 < length c)
    lacks-says n k c h =
        ⊎_elim (λ t. absurd (let e = t.1 in let z : ◌≡◌ {A = ℕ} 0 1 = cc in omega arith)) (λ f. (ltb-false _ _ f.0, ltb-true 0 (length c) f.1)) (chosen (ltb k n) h)

    last : (t : Bool) → s.opt ≡ t → (when t then false else ltb 0 (length o.run)) ≡ true → (s.opt ≡ false) × (0 < length o.run)
    last true e h = absurd (let z : ◌≡◌ {A = ℕ} 0 1 = cc in omega arith)
    last false e h = (e, ltb-true 0 (length o.run) h)

pub written-judges : (s : Shape) (most : ℕ) (o : Order) → Judges (written_of s most o) (parts_faults s most o)
unfolding written_of
written-judges s most o =
    judges-if (unfit_of s o.fixed o.first o.second o.third o.run) (unfit-says s o) (λ e. misfit-or s o ((fits-exactly s o).0 e))
    (λ e.
    let f = (fits-exactly s o).0 e in
    judges-choice (is_run_lem o.run)
    (λ t.
    judges-absent _ (λ at h. let b = (bad-run-exactly o.run).1 h.1 in let z : ◌≡◌ {A = ℕ} 0 1 = cc in omega arith)
    (judges-if (exceeds (marks s.opt (contents_in s o) o.run)) (exceeds-exactly s o f).0
    (λ x y. let q = (exceeds-exactly s o f).1 y in let z : ◌≡◌ {A = ℕ} 0 1 = cc in omega arith)
    (λ x. judges-if (ltb most (length (order_octets s o))) (ltb-true _ _) (λ x y. omega (arith, ltb-false)) (λ x. judges-done _))))
    (λ b. judges-there (fault 11 0 (BadRun o.run)) _ 0 (refl, (bad-run-exactly o.run).0 b) (λ at h. h.0)))

-- with the lent output: 13 last
pub write-parts-judges : (s : Shape) (most : ℕ) (o : Order) (buffer : List ℕ) → Judges (write_parts_of s most o buffer).answer (write_parts_faults s most o buffer)
unfolding write_parts_of
write-parts-judges s most o buffer =
    judges-filled buffer (written_of s most o then room_for buffer) (write_parts_faults s most o buffer)
    (judges-then (written_of s most o) (room_for buffer) (parts_faults s most o) _ (written-judges s most o)
    (λ y e.
    let q = ap length (written-taken s most o y.0 y.1 e).octets in
    judges-if (ltb (length buffer) (length y.1)) (λ t. omega (arith, ltb-true (length buffer) (length y.1) t))
    (λ t h. omega (arith, ltb-false (length buffer) (length y.1) t))
    (λ t. judges-done y)))
