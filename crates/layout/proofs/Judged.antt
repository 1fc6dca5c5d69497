-- Refused exactly when: the number given back is the first fault in the paper's order, with its
-- octet, and acceptance is the absence of all.
use Rattle.std.specs.Prelude.{Option, Some, None}
use Prim.Native.Nat.{ℕ, ◌+◌, ◌-◌, ◌≤◌, ◌<◌}
use mathlib.Core.Path.{◌≡◌, refl, sym, ◌∙◌, subst}
use mathlib.Core.Bool.{true}
use mathlib.Core.List.{List, [], ◌∷◌}
use mathlib.Core.Logic.{◌⊎◌, inl, inr, ⊎_elim}
use native.Mathlib.Omega.{arith}
use borrow.Author.Tests.{ltb-true, ltb-false, leb-true, leb-false, eqb-true, eqb-false}
use lib.Dec.{ltb, leb, eqb}
use lib.ListN.{length}
use Rattle.octets.specs.Octet.{octet}
use Rattle.octets.specs.Choice.{when◌then◌else◌}
use Rattle.octets.specs.Answer.{Answer, accepted, refused, ◌then◌}
use Rattle.octets.specs.Faults.{Fault, Judges, fault}
use Rattle.octets.proofs.Answer.{accepted-same}
use Rattle.octets.proofs.Faults.{judges-done, judges-there, judges-absent, judges-if, judges-then, judges-choice}
use Rattle.parts.specs.declared.Span.{Span}
use Rattle.runs.specs.declared.Stop.{Stop}
use Rattle.runs.specs.declared.Stop.TheVariants.{Closed, Ended, Passed}
use Rattle.layout.specs.declared.Shape.{Shape}
use Rattle.parts.specs.declared.Parts.{Parts}
use Rattle.runs.specs.Run.{stop_from}
use Rattle.layout.specs.Container.{closed, run_from, nothing, target, past, pointed, variable_from_lem, variable_at_lem, optional_at_lem, variable_slot_lem, optional_slot_lem, start_of, end_of, container_of, of_row, parts_of}
use Rattle.parts.specs.Overlap.{shares_of, later, judged}
use Rattle.layout.specs.Laid.{Share}
use Rattle.layout.specs.Faults.{Breaks, NotClosed, variable_faults, Wanted, optional_faults, VariablePart, OptionalPart, sharing, container_faults, NoRow, row_faults, message_faults}
use Rattle.parts.specs.Overlap.{LargerStart}
use Rattle.parts.proofs.Apart.{larger-later}
use Rattle.layout.proofs.Pointed.{pointed_points}
use Rattle.runs.proofs.Runs.{stop-from, from-stop, params-inside}
use Rattle.layout.proofs.Exactly.{Proper, variable-proper, optional-proper, shares-exactly, slot-exactly, optional-slot-exactly}

-- ---- a pointer that is there, as P says
pointed-judges : {P : Type 0} (m : List ℕ) (p e : ℕ) → P → Judges (pointed m p e) (fault 5 p (P × Breaks m e p) ∷ [])
pointed-judges {P} m p e h =
    judges-choice (ltb (target m p) e)
    (λ t. judges-there (fault 5 p (P × Breaks m e p)) [] p (refl, (h, inl (ltb-true _ _ t))) (λ at x. x.0))
    (λ f. judges-choice (leb (length m) (target m p))
    (λ t. judges-there (fault 5 p (P × Breaks m e p)) [] p (refl, (h, inr (leb-true _ _ t))) (λ at x. x.0))
    (λ g. judges-absent (fault 5 p (P × Breaks m e p)) (λ at x. ⊎_elim (λ y. omega (arith, ltb-false)) (λ y. omega (arith, leb-false)) x.1.1) (judges-done (target m p))))

slot-judges : (m : List ℕ) (w : ℕ) (s : Shape) (k : ℕ) → Judges (variable_slot_lem m (start_of w s) k s.vars (end_of w s)) (variable_faults m w s k)
unfolding variable_slot_lem variable_at_lem
slot-judges m w s k =
    judges-choice (ltb k s.vars)
    (λ t.
    judges-then (pointed m (start_of w s + k) (end_of w s)) (variable_from_lem m) _ _
    (pointed-judges m (start_of w s + k) (end_of w s) (ltb-true _ _ t))
    (λ a e.
    let q : a ≡ target m (start_of w s + k) = (pointed_points m _ _ e).counted in
    rw q (judges-if (ltb (length m) (past m (target m (start_of w s + k)))) (λ x. (ltb-true _ _ t, ltb-true _ _ x)) (λ x y. omega (arith, ltb-false, y.1)) (λ x. judges-done _))))
    (λ f.
    let no : k < s.vars → ⊥ = (λ h. omega (arith, ltb-false)) in
    judges-absent _ (λ at x. no x.1.0) (judges-absent _ (λ at x. no x.1.0) (judges-done nothing)))

-- ---- the optional run
not-closed-stop : (m : List ℕ) (t i : ℕ) → NotClosed m t i → (stop_from m t ≡ Ended i) ⊎ (stop_from m t ≡ Passed i)
not-closed-stop m t i x = ⊎_elim (λ h. inl (stop-from x.0 m t (Ended i) x.1 (omega (arith, h)))) (λ h. inr (stop-from x.0 m t (Passed i) x.1 h)) x.2

run-judges : {P : Type 0} (m : List ℕ) (t : ℕ) → t ≤ length m → P → Judges (run_from m t) (record { number = 7; there = λ at. P × NotClosed m t at } ∷ [])
unfolding run_from
run-judges {P} m t l h = go (stop_from m t) refl
  where
    go : (x : Stop) → stop_from m t ≡ x → Judges (closed t x) (record { number = 7; there = λ at. P × NotClosed m t at } ∷ [])
    go (Closed z) e =
        judges-absent _
        (λ at y. ⊎_elim (λ q. let z : ◌≡◌ {A = ℕ} 0 1 = cc in omega arith) (λ q. let z : ◌≡◌ {A = ℕ} 0 1 = cc in omega arith) (not-closed-stop m t at y.1))
        (judges-done _)
    go (Ended z) e =
        let r = from-stop m t (Ended z) e in
        judges-there (record { number = 7; there = λ at. P × NotClosed m t at }) [] z (h, (r.0, r.1, inl (omega (arith, r.2, params-inside r.0 m t z l r.1))))
        (λ at y. ⊎_elim (λ q. cc) (λ q. absurd (let z : ◌≡◌ {A = ℕ} 0 1 = cc in omega arith)) (not-closed-stop m t at y.1))
    go (Passed z) e =
        let r = from-stop m t (Passed z) e in
        judges-there (record { number = 7; there = λ at. P × NotClosed m t at }) [] z (h, (r.0, r.1, inr r.2))
        (λ at y. ⊎_elim (λ q. absurd (let z : ◌≡◌ {A = ℕ} 0 1 = cc in omega arith)) (λ q. cc) (not-closed-stop m t at y.1))

optional-judges : (m : List ℕ) (w : ℕ) (s : Shape) → Judges (optional_slot_lem m s.opt (end_of w s)) (optional_faults m w s)
unfolding optional_slot_lem optional_at_lem
optional-judges m w s =
    judges-choice s.opt
    (λ o. judges-choice (eqb (octet m (end_of w s - 1)) 0)
    (λ z. judges-absent _ (λ at x. x.1.0.1 (eqb-true _ _ z)) (judges-absent _ (λ at x. x.0.1 (eqb-true _ _ z)) (judges-done nothing)))
    (λ n.
    let wanted : Wanted m w s = (o, eqb-false _ _ n) in
    judges-then (pointed m (end_of w s - 1) (end_of w s)) (λ t. run_from m t) _ _
    (pointed-judges m (end_of w s - 1) (end_of w s) wanted)
    (λ a e. let q : a ≡ target m (end_of w s - 1) = (pointed_points m _ _ e).counted in rw q (run-judges m (target m (end_of w s - 1)) (omega (arith, q, (pointed_points m _ _ e).within)) wanted))))
    (λ f.
    let no : s.opt ≡ true → ⊥ = (λ h. let z : ◌≡◌ {A = ℕ} 0 1 = cc in omega arith) in
    judges-absent _ (λ at x. no x.1.0.0) (judges-absent _ (λ at x. no x.0.0) (judges-done nothing)))

-- ---- parts that share an octet
larger-one : (a b : Span) (at at' : ℕ) → LargerStart a b at → LargerStart a b at' → at ≡ at'
larger-one a b at at' x y = ⊎_elim (λ p. ⊎_elim (λ q. p ∙ sym q) (λ q. omega (arith, x.second, y.first)) y.one) (λ p. ⊎_elim (λ q. omega (arith, x.first, y.second)) (λ q. p ∙ sym q) y.one) x.one

sharing-judges : {A B : Span → Type 0} {y : Answer Parts} {fs : List Fault} (a b : Span)
    → A a → ((x : Span) → A x → x ≡ a) → B b → ((x : Span) → B x → x ≡ b) → Proper a → Proper b
    → Judges y fs → Judges (when shares_of a b then refused 8 (later a b) else y) (sharing A B ∷ fs)
sharing-judges {A} {B} {y} {fs} a b ha ua hb ub pa pb j =
    judges-choice (shares_of a b)
    (λ t. judges-there (sharing A B) fs (later a b) (a, b, ha, hb, (shares-exactly a b pa pb).0 t, larger-later a b)
    (λ at x. larger-one x.0 x.1 at _ x.5 (larger-later x.0 x.1) ∙ (λ i. later (ua x.0 x.2 i) (ub x.1 x.3 i))))
    (λ f. judges-absent (sharing A B)
    (λ at x.
    let s : Share a b = subst (λ (z : Span). Share z b) (ua x.0 x.2) (subst (λ (z : Span). Share x.0 z) (ub x.1 x.3) x.4) in
    let t = (shares-exactly a b pa pb).1 s in
    let z : ◌≡◌ {A = ℕ} 0 1 = cc in omega arith)
    j)

module _ (m : List ℕ) (w : ℕ) (s : Shape) where
  variable-one : (k : ℕ) (a : Span) → variable_slot_lem m (start_of w s) k s.vars (end_of w s) ≡ accepted a → (x : Span) → VariablePart m w s k x → x ≡ a
  variable-one k a e x h = accepted-same (sym ((slot-exactly m (start_of w s) k s.vars (end_of w s) x).1 h) ∙ e)

  variable-part : (k : ℕ) (a : Span) → variable_slot_lem m (start_of w s) k s.vars (end_of w s) ≡ accepted a → VariablePart m w s k a
  variable-part k a e = (slot-exactly m (start_of w s) k s.vars (end_of w s) a).0 e

  optional-one : (a : Span) → optional_slot_lem m s.opt (end_of w s) ≡ accepted a → (x : Span) → OptionalPart m w s x → x ≡ a
  optional-one a e x h = accepted-same (sym ((optional-slot-exactly m s.opt (end_of w s) x).1 h) ∙ e)

  pub container-judges : Judges (container_of m w s) (container_faults m w s)
  unfolding container_of judged
  container-judges =
      judges-if (ltb (length m) (end_of w s)) (ltb-true _ _) (λ x y. omega (arith, ltb-false))
      (λ l.
      judges-then (variable_slot_lem m (start_of w s) 0 s.vars (end_of w s)) _ _ _ (slot-judges m w s 0) (λ a ea.
      judges-then (variable_slot_lem m (start_of w s) 1 s.vars (end_of w s)) _ _ _ (slot-judges m w s 1) (λ b eb.
      judges-then (variable_slot_lem m (start_of w s) 2 s.vars (end_of w s)) _ _ _ (slot-judges m w s 2) (λ c ec.
      judges-then (optional_slot_lem m s.opt (end_of w s)) _ _ _ (optional-judges m w s) (λ d ed.
      let va = variable-part 0 a ea in
      let vb = variable-part 1 b eb in
      let vc = variable-part 2 c ec in
      let o = (optional-slot-exactly m s.opt (end_of w s) d).0 ed in
      let pa = variable-proper m (end_of w s) (start_of w s) 0 s.vars a va in
      let pb = variable-proper m (end_of w s) (start_of w s) 1 s.vars b vb in
      let pc = variable-proper m (end_of w s) (start_of w s) 2 s.vars c vc in
      let pd = optional-proper s.opt m (end_of w s) o.0 d o.1 in
      let ua = variable-one 0 a ea in
      let ub = variable-one 1 b eb in
      let uc = variable-one 2 c ec in
      let ud = optional-one d ed in
      sharing-judges a b va ua vb ub pa pb
      (sharing-judges a c va ua vc uc pa pc
      (sharing-judges a d va ua o ud pa pd
      (sharing-judges b c vb ub vc uc pb pc
      (sharing-judges b d vb ub o ud pb pd
      (sharing-judges c d vc uc o ud pc pd (judges-done _)))))))))))

no-row-over : (s : Shape) → NoRow (Some s) → 3 < s.vars
no-row-over s = ⊎_elim (λ e. absurd (let z : ◌≡◌ {A = ℕ} 0 1 = cc in omega arith)) (λ x. let e = x.1 in let q : s ≡ x.0 = cc in rw q x.2)

row-judges : (m : List ℕ) (w : ℕ) (r : Option Shape) → Judges (of_row m w r) (fault 3 w (NoRow r) ∷ row_faults m w r)
row-judges m w None = judges-there (fault 3 w (NoRow None)) [] w (refl, inl refl) (λ at x. x.0)
row-judges m w (Some s) = judges-if (ltb 3 s.vars) (λ t. inr (s, refl, ltb-true _ _ t)) (λ f x. omega (arith, ltb-false, no-row-over s x)) (λ f. container-judges m w s)

pub parts-judges : (m : List ℕ) (w most : ℕ) (row : Option Shape) → Judges (parts_of m w most row) (message_faults m w most row)
unfolding parts_of
parts-judges m w most row =
    judges-if (leb (length m) w) (leb-true _ _) (λ x y. omega (arith, leb-false))
    (λ a. judges-if (ltb most (length m)) (ltb-true _ _) (λ x y. omega (arith, ltb-false)) (λ b. row-judges m w row))
