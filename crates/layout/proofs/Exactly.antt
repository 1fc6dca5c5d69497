-- Accepted exactly when well formed: the reader gives these parts if and only
-- if the message is laid out so.
use Rattle.std.specs.Prelude.{Option, Some, None}
use Prim.Native.Nat.{ℕ, zero, suc, ◌+◌, ◌-◌, ◌≤◌, ◌<◌}
use mathlib.Core.Path.{◌≡◌, refl, sym, ◌∙◌, ap, subst}
use mathlib.Core.Bool.{Bool, true, false}
use mathlib.Core.List.{List, [], ◌∷◌}
use mathlib.Core.Logic.{◌⊎◌, inl, inr, ⊎_elim, ◌↔◌}
use native.Mathlib.Omega.{arith}
use borrow.Author.Tests.{lt-ltb, le-ltb, lt-leb, eq-eqb, ne_eqb, ltb-true, ltb-false, leb-false, eqb-true, eqb-false}
use lib.Dec.{ltb, leb, eqb}
use lib.ListN.{length}
use Rattle.octets.specs.Octet.{octet}
use Rattle.octets.specs.Answer.{Answer, accepted, ◌then◌}
use Rattle.octets.proofs.Choice.{chosen, decided}
use Rattle.octets.proofs.Answer.{refused-accepted, accepted-same, then-accepted, past-test, test-past}
use Rattle.parts.specs.declared.Span.{Span}
use Rattle.runs.specs.declared.Stop.{Stop}
use Rattle.runs.specs.declared.Stop.TheVariants.{Closed, Ended, Passed}
use Rattle.layout.specs.declared.Shape.{Shape}
use Rattle.parts.specs.declared.Parts.{Parts}
use Rattle.parts.specs.Spans.{span}
use Rattle.layout.specs.Container.{closed, run_from, nothing, past, pointed, variable_from_lem, variable_at_lem, optional_at_lem, variable_slot_lem, optional_slot_lem, start_of, end_of, container_of, shaped_of, of_row, parts_of}
use Rattle.parts.specs.Overlap.{shares_of, contents_of_lem, run_of, held, judged}
use Rattle.runs.specs.Params.{Param, Params, Closes, Run}
use Rattle.layout.specs.Laid.{Points, Variable, Optional, VariableSlot, OptionalSlot, Share, AllApart, LaidOut, Framed}
use Rattle.layout.proofs.Pointed.{pointed_points, points-pointed}
use Rattle.runs.proofs.Runs.{params-on, stop-from, from-stop, params-unique}
use Rattle.layout.proofs.Whole.{container-whole}

pub span-path : (s : Span) (f t : ℕ) → s.from ≡ f → s.to ≡ t → span f t ≡ s
span-path s f t p q = λ i. record { from = sym p i; to = sym q i }

-- ---- a variable parameter
pub variable-exactly : (m : List ℕ) (p e : ℕ) (s : Span) → (variable_at_lem m p e ≡ accepted s) ↔ Variable m e p s
unfolding variable_at_lem
variable-exactly m p e s = (there, back)
  where
    there : variable_at_lem m p e ≡ accepted s → Variable m e p s
    there h =
        let x = then-accepted (pointed m p e) (variable_from_lem m) h in
        let t = x.0 in
        let o = pointed_points m p e x.1 in
        let y = past-test 6 _ (ltb (length m) (past m t)) x.2 in
        let q : span x.0 (past m x.0) ≡ s = accepted-same y.1 in
        let qf : x.0 ≡ s.from = ap (λ (z : Span). z.from) q in
        let qt : past m x.0 ≡ s.to = ap (λ (z : Span). z.to) q in
        let l : past m x.0 ≤ length m = ltb-false _ _ y.0 in
        record { pointed = subst (λ (z : ℕ). Points m e p z) qf o; ends = sym qt ∙ ap (past m) qf; inside = rw (← qt) l }

    back : Variable m e p s → variable_at_lem m p e ≡ accepted s
    back v =
        let c : past m s.from ≤ length m = rw (← v.ends) v.inside in
        ap (λ x. x then variable_from_lem m) (points-pointed v.pointed) ∙ test-past 6 _ (le-ltb _ _ c) (ap accepted (span-path s _ _ refl v.ends))

-- ---- the optional run
closed-exactly : (from : ℕ) (x : Stop) (s : Span) → (closed from x ≡ accepted s) ↔ ((z : ℕ) × (x ≡ Closed z) × (s.from ≡ from) × (s.to ≡ z + 1))
closed-exactly from x s = (there x, λ h. ap (closed from) h.1 ∙ ap accepted (span-path s from (h.0 + 1) h.2 h.3))
  where
    there : (x : Stop) → closed from x ≡ accepted s → (z : ℕ) × (x ≡ Closed z) × (s.from ≡ from) × (s.to ≡ z + 1)
    there (Closed z) h =
        let q : s ≡ span from (z + 1) = sym (accepted-same h) in
        (z, refl, ap (λ (x : Span). x.from) q, ap (λ (x : Span). x.to) q)
    there (Ended z) h = absurd (refused-accepted h)
    there (Passed z) h = absurd (refused-accepted h)

pub run-exactly : (m : List ℕ) (t : ℕ) (s : Span) → (run_from m t ≡ accepted s) ↔ ((s.from ≡ t) × ((qs : List Param) × Run m t qs s.to))
unfolding run_from
run-exactly m t s = (
  λ h.
      let c = (closed-exactly t _ s).0 h in
      let r = from-stop m t (Closed c.0) c.1 in
      (c.2, (r.0, (c.0, r.1, r.2, c.3))),
  λ x.
      let r = x.1.1 in
      (closed-exactly t _ s).1 (r.0, stop-from x.1.0 m t (Closed r.0) r.1 r.2, x.0, r.3),
)

pub optional-exactly : (m : List ℕ) (p e : ℕ) (s : Span) → (optional_at_lem m p e ≡ accepted s) ↔ ((qs : List Param) × Optional m e p qs s)
unfolding optional_at_lem
optional-exactly m p e s = (there, λ o. back o.0 o.1)
  where
    there : optional_at_lem m p e ≡ accepted s → (qs : List Param) × Optional m e p qs s
    there h =
        ⊎_elim
        (λ t. ([], inl (eqb-true _ _ t.0, refl, sym (accepted-same t.1))))
        (λ f.
        let g = then-accepted (pointed m p e) (λ t. run_from m t) f.1 in
        let r = (run-exactly m g.0 s).0 g.2 in
        let o = pointed_points m p e g.1 in
        (r.1.0, inr (eqb-false _ _ f.0, subst (λ (z : ℕ). Points m e p z) (sym r.0) o, subst (λ (x : ℕ). Run m x r.1.0 s.to) (sym r.0) r.1.1)))
        (chosen (eqb (octet m p) 0) h)

    back : (qs : List Param) → Optional m e p qs s → optional_at_lem m p e ≡ accepted s
    back qs =
        ⊎_elim
        (λ a. simp (eq-eqb _ _ a.0) (ap accepted (sym a.2)))
        (λ a. simp (ne_eqb _ _ a.0) (ap (λ x. x then λ t. run_from m t) (points-pointed a.1) ∙ (run-exactly m s.from s).1 (refl, (qs, a.2))))

-- ---- the slots
pub slot-exactly : (m : List ℕ) (at k n e : ℕ) (s : Span) → (variable_slot_lem m at k n e ≡ accepted s) ↔ VariableSlot m e at k n s
unfolding variable_slot_lem
slot-exactly m at k n e s = (
  λ h.
      ⊎_elim
      (λ t. inl (ltb-true _ _ t.0, (variable-exactly m (at + k) e s).0 t.1))
      (λ f. inr (ltb-false _ _ f.0, sym (accepted-same f.1)))
      (chosen (ltb k n) h),
  ⊎_elim
      (λ a. simp (lt-ltb _ _ a.0) ((variable-exactly m (at + k) e s).1 a.1))
      (λ a. simp (le-ltb _ _ a.0) (ap accepted (sym a.1))),
)

pub optional-slot-exactly : (m : List ℕ) (o : Bool) (e : ℕ) (s : Span) → (optional_slot_lem m o e ≡ accepted s) ↔ ((qs : List Param) × OptionalSlot m e o qs s)
unfolding optional_slot_lem
optional-slot-exactly m true e s = optional-exactly m (e - 1) e s
optional-slot-exactly m false e s = (λ h. ([], (refl, sym (accepted-same h))), λ a. ap accepted (sym a.1.1))

-- ---- no two parts share an octet
-- a span that is there has an octet
abbrev pub Proper : Span → Type 0
Proper s = (s ≡ nothing) ⊎ (s.from < s.to)

pub variable-proper : (m : List ℕ) (e at k n : ℕ) (s : Span) → VariableSlot m e at k n s → Proper s
variable-proper m e at k n s = ⊎_elim (λ h. inr (omega (arith, h.1.ends))) (λ h. inl h.1)

pub optional-proper : (o : Bool) (m : List ℕ) (e : ℕ) (qs : List Param) (s : Span) → OptionalSlot m e o qs s → Proper s
optional-proper false m e qs s h = inl h.1
optional-proper true m e qs s h = ⊎_elim (λ x. inl x.2) (λ x. let r = x.2 in inr (omega (arith, params-on qs m s.from r.0 r.1, r.3))) h

pub shares-exactly : (a b : Span) → Proper a → Proper b → (shares_of a b ≡ true) ↔ Share a b
unfolding shares_of
shares-exactly a b pa pb = (
  λ h.
      ⊎_elim (λ t. absurd (let e = t.1 in let z : ◌≡◌ {A = ℕ} 0 1 = cc in omega arith))
      (λ f. ⊎_elim (λ t. absurd (let e = t.1 in let z : ◌≡◌ {A = ℕ} 0 1 = cc in omega arith))
      (λ g.
      let x : a.from < b.to = leb-false _ _ f.0 in
      let y : b.from < a.to = leb-false _ _ g.0 in
      ⊎_elim (λ e. absurd (let z = ap (λ (x : Span). x.to) e in omega arith))
      (λ la. ⊎_elim (λ e. absurd (let z = ap (λ (x : Span). x.to) e in omega arith))
      (λ lb. both x y la lb)
      pb) pa)
      (chosen (leb a.to b.from) f.1))
      (chosen (leb b.to a.from) h),
  λ s.
      let x : a.from < b.to = omega (arith, s.1.0, s.2.1) in
      let y : b.from < a.to = omega (arith, s.1.1, s.2.0) in
      simp (lt-leb _ _ x, lt-leb _ _ y),
)
  where
    both : a.from < b.to → b.from < a.to → a.from < a.to → b.from < b.to → Share a b
    both x y la lb =
        ⊎_elim
        (λ t. (b.from, (omega (arith, ltb-true a.from b.from t), y), (omega arith, lb)))
        (λ f. (a.from, (omega arith, la), (ltb-false _ _ f, x)))
        (decided (ltb a.from b.from))

pub apart-exactly : (a b : Span) → Proper a → Proper b → (shares_of a b ≡ false) ↔ (Share a b → ⊥)
apart-exactly a b pa pb = (
  λ h s. let t = (shares-exactly a b pa pb).1 s in let z : ◌≡◌ {A = ℕ} 0 1 = cc in omega arith,
  λ h. ⊎_elim (λ t. absurd (h ((shares-exactly a b pa pb).0 t))) (λ f. f) (decided (shares_of a b)),
)

module _ (f a b c d : Span) (pa : Proper a) (pb : Proper b) (pc : Proper c) (pd : Proper d) where
  pub judged-exactly : (p : Parts) → (judged f a b c d ≡ accepted p) ↔ (AllApart (a ∷ b ∷ c ∷ d ∷ []) × (held f a b c d ≡ p))
  unfolding judged
  judged-exactly p = (
    λ h.
        let x₁ = past-test 8 _ (shares_of a b) h in
        let x₂ = past-test 8 _ (shares_of a c) x₁.1 in
        let x₃ = past-test 8 _ (shares_of a d) x₂.1 in
        let x₄ = past-test 8 _ (shares_of b c) x₃.1 in
        let x₅ = past-test 8 _ (shares_of b d) x₄.1 in
        let x₆ = past-test 8 _ (shares_of c d) x₅.1 in (
          (
            ((apart-exactly a b pa pb).0 x₁.0, ((apart-exactly a c pa pc).0 x₂.0, ((apart-exactly a d pa pd).0 x₃.0, tt))),
            (((apart-exactly b c pb pc).0 x₄.0, ((apart-exactly b d pb pd).0 x₅.0, tt)), (((apart-exactly c d pc pd).0 x₆.0, tt), (tt, tt))),
          ),
          accepted-same x₆.1,
        ),
    λ x.
        let y = x.0 in
        test-past 8 _ ((apart-exactly a b pa pb).1 y.0.0)
        (test-past 8 _ ((apart-exactly a c pa pc).1 y.0.1.0)
        (test-past 8 _ ((apart-exactly a d pa pd).1 y.0.1.1.0)
        (test-past 8 _ ((apart-exactly b c pb pc).1 y.1.0.0)
        (test-past 8 _ ((apart-exactly b d pb pd).1 y.1.0.1.0)
        (test-past 8 _ ((apart-exactly c d pc pd).1 y.1.1.0.0) (ap accepted x.1)))))),
  )

-- ---- the whole
properly : (m : List ℕ) (w : ℕ) (s : Shape) (k : ℕ) (x : Span) → VariableSlot m (end_of w s) (start_of w s) k s.vars x → Proper x
properly m w s k x = variable-proper m (end_of w s) (start_of w s) k s.vars x

abbrev slot_of : List ℕ → ℕ → Shape → ℕ → Answer Span
slot_of m w s k = variable_slot_lem m (start_of w s) k s.vars (end_of w s)

pub laid-exactly : (m : List ℕ) (w : ℕ) (shape : Shape) (p : Parts) → (shaped_of m w shape ≡ accepted p) ↔ ((qs : List Param) × LaidOut m w shape p qs)
unfolding container_of
laid-exactly m w shape p = (λ h. let t = past-test 3 w (ltb 3 shape.vars) h in let x = past-test 4 _ (ltb (length m) (end_of w shape)) t.1 in there (ltb-false _ _ t.0) x.0 x.1, λ l. test-past 3 w (le-ltb _ _ l.1.few) (back l.0 l.1))
  where
    there : shape.vars ≤ 3 → ltb (length m) (end_of w shape) ≡ false
        → (slot_of m w shape 0 then λ a. slot_of m w shape 1 then λ b. slot_of m w shape 2 then λ c. optional_slot_lem m shape.opt (end_of w shape) then λ d. judged (span (w + 1) (start_of w shape)) a b c d) ≡ accepted p
        → (qs : List Param) × LaidOut m w shape p qs
    there few l h =
        let x₁ = then-accepted (slot_of m w shape 0) _ h in
        let x₂ = then-accepted (slot_of m w shape 1) _ x₁.2 in
        let x₃ = then-accepted (slot_of m w shape 2) _ x₂.2 in
        let x₄ = then-accepted (optional_slot_lem m shape.opt (end_of w shape)) _ x₃.2 in
        let va = (slot-exactly m (start_of w shape) 0 shape.vars (end_of w shape) x₁.0).0 x₁.1 in
        let vb = (slot-exactly m (start_of w shape) 1 shape.vars (end_of w shape) x₂.0).0 x₂.1 in
        let vc = (slot-exactly m (start_of w shape) 2 shape.vars (end_of w shape) x₃.0).0 x₃.1 in
        let o = (optional-slot-exactly m shape.opt (end_of w shape) x₄.0).0 x₄.1 in
        let j = (judged-exactly _ x₁.0 x₂.0 x₃.0 x₄.0 (properly m w shape 0 _ va) (properly m w shape 1 _ vb) (properly m w shape 2 _ vc) (optional-proper shape.opt m (end_of w shape) o.0 x₄.0 o.1) p).0 x₄.2 in
        (o.0, record { a = x₁.0; b = x₂.0; c = x₃.0; d = x₄.0; few = few; whole = ltb-false _ _ l; first = va; second = vb; third = vc; optional = o.1; apart = j.0; holds = sym j.1 })

    back : (qs : List Param) → LaidOut m w shape p qs → container_of m w shape ≡ accepted p
    back qs l =
        sym (container-whole m w shape (end_of w shape) refl l.whole l.a l.b l.c l.d
        ((slot-exactly m (start_of w shape) 0 shape.vars (end_of w shape) l.a).1 l.first)
        ((slot-exactly m (start_of w shape) 1 shape.vars (end_of w shape) l.b).1 l.second)
        ((slot-exactly m (start_of w shape) 2 shape.vars (end_of w shape) l.c).1 l.third)
        ((optional-slot-exactly m shape.opt (end_of w shape) l.d).1 (qs, l.optional)))
        ∙ (judged-exactly _ l.a l.b l.c l.d (properly m w shape 0 _ l.first) (properly m w shape 1 _ l.second) (properly m w shape 2 _ l.third)
        (optional-proper shape.opt m (end_of w shape) qs l.d l.optional) p).1 (l.apart, sym l.holds)

row-inv : (m : List ℕ) (w : ℕ) (r : Option Shape) (p : Parts) → of_row m w r ≡ accepted p → (s : Shape) × (r ≡ Some s) × (shaped_of m w s ≡ accepted p)
row-inv m w (Some s) p h = (s, refl, h)
row-inv m w None p h = absurd (refused-accepted h)

pub parts-exactly : (m : List ℕ) (w most : ℕ) (row : Option Shape) (p : Parts) → (parts_of m w most row ≡ accepted p) ↔ Framed m w most row p
unfolding parts_of
parts-exactly m w most row p = (there, back)
  where
    there : parts_of m w most row ≡ accepted p → Framed m w most row p
    there h =
        let f = past-test 1 0 (leb (length m) w) h in
        let g = past-test 2 0 (ltb most (length m)) f.1 in
        let r = row-inv m w row p g.1 in
        let l = (laid-exactly m w r.0 p).0 r.2 in
        record { shape = r.0; params = l.0; least = leb-false _ _ f.0; most = ltb-false _ _ g.0; listed = r.1; laid = l.1 }

    back : Framed m w most row p → parts_of m w most row ≡ accepted p
    back f = simp (lt-leb _ _ f.least, le-ltb _ _ f.most, f.listed) ((laid-exactly m w f.shape p).1 (f.params, f.laid))

-- a message lays its parts out in one way only
pub laid-unique : (m : List ℕ) (w : ℕ) (shape : Shape) (p p' : Parts) (qs qs' : List Param) → LaidOut m w shape p qs → LaidOut m w shape p' qs' → p ≡ p'
laid-unique m w shape p p' qs qs' l l' = accepted-same (sym ((laid-exactly m w shape p).1 (qs, l)) ∙ (laid-exactly m w shape p').1 (qs', l'))

-- and its optional parameters
pub laid-params-unique : (m : List ℕ) (w : ℕ) (shape : Shape) (p p' : Parts) (qs qs' : List Param) → LaidOut m w shape p qs → LaidOut m w shape p' qs' → qs ≡ qs'
laid-params-unique m w shape p p' qs qs' l l' = go shape.opt l.optional l'.optional
  where
    go : (o : Bool) → OptionalSlot m (end_of w shape) o qs l.d → OptionalSlot m (end_of w shape) o qs' l'.d → qs ≡ qs'
    go false x x' = x.0 ∙ sym x'.0
    go true x x' =
        ⊎_elim
        (λ y. ⊎_elim (λ y'. y.1 ∙ sym y'.1) (λ y'. absurd (y'.0 y.0)) x')
        (λ y. ⊎_elim
        (λ y'. absurd (y.0 y'.0))
        (λ y'.
        let e : l'.d.from ≡ l.d.from = y'.1.counted ∙ sym y.1.counted in
        let r = y.2 in
        let r' = y'.2 in
        (params-unique qs qs' m l.d.from r.0 r'.0 r.1 (subst (λ (z : ℕ). Params m z qs' r'.0) e r'.1) (inl r.2) (inl r'.2)).0)
        x')
        x

-- a variable pointer of 0 is never accepted
pub no-zero-pointer : (m : List ℕ) (w : ℕ) (shape : Shape) (p : Parts) (qs : List Param) (k : ℕ) → k < shape.vars → LaidOut m w shape p qs → octet m (start_of w shape + k) ≡ 0 → ⊥
no-zero-pointer m w shape p qs k v l z =
    ⊎_elim (λ e. out 0 _ (sym e) l.first) (⊎_elim (λ e. out 1 _ (sym e) l.second) (λ e. out 2 _ (sym e) l.third)) (cases k (omega (arith, l.few)))
  where
    out : (j : ℕ) (s : Span) → j ≡ k → VariableSlot m (end_of w shape) (start_of w shape) j shape.vars s → ⊥
    out j s e = ⊎_elim (λ x. omega (arith, x.1.pointed.counted, x.1.pointed.behind, ap (λ (i : ℕ). octet m (start_of w shape + i)) e)) (λ x. omega (arith, x.0))

    cases : (k : ℕ) → k < 3 → (k ≡ 0) ⊎ ((k ≡ 1) ⊎ (k ≡ 2))
    cases zero h = inl refl
    cases (suc zero) h = inr (inl refl)
    cases (suc (suc zero)) h = inr (inr refl)
    cases (suc (suc (suc k))) h = absurd (omega arith)

-- the optional run that the parts name holds the parameters, up to the 0 that
-- closes it; an empty run holds none
pub run-params : (m : List ℕ) (w : ℕ) (shape : Shape) (p : Parts) (qs : List Param) → LaidOut m w shape p qs
    → ((p.optional.from < p.optional.to) × Params m p.optional.from qs p.optional.to × Closes m p.optional.to) ⊎ ((p.optional.to ≤ p.optional.from) × (qs ≡ []))
unfolding held
run-params m w shape p qs l = rw l.holds (go shape.opt l.optional)
  where
    none : (s : Span) → s ≡ nothing → qs ≡ [] → (((run_of s).from < (run_of s).to) × Params m (run_of s).from qs (run_of s).to × Closes m (run_of s).to) ⊎ (((run_of s).to ≤ (run_of s).from) × (qs ≡ []))
    none s e q = rw e (inr (omega arith, q))

    some : (s : Span) → Run m s.from qs s.to → (((run_of s).from < (run_of s).to) × Params m (run_of s).from qs (run_of s).to × Closes m (run_of s).to) ⊎ (((run_of s).to ≤ (run_of s).from) × (qs ≡ []))
    some s r =
        let z = r.0 in
        let on = params-on qs m s.from r.0 r.1 in
        let h : s.from < s.to = omega (arith, r.3) in
        let e : s.to - 1 ≡ r.0 = omega (arith, r.3) in
        simp (lt-ltb _ _ h, e) (empty-or-not qs s.from r.0 r.1 r.2)
      where
        empty-or-not : (qs : List Param) (i z : ℕ) → Params m i qs z → Closes m z → ((i < z) × Params m i qs z × Closes m z) ⊎ ((z ≤ i) × (qs ≡ []))
        empty-or-not [] i z p c = inr (omega arith, refl)
        empty-or-not (q ∷ qs) i z p c = inl (omega (arith, params-on qs m p.0 z p.2, p.1.ends), p, c)

    go : (o : Bool) → OptionalSlot m (end_of w shape) o qs l.d → (((run_of l.d).from < (run_of l.d).to) × Params m (run_of l.d).from qs (run_of l.d).to × Closes m (run_of l.d).to) ⊎ (((run_of l.d).to ≤ (run_of l.d).from) × (qs ≡ []))
    go false x = none l.d x.1 x.0
    go true x = ⊎_elim (λ y. none l.d y.2 y.1) (λ y. some l.d y.2) x

-- ---- the parts lie within the message
abbrev pub Inside : List ℕ → Span → Type 0
Inside m s = (s.from ≤ s.to) × (s.to ≤ length m)

contents-inside : (m : List ℕ) (e at k n : ℕ) (s : Span) → VariableSlot m e at k n s → Inside m (contents_of_lem s)
contents-inside m e at k n s =
    ⊎_elim
    (λ v. let h : s.from < s.to = omega (arith, v.1.ends) in simp (lt-ltb _ _ h) (omega arith, v.1.inside))
    (λ v. rw v.1 (omega arith, omega arith))

pub parts-inside : (m : List ℕ) (w : ℕ) (shape : Shape) (p : Parts) (qs : List Param) → LaidOut m w shape p qs
    → Inside m p.fixed × Inside m p.first × Inside m p.second × Inside m p.third × Inside m p.optional
unfolding held
parts-inside m w shape p qs l =
    rw l.holds (
      (omega arith, omega (arith, l.whole)),
      contents-inside m (end_of w shape) (start_of w shape) 0 shape.vars l.a l.first,
      contents-inside m (end_of w shape) (start_of w shape) 1 shape.vars l.b l.second,
      contents-inside m (end_of w shape) (start_of w shape) 2 shape.vars l.c l.third,
      go shape.opt l.optional,
    )
  where
    go : (o : Bool) → OptionalSlot m (end_of w shape) o qs l.d → Inside m (run_of l.d)
    go false x = rw x.1 (omega arith, omega arith)
    go true x =
        ⊎_elim
        (λ y. rw y.2 (omega arith, omega arith))
        (λ y.
        let r = y.2 in
        let on = params-on qs m l.d.from r.0 r.1 in
        let h : l.d.from < l.d.to = omega (arith, r.3) in
        simp (lt-ltb _ _ h) (omega (arith, r.3), omega (arith, r.3, r.2.0)))
        x
