-- A message, what it says, and what it says written again.
use Prim.Native.Nat.{ℕ, zero, suc, ◌+◌, ◌-◌, ◌≤◌, ◌<◌}
use mathlib.Core.Path.{◌≡◌, refl, sym, ◌∙◌, ap, subst}
use mathlib.Core.Bool.{Bool, true, false}
use mathlib.Core.List.{List, [], ◌∷◌}
use mathlib.Core.Logic.{⊎_elim}
use native.Mathlib.Omega.{arith}
use borrow.Author.Tests.{lt-ltb}
use lib.ListN.{length, take, length-append}
use lib.Seq.{length-take-le}
use Rattle.octets.specs.Octet.{octet, octets}
use Rattle.octets.proofs.Octet.{length-octets, Within, within-octets, within-join, within-at, within-nothing, within-one, within-stretch}
use Rattle.octets.proofs.Counting.{inside}
use Rattle.parts.specs.declared.Span.{Span}
use Rattle.layout.specs.declared.Shape.{Shape}
use Rattle.parts.specs.declared.Parts.{Parts}
use Rattle.runs.specs.Run.{is_run_lem}
use Rattle.layout.specs.Container.{nothing, bit, start_of, end_of}
use Rattle.parts.specs.Overlap.{contents_of_lem, run_of, held}
use Rattle.layout.specs.Laid.{Variable, VariableSlot, OptionalSlot, LaidOut}
use Rattle.runs.specs.Params.{Param, Params}
use Rattle.runs.proofs.Runs.{params-on}
use Rattle.runs.proofs.Exactly.{is-run-exactly}
use Rattle.layout.proofs.Exactly.{run-params, parts-inside}
use Rattle.writing.specs.Write.{contents_in, pointers, ahead, variables, run_pointer, closed_run_lem, gap_of, form_of, order_octets, Fits}
use Rattle.writing.specs.Compact.{Tight, Compact, said_with, said_by}
use Rattle.parts.specs.Spans.{part_of}
use Rattle.writing.proofs.Plain.{Count, none, one, two, more, counted}
use Rattle.writing.proofs.Placed.{ahead-sum, assembled}
use Rattle.writing.proofs.Storing.{closed_run}

-- ---- what a message says fits its shape
slot-empty : (m : List ℕ) (e at k n : ℕ) (s : Span) → VariableSlot m e at k n s → n ≤ k → s ≡ nothing
slot-empty m e at k n s v h = ⊎_elim (λ x. absurd (omega (arith, x.0))) (λ x. x.1) v

empty-part : (m : List ℕ) (s : Span) → s ≡ nothing → part_of m (contents_of_lem s) ≡ []
empty-part m s e = rw e refl

optional-empty : (o : Bool) (m : List ℕ) (e : ℕ) (qs : List Param) (s : Span) → OptionalSlot m e o qs s → o ≡ false → s ≡ nothing
optional-empty false m e qs s h q = h.1
optional-empty true m e qs s h q = absurd (let z : ◌≡◌ {A = ℕ} 0 1 = cc in omega arith)

module _ (m : List ℕ) (w : ℕ) (s : Shape) (p : Parts) (qs : List Param) (l : LaidOut m w s p qs) where
  pub said_fits : (head : List ℕ) → Fits s (said_with head m w p)
  unfolding held
  said_fits head = rw l.holds (record {
    few = l.few;
    fixed = (let e : w + 1 + s.fixed - (w + 1) ≡ s.fixed = omega arith in length-octets m (w + 1) (w + 1 + s.fixed - (w + 1)) (omega (arith, l.whole)) ∙ e);
    first = λ h. empty-part m l.a (slot-empty m (end_of w s) (start_of w s) 0 s.vars l.a l.first h);
    second = λ h. empty-part m l.b (slot-empty m (end_of w s) (start_of w s) 1 s.vars l.b l.second h);
    third = λ h. empty-part m l.c (slot-empty m (end_of w s) (start_of w s) 2 s.vars l.c l.third h);
    run = λ e. (let q = optional-empty s.opt m (end_of w s) qs l.d l.optional e in rw q refl);
  })

-- ---- its run is whole parameters, the message's
params-down : (m r : List ℕ) (u : ℕ) → Within m u r → (qs : List Param) (i z : ℕ) → z ≤ length r → Params m (u + i) qs (u + z) → Params r i qs z
params-down m r u w [] i z h p = omega arith
params-down m r u w (q ∷ qs) i z h p =
    let x = p.1 in
    let on = params-on qs m p.0 (u + z) p.2 in
    let n₀ = w.same i (omega arith) in
    let n₁ = w.same (i + 1) (omega arith) in
    let e₁ : u + i + 1 ≡ u + (i + 1) = omega arith in
    let e₂ : u + i + 2 ≡ u + (i + 2) = omega arith in
    let l : octet m (u + i + 1) ≡ octet r (i + 1) = ap (octet m) e₁ ∙ n₁ in
    let k : u + (p.0 - u) ≡ p.0 = omega arith in (
      p.0 - u,
      record {
        named = x.named ∙ n₀;
        not-zero = λ y. x.not-zero (n₀ ∙ y);
        ends = omega (arith, x.ends);
        inside = omega arith;
        holds = x.holds ∙ (λ j. octets m (e₂ j) (l j)) ∙ within-octets w (i + 2) (octet r (i + 1)) (omega (arith, x.ends));
      },
      params-down m r u w qs (p.0 - u) z h (subst (λ (y : ℕ). Params m y qs (u + z)) (sym k) p.2),
    )

pub said-params : (m : List ℕ) (w : ℕ) (s : Shape) (p : Parts) (qs : List Param) → LaidOut m w s p qs → Params (part_of m p.optional) 0 qs (length (part_of m p.optional))
said-params m w s p qs l =
    let f = p.optional.from in
    let t = p.optional.to in
    let i = (parts-inside m w s p qs l).4 in
    let r = octets m p.optional.from (p.optional.to - p.optional.from) in
    let n : length (octets m p.optional.from (p.optional.to - p.optional.from)) ≡ p.optional.to - p.optional.from = length-octets m p.optional.from (p.optional.to - p.optional.from) (omega (arith, i.0, i.1)) in
    ⊎_elim
    (λ x.
    let e₀ : p.optional.from ≡ p.optional.from + 0 = omega arith in
    let e₁ : p.optional.to ≡ p.optional.from + length (octets m p.optional.from (p.optional.to - p.optional.from)) = omega (arith, i.0) in
    params-down m (octets m p.optional.from (p.optional.to - p.optional.from)) p.optional.from (within-stretch m p.optional.from (p.optional.to - p.optional.from) (omega (arith, i.0, i.1))) qs 0
    (length (octets m p.optional.from (p.optional.to - p.optional.from))) (omega arith) (subst (λ (z : ℕ). Params m z qs (p.optional.from + length (octets m p.optional.from (p.optional.to - p.optional.from)))) e₀ (subst (λ (z : ℕ). Params m p.optional.from qs z) e₁ x.1)))
    (λ x. rw x.1 (omega (arith, x.0)))
    (run-params m w s p qs l)

pub said-run : (m : List ℕ) (w : ℕ) (s : Shape) (p : Parts) (qs : List Param) → LaidOut m w s p qs → is_run_lem (part_of m p.optional) ≡ true
said-run m w s p qs l = (is-run-exactly (part_of m p.optional)).1 (qs, said-params m w s p qs l)

-- ---- a message in compact form is what it says, written
-- the variable parameters whose pointers stand from p on
AllVariable : List ℕ → ℕ → ℕ → List Span → Type 0
AllVariable m e p [] = Unit {0}
AllVariable m e p (s ∷ ss) = Variable m e p s × AllVariable m e (p + 1) ss

-- they follow one another from t to z
Following : ℕ → List Span → ℕ → Type 0
Following t [] z = z ≡ t
Following t (s ∷ ss) z = (s.from ≡ t) × Following s.to ss z

-- what they hold
held_in : List ℕ → List Span → List (List ℕ)
held_in m [] = []
held_in m (s ∷ ss) = part_of m (contents_of_lem s) ∷ held_in m ss

pub variable-contents : (m : List ℕ) (e p : ℕ) (s : Span) → Variable m e p s → (length (part_of m (contents_of_lem s)) ≡ octet m s.from) × (part_of m (contents_of_lem s) ≡ octets m (s.from + 1) (octet m s.from))
variable-contents m e p s v =
    let h : s.from < s.to = omega (arith, v.ends) in
    let n : s.to - (s.from + 1) ≡ octet m s.from = omega (arith, v.ends) in
    let q : part_of m (contents_of_lem s) ≡ octets m (s.from + 1) (octet m s.from) = simp (lt-ltb _ _ h) (ap (octets m (s.from + 1)) n) in
    (ap length q ∙ length-octets m (s.from + 1) (octet m s.from) (omega (arith, v.ends, v.inside)), q)

record Standing (m : List ℕ) (p t z g : ℕ) (vs : List (List ℕ)) : Type 0 where
  pointing : Within m p (pointers g vs)
  contents : Within m t (variables vs)
  ending : z ≡ t + length (variables vs)

standing : (m : List ℕ) (e : ℕ) (ss : List Span) (p g t z : ℕ) → p ≤ length m → t ≤ length m → AllVariable m e p ss → Following t ss z → p + g ≡ t → Standing m p t z g (held_in m ss)
unfolding AllVariable Following held_in pointers variables
standing m e [] p g t z a b v f q = record { pointing = within-nothing a; contents = within-nothing b; ending = omega arith }
standing m e (s ∷ ss) p g t z a b v f q =
    let x = v.0 in
    let c = part_of m (contents_of_lem s) in
    let n = variable-contents m e p s v.0 in
    let ft : s.from ≡ t = f.0 in
    let pm : p < length m = omega (arith, x.pointed.counted, x.pointed.within) in
    let st : s.to ≡ t + 1 + length (part_of m (contents_of_lem s)) = omega (arith, x.ends, n.0) in
    let r = standing m e ss (p + 1) (g + length (part_of m (contents_of_lem s))) s.to z (omega arith) x.inside v.1 f.1 (omega arith) in
    let e₁ : t + 1 ≡ s.from + 1 = omega arith in
    let here : Within m t (length (part_of m (contents_of_lem s)) ∷ part_of m (contents_of_lem s)) =
    within-join (length (part_of m (contents_of_lem s)) ∷ []) (part_of m (contents_of_lem s)) (within-one (omega (arith, x.pointed.within)) (ap (octet m) (sym ft) ∙ sym n.0))
    (within-at (t + 1) (sym e₁) (rw n.1 (within-stretch m (s.from + 1) (octet m s.from) (omega (arith, x.ends, x.inside))))) in
    record {
      pointing = within-join (g ∷ []) (pointers (g + length (part_of m (contents_of_lem s))) (held_in m ss)) (within-one pm (omega (arith, x.pointed.counted))) r.pointing;
      contents = within-join (length (part_of m (contents_of_lem s)) ∷ part_of m (contents_of_lem s)) (variables (held_in m ss)) here (within-at _ (omega arith) r.contents);
      ending = omega (arith, r.ending, length-append (length (part_of m (contents_of_lem s)) ∷ part_of m (contents_of_lem s)) (variables (held_in m ss)));
    }

-- a part that is not there is passed over, and one that is there follows
tight-skip : (e z : ℕ) (s : Span) (ss : List Span) → s ≡ nothing → Tight e (s ∷ ss) z → Tight e ss z
tight-skip e z s ss q t = ⊎_elim (λ x. x.1) (λ x. absurd (omega (arith, x.1, ap (λ (y : Span). y.from) q, ap (λ (y : Span). y.to) q))) t

tight-take : (e z : ℕ) (s : Span) (ss : List Span) → s.from < s.to → Tight e (s ∷ ss) z → (s.from ≡ e) × Tight s.to ss z
tight-take e z s ss h t = ⊎_elim (λ x. absurd (omega (arith, ap (λ (y : Span). y.from) x.0, ap (λ (y : Span). y.to) x.0))) (λ x. (x.0, x.2)) t

slot-there : (m : List ℕ) (e at k n : ℕ) (s : Span) → VariableSlot m e at k n s → k < n → Variable m e (at + k) s
slot-there m e at k n s v h = ⊎_elim (λ x. x.1) (λ x. absurd (omega (arith, x.0))) v

proper : {m : List ℕ} {e p : ℕ} {s : Span} → Variable m e p s → s.from < s.to
proper v = omega (arith, v.ends)

-- the variable parts, as they follow, and the rest
variables-follow : (m : List ℕ) (e at n z : ℕ) (a b c d : Span) → n ≤ 3 → Count n → VariableSlot m e at 0 n a → VariableSlot m e at 1 n b → VariableSlot m e at 2 n c → Tight e (a ∷ b ∷ c ∷ d ∷ []) z
    → AllVariable m e at (take n (a ∷ b ∷ c ∷ [])) × ((y : ℕ) × Following e (take n (a ∷ b ∷ c ∷ [])) y × Tight y (d ∷ []) z)
unfolding AllVariable Following
variables-follow m e at n z a b c d h none va vb vc t =
    let t₁ = tight-skip e z a (b ∷ c ∷ d ∷ []) (slot-empty m e at 0 0 a va (omega arith)) t in
    let t₂ = tight-skip e z b (c ∷ d ∷ []) (slot-empty m e at 1 0 b vb (omega arith)) t₁ in
    (tt, (e, refl, tight-skip e z c (d ∷ []) (slot-empty m e at 2 0 c vc (omega arith)) t₂))
variables-follow m e at n z a b c d h one va vb vc t =
    let x₀ : at + 0 ≡ at = omega arith in
    let a' = subst (λ (k : ℕ). Variable m e k a) x₀ (slot-there m e at 0 1 a va (omega arith)) in
    let t₁ = tight-take e z a (b ∷ c ∷ d ∷ []) (proper a') t in
    let t₂ = tight-skip _ z b (c ∷ d ∷ []) (slot-empty m e at 1 1 b vb (omega arith)) t₁.1 in
    ((a', tt), (a.to, (t₁.0, refl), tight-skip _ z c (d ∷ []) (slot-empty m e at 2 1 c vc (omega arith)) t₂))
variables-follow m e at n z a b c d h two va vb vc t =
    let x₀ : at + 0 ≡ at = omega arith in
    let a' = subst (λ (k : ℕ). Variable m e k a) x₀ (slot-there m e at 0 2 a va (omega arith)) in
    let b' = slot-there m e at 1 2 b vb (omega arith) in
    let t₁ = tight-take e z a (b ∷ c ∷ d ∷ []) (proper a') t in
    let t₂ = tight-take a.to z b (c ∷ d ∷ []) (proper b') t₁.1 in
    ((a', (b', tt)), (b.to, (t₁.0, (t₂.0, refl)), tight-skip _ z c (d ∷ []) (slot-empty m e at 2 2 c vc (omega arith)) t₂.1))
variables-follow m e at n z a b c d h (more zero) va vb vc t =
    let x₀ : at + 0 ≡ at = omega arith in
    let x₂ : at + 2 ≡ at + 1 + 1 = omega arith in
    let a' = subst (λ (k : ℕ). Variable m e k a) x₀ (slot-there m e at 0 3 a va (omega arith)) in
    let b' = slot-there m e at 1 3 b vb (omega arith) in
    let c' = subst (λ (k : ℕ). Variable m e k c) x₂ (slot-there m e at 2 3 c vc (omega arith)) in
    let t₁ = tight-take e z a (b ∷ c ∷ d ∷ []) (proper a') t in
    let t₂ = tight-take a.to z b (c ∷ d ∷ []) (proper b') t₁.1 in
    let t₃ = tight-take b.to z c (d ∷ []) (proper c') t₂.1 in
    ((a', (b', (c', tt))), (c.to, (t₁.0, (t₂.0, (t₃.0, refl))), t₃.1))
variables-follow m e at n z a b c d h (more (suc k)) va vb vc t = absurd (omega arith)

held-takes : (m : List ℕ) (n : ℕ) (a b c : Span) → Count n → held_in m (take n (a ∷ b ∷ c ∷ [])) ≡ take n (part_of m (contents_of_lem a) ∷ part_of m (contents_of_lem b) ∷ part_of m (contents_of_lem c) ∷ [])
unfolding held_in
held-takes m n a b c none = refl
held-takes m n a b c one = refl
held-takes m n a b c two = refl
held-takes m n a b c (more zero) = refl
held-takes m n a b c (more (suc k)) = refl

run-pointed : (r : List ℕ) (g : ℕ) → (length r ≡ 0 → ⊥) → run_pointer true g r ≡ g ∷ []
unfolding run_pointer
run-pointed [] g h = absurd (h refl)
run-pointed (x ∷ xs) g h = refl

-- the optional part, which starts where the variable parts end
record Ending (m : List ℕ) (o : Bool) (e y g : ℕ) (r : List ℕ) : Type 0 where
  pointing : Within m (e - bit o) (run_pointer o g r)
  contents : Within m y (closed_run_lem r)
  ending : length m ≡ y + length (closed_run_lem r)

last-part : (m : List ℕ) (o : Bool) (e y g : ℕ) (qs : List Param) (d : Span) → bit o ≤ e → e ≤ length m → y ≤ length m → e - bit o + g ≡ y → OptionalSlot m e o qs d → Tight y (d ∷ []) (length m) → (qs ≡ [] → d ≡ nothing)
    → Ending m o e y g (part_of m (run_of d))
unfolding run_pointer closed_run_lem
last-part m false e y g qs d i a b q x t n =
    let z : length m ≡ y = tight-skip y (length m) d [] x.1 t in
    rw x.1 (record { pointing = within-nothing (omega arith); contents = within-nothing b; ending = omega arith })
last-part m true e y g qs d i a b q x t n =
    ⊎_elim
    (λ v.
    let z : length m ≡ y = tight-skip y (length m) d [] v.2 t in
    rw v.2 (record { pointing = within-one (omega arith) v.0; contents = within-nothing b; ending = omega arith }))
    (λ v.
    let r = v.2 in
    let ls : d.from < r.0 = some qs r.0 r.1 r.3 n in
    let h : d.from < d.to = omega (arith, r.3) in
    let tk = tight-take y (length m) d [] h t in
    let lm : length m ≡ d.to = tk.1 in
    let c : d.to - 1 - d.from ≡ r.0 - d.from = omega (arith, r.3) in
    let rr : part_of m (run_of d) ≡ octets m d.from (r.0 - d.from) = simp (lt-ltb _ _ h) (ap (octets m d.from) c) in
    let n₁ : length (part_of m (run_of d)) ≡ r.0 - d.from = ap length rr ∙ length-octets m d.from (r.0 - d.from) (omega (arith, r.2.0)) in
    let ne : length (part_of m (run_of d)) ≡ 0 → ⊥ = (λ k. omega arith) in
    let w : Within m y (part_of m (run_of d)) = within-at y tk.0 (rw rr (within-stretch m d.from (r.0 - d.from) (omega (arith, r.2.0)))) in
    let k : y + length (part_of m (run_of d)) ≡ r.0 = omega (arith, tk.0) in
    record {
      pointing = rw (run-pointed (part_of m (run_of d)) g ne) (within-one (omega arith) (omega (arith, v.1.counted, tk.0)));
      contents = rw (closed_run (part_of m (run_of d)) ne) (within-join (part_of m (run_of d)) (0 ∷ []) w (within-at _ (sym k) (within-one r.2.0 r.2.1)));
      ending = rw (closed_run (part_of m (run_of d)) ne) (omega (arith, r.3, tk.0, length-append (part_of m (run_of d)) (0 ∷ [])));
    })
    x
  where
    some : (qs : List Param) (z : ℕ) → Params m d.from qs z → d.to ≡ z + 1 → (qs ≡ [] → d ≡ nothing) → d.from < z
    some [] z p e n = absurd (omega (arith, ap (λ (s : Span). s.to) (n refl)))
    some (q ∷ qs) z p e n = omega (arith, params-on qs m p.0 z p.2, p.1.ends)

pub compact-is : (m : List ℕ) (w : ℕ) (s : Shape) (p : Parts) (qs : List Param) → Compact m w s p qs → m ≡ order_octets s (said_by m w p)
unfolding form_of held
compact-is m w s p qs x =
    let l = x.laid in
    let few = x.laid.few in
    let e = end_of w s in
    let n = counted s.vars in
    let v = variables-follow m (end_of w s) (start_of w s) s.vars (length m) l.a l.b l.c l.d few (counted s.vars) l.first l.second l.third x.tight in
    let y = v.1.0 in
    let st₀ = standing m (end_of w s) (take s.vars (l.a ∷ l.b ∷ l.c ∷ [])) (start_of w s) (s.vars + bit s.opt) (end_of w s) v.1.0 (omega (arith, l.whole)) l.whole v.0 v.1.1 (omega arith) in
    let hv : held_in m (take s.vars (l.a ∷ l.b ∷ l.c ∷ [])) ≡ contents_in s (said_by m w p) = held-takes m s.vars l.a l.b l.c (counted s.vars) ∙ rw l.holds refl in
    let nv : length (contents_in s (said_by m w p)) ≡ s.vars = length-take-le s.vars _ few in
    let ge : s.vars + bit s.opt ≡ gap_of s.opt (contents_in s (said_by m w p)) = omega arith in
    let st : Standing m (start_of w s) (end_of w s) v.1.0 (gap_of s.opt (contents_in s (said_by m w p))) (contents_in s (said_by m w p)) =
    subst (λ (k : ℕ). Standing m (start_of w s) (end_of w s) v.1.0 k (contents_in s (said_by m w p))) ge (subst (λ (k : List (List ℕ)). Standing m (start_of w s) (end_of w s) v.1.0 (s.vars + bit s.opt) k) hv st₀) in
    let ae = ahead-sum (gap_of s.opt (contents_in s (said_by m w p))) (contents_in s (said_by m w p)) in
    let rq : part_of m (run_of l.d) ≡ part_of m p.optional = rw l.holds refl in
    let en : Ending m s.opt (end_of w s) v.1.0 (ahead (gap_of s.opt (contents_in s (said_by m w p))) (contents_in s (said_by m w p))) (part_of m p.optional) =
    subst (λ (k : List ℕ). Ending m s.opt (end_of w s) v.1.0 (ahead (gap_of s.opt (contents_in s (said_by m w p))) (contents_in s (said_by m w p))) k) rq
    (last-part m s.opt (end_of w s) v.1.0 (ahead (gap_of s.opt (contents_in s (said_by m w p))) (contents_in s (said_by m w p))) qs l.d
    (omega arith) l.whole (let q = st.contents.inside in let k = st.ending in omega arith) (omega (arith, st.ending)) l.optional v.1.2 x.dropped) in
    let fq : part_of m p.fixed ≡ octets m (w + 1) (start_of w s - (w + 1)) = rw l.holds refl in
    let nf : length (part_of m p.fixed) ≡ s.fixed = (said_fits m w s p qs x.laid []).fixed in
    let nh : length (octets m 0 w) ≡ w = length-octets m 0 w (omega (arith, l.whole)) in
    let fx : Within m (w + 1) (part_of m p.fixed) = rw fq (within-stretch m (w + 1) (start_of w s - (w + 1)) (omega (arith, l.whole))) in
    assembled _ _ _ _ _ _ (record {
      heads = within-stretch m 0 w (omega (arith, l.whole));
      kinds = within-join (octet m w ∷ []) (part_of m p.fixed) (within-at _ (omega arith) (within-one (omega (arith, l.whole)) refl)) (within-at _ (omega arith) fx);
      pointing = within-at _ (omega arith) st.pointing;
      lasts = within-at _ (omega arith) en.pointing;
      contents = within-at _ (omega arith) st.contents;
      optional = within-at _ (omega (arith, st.ending)) en.contents;
      ending = omega (arith, en.ending, st.ending);
    })

-- two messages in compact form that say the same are the same octets
pub compact-one : (m m' : List ℕ) (w : ℕ) (s : Shape) (p p' : Parts) (qs qs' : List Param) → Compact m w s p qs → Compact m' w s p' qs' → said_by m w p ≡ said_by m' w p' → m ≡ m'
compact-one m m' w s p p' qs qs' x x' e = compact-is m w s p qs x ∙ ap (order_octets s) e ∙ sym (compact-is m' w s p' qs' x')
