-- Where the parts of the compact form stand.
use Prim.Native.Nat.{ℕ, zero, suc, ◌+◌, ◌-◌, ◌≤◌, ◌<◌}
use mathlib.Core.Path.{◌≡◌, refl, sym, ◌∙◌, ap, subst}
use mathlib.Core.Bool.{Bool, true, false}
use mathlib.Core.List.{List, [], ◌∷◌, ◌++◌}
use mathlib.Core.Logic.{◌⊎◌, inl, inr, ⊎_elim}
use native.Mathlib.Omega.{arith}
use native.Mathlib.Nat.{le_of_suc-le-suc}
use lib.ListN.{length, get_or, length-append}
use Rattle.octets.specs.Octet.{octet, octets}
use Rattle.octets.proofs.Octet.{Within, within-octets, within-left, within-right, within-at, within-self, within-head, within-join, within-whole}
use Rattle.parts.specs.declared.Span.{Span}
use Rattle.parts.specs.Spans.{span}
use Rattle.layout.specs.Container.{nothing, bit}
use Rattle.layout.specs.Laid.{Variable, OptionalSlot, Share}
use Rattle.runs.specs.Params.{Param, Params}
use Rattle.writing.specs.Write.{pointers, ahead, variables, run_pointer, closed_run_lem, gap_of, form_of}

-- where the variable parameters lie, the first at t
unfoldable pub spans_from : ℕ → List (List ℕ) → List Span
spans_from t [] = []
spans_from t (c ∷ cs) = span t (t + 1 + length c) ∷ spans_from (t + 1 + length c) cs

-- the optional part's span, where it starts at u
unfoldable pub opt_span : ℕ → List ℕ → Span
opt_span u [] = nothing
opt_span u (x ∷ xs) = span u (u + length (x ∷ xs) + 1)

pub length-pointers : (g : ℕ) (vs : List (List ℕ)) → length (pointers g vs) ≡ length vs
unfolding pointers
length-pointers g [] = refl
length-pointers g (c ∷ cs) = ap suc (length-pointers (g + length c) cs)

pub length-spans : (t : ℕ) (vs : List (List ℕ)) → length (spans_from t vs) ≡ length vs
unfolding spans_from
length-spans t [] = refl
length-spans t (c ∷ cs) = ap suc (length-spans (t + 1 + length c) cs)

length-run-pointer : (o : Bool) (g : ℕ) (r : List ℕ) → length (run_pointer o g r) ≡ bit o
unfolding run_pointer
length-run-pointer false g r = refl
length-run-pointer true g [] = refl
length-run-pointer true g (x ∷ xs) = refl

-- the optional pointer points past the variable parameters
pub ahead-sum : (g : ℕ) (vs : List (List ℕ)) → ahead g vs + length vs ≡ g + length (variables vs)
unfolding ahead variables
ahead-sum g [] = refl
ahead-sum g (c ∷ cs) = omega (arith, ahead-sum (g + length c) cs, length-append (length c ∷ c) (variables cs))

pub variables-long : (vs : List (List ℕ)) → length vs ≤ length (variables vs)
unfolding variables
variables-long [] = omega arith
variables-long (c ∷ cs) = omega (arith, variables-long cs, length-append (length c ∷ c) (variables cs))

module _ (m : List ℕ) where
  pub vars-placed : (vs : List (List ℕ)) (p g t e : ℕ) → Within m p (pointers g vs) → Within m t (variables vs) → p + g ≡ t → e ≤ t
      → (k : ℕ) → k < length vs → Variable m e (p + k) (get_or (spans_from t vs) k nothing)
  unfolding pointers variables spans_from
  vars-placed [] p g t e s v q h k l = absurd (omega arith)
  vars-placed (c ∷ cs) p g t e s v q h zero l =
      let cv : Within m t (length c ∷ c) = within-left (length c ∷ c) (variables cs) v in
      let i : t + suc (length c) ≤ length m = cv.inside in
      let g' : octet m p ≡ g = within-head s in
      let n : octet m t ≡ length c = within-head cv in
      let z : p ≡ p + 0 = omega arith in
      subst (λ (x : ℕ). Variable m e x (span t (t + 1 + length c))) z
      (record { pointed = record { counted = omega arith; behind = h; within = omega arith }; ends = omega arith; inside = omega arith })
  vars-placed (c ∷ cs) p g t e s v q h (suc k) l =
      let z : p + 1 + k ≡ p + suc k = omega arith in
      subst (λ (x : ℕ). Variable m e x (get_or (spans_from (t + 1 + length c) cs) k nothing)) z
      (vars-placed cs (p + 1) (g + length c) (t + 1 + length c) e
      (within-right (g ∷ []) (pointers (g + length c) cs) s)
      (within-at (t + 1 + length c) (omega arith) (within-right (length c ∷ c) (variables cs) v))
      (omega arith) (omega arith) k (le_of_suc-le-suc l))

  -- a run of parameters that stands in the message from u on
  params-shift : (r : List ℕ) (u : ℕ) → Within m u r → (qs : List Param) (i z : ℕ) → Params r i qs z → Params m (u + i) qs (u + z)
  params-shift r u w [] i z p = ap (λ k. u + k) p
  params-shift r u w (q ∷ qs) i z p =
      let x = p.1 in
      let n₀ = w.same i (omega arith) in
      let n₁ = w.same (i + 1) (omega arith) in
      let e₁ : u + i + 1 ≡ u + (i + 1) = omega arith in
      let e₂ : u + i + 2 ≡ u + (i + 2) = omega arith in
      let l : octet m (u + i + 1) ≡ octet r (i + 1) = ap (octet m) e₁ ∙ n₁ in (
        u + p.0,
        record {
          named = x.named ∙ sym n₀;
          not-zero = λ h. x.not-zero (sym n₀ ∙ h);
          ends = omega (arith, x.ends);
          inside = omega (arith, w.inside, x.inside);
          holds = x.holds ∙ sym (within-octets w (i + 2) (octet r (i + 1)) (omega (arith, x.ends, x.inside))) ∙ (λ j. octets m (sym e₂ j) (sym l j));
        },
        params-shift r u w qs p.0 z p.2,
      )

  pub opt-placed : (o : Bool) (r : List ℕ) (qs : List Param) → Params r 0 qs (length r) → (e pp g u : ℕ) → Within m pp (run_pointer o g r) → Within m u (closed_run_lem r)
      → e ≡ pp + bit o → pp + g ≡ u → e ≤ u → (o ≡ true → 0 < g) → (o ≡ false → r ≡ []) → OptionalSlot m e o qs (opt_span u r)
  unfolding run_pointer closed_run_lem opt_span
  opt-placed false r qs p e pp g u a b q t h z n = (no-params r qs p (n refl), ap (opt_span u) (n refl))
    where
      no-params : (r : List ℕ) (qs : List Param) → Params r 0 qs (length r) → r ≡ [] → qs ≡ []
      no-params r [] p e = refl
      no-params r (q ∷ qs) p e = absurd (omega (arith, p.1.ends, p.1.inside, ap length e))
  opt-placed true [] [] p e pp g u a b q t h z n =
      let k : e - 1 ≡ pp = omega arith in
      inl (ap (octet m) k ∙ within-head a, refl, refl)
  opt-placed true [] (x ∷ qs) p e pp g u a b q t h z n = absurd (omega (arith, p.1.ends, p.1.inside))
  opt-placed true (x ∷ xs) qs p e pp g u a b q t h z n =
      let k : e - 1 ≡ pp = omega arith in
      let v : octet m (e - 1) ≡ g = ap (octet m) k ∙ within-head a in
      let w : Within m u (x ∷ xs) = within-left (x ∷ xs) (0 ∷ []) b in
      let c : Within m (u + length (x ∷ xs)) (0 ∷ []) = within-right (x ∷ xs) (0 ∷ []) b in
      let i = c.inside in
      let e₀ : u + 0 ≡ u = omega arith in
      let y₀ = z refl in
      inr (
        λ y. omega arith,
        record { counted = omega arith; behind = h; within = omega arith },
        (u + length (x ∷ xs), subst (λ j. Params m j qs (u + length (x ∷ xs))) e₀ (params-shift (x ∷ xs) u w qs 0 (length (x ∷ xs)) p), (omega arith, within-head c), refl),
      )

-- ---- the spans are in order, so no two share an octet
later-span : (vs : List (List ℕ)) (t k : ℕ) → (t ≤ (get_or (spans_from t vs) k nothing).from) ⊎ (get_or (spans_from t vs) k nothing ≡ nothing)
unfolding spans_from
later-span [] t k = inr refl
later-span (c ∷ cs) t zero = inl (omega arith)
later-span (c ∷ cs) t (suc k) = ⊎_elim (λ h. inl (omega arith)) inr (later-span cs (t + 1 + length c) k)

spans-end : (vs : List (List ℕ)) (t k : ℕ) → (get_or (spans_from t vs) k nothing).to ≤ t + length (variables vs)
unfolding spans_from variables
spans-end [] t k = omega arith
spans-end (c ∷ cs) t zero = omega (arith, length-append c (variables cs))
spans-end (c ∷ cs) t (suc k) = omega (arith, spans-end cs (t + 1 + length c) k, length-append c (variables cs))

apart-nothing : (a b : Span) → b ≡ nothing → Share a b → ⊥
apart-nothing a b e s = let q : b.to ≡ 0 = ap (λ (x : Span). x.to) e in omega (arith, s.2.1)

apart-after : (a b : Span) → a.to ≤ b.from → Share a b → ⊥
apart-after a b h s = omega (arith, s.1.1, s.2.0)

pub spans_apart : (vs : List (List ℕ)) (t j k : ℕ) → j < k → Share (get_or (spans_from t vs) j nothing) (get_or (spans_from t vs) k nothing) → ⊥
unfolding spans_from
spans_apart [] t j k h = apart-nothing nothing nothing refl
spans_apart (c ∷ cs) t j zero h = absurd (omega arith)
spans_apart (c ∷ cs) t zero (suc k) h = ⊎_elim (λ l. apart-after _ _ l) (apart-nothing _ _) (later-span cs (t + 1 + length c) k)
spans_apart (c ∷ cs) t (suc j) (suc k) h = spans_apart cs (t + 1 + length c) j k (le_of_suc-le-suc h)

pub opt-apart : (vs : List (List ℕ)) (r : List ℕ) (t u j : ℕ) → u ≡ t + length (variables vs) → Share (get_or (spans_from t vs) j nothing) (opt_span u r) → ⊥
unfolding opt_span
opt-apart vs [] t u j e = apart-nothing _ nothing refl
opt-apart vs (x ∷ xs) t u j e = apart-after _ (span u (u + length (x ∷ xs) + 1)) (omega (arith, spans-end vs t j))

-- ---- where each piece of the compact form stands
pub record Pieces (m : List ℕ) (o : Bool) (head : List ℕ) (kind : ℕ) (fixed : List ℕ) (vs : List (List ℕ)) (r : List ℕ) : Type 0 where
  pub heads : Within m 0 head
  pub kinds : Within m (length head) (kind ∷ fixed)
  pub pointing : Within m (length head + 1 + length fixed) (pointers (gap_of o vs) vs)
  pub lasts : Within m (length head + 1 + length fixed + length vs) (run_pointer o (ahead (gap_of o vs) vs) r)
  pub contents : Within m (length head + 1 + length fixed + length vs + bit o) (variables vs)
  pub optional : Within m (length head + 1 + length fixed + length vs + bit o + length (variables vs)) (closed_run_lem r)
  pub ending : length m ≡ length head + 1 + length fixed + length vs + bit o + length (variables vs) + length (closed_run_lem r)

module _ (o : Bool) (head : List ℕ) (kind : ℕ) (fixed : List ℕ) (vs : List (List ℕ)) (r : List ℕ) where
  -- the pointers, and the form from each piece on
  abbrev ps : List ℕ
  ps = pointers (gap_of o vs) vs

  abbrev lp : List ℕ
  lp = run_pointer o (ahead (gap_of o vs) vs) r

  abbrev r₄ : List ℕ
  r₄ = variables vs ++ closed_run_lem r

  abbrev r₃ : List ℕ
  r₃ = lp ++ r₄

  abbrev r₂ : List ℕ
  r₂ = ps ++ r₃

  abbrev r₁ : List ℕ
  r₁ = (kind ∷ fixed) ++ r₂

  pub pieced : Pieces (form_of o head kind fixed vs r) o head kind fixed vs r
  unfolding form_of
  pieced =
      let s₀ = within-self (form_of o head kind fixed vs r) in
      let s₁ : Within (form_of o head kind fixed vs r) (length head) r₁ = within-at _ (omega arith) (within-right head r₁ s₀) in
      let s₂ : Within (form_of o head kind fixed vs r) (length head + 1 + length fixed) r₂ = within-at _ (omega arith) (within-right (kind ∷ fixed) r₂ s₁) in
      let s₃ : Within (form_of o head kind fixed vs r) (length head + 1 + length fixed + length vs) r₃ = within-at _ (omega (arith, length-pointers (gap_of o vs) vs)) (within-right ps r₃ s₂) in
      let s₄ : Within (form_of o head kind fixed vs r) (length head + 1 + length fixed + length vs + bit o) r₄ =
      within-at _ (omega (arith, length-run-pointer o (ahead (gap_of o vs) vs) r)) (within-right lp r₄ s₃) in
      record {
        heads = within-left head r₁ s₀;
        kinds = within-left (kind ∷ fixed) r₂ s₁;
        pointing = within-left ps r₃ s₂;
        lasts = within-left lp r₄ s₃;
        contents = within-left (variables vs) (closed_run_lem r) s₄;
        optional = within-right (variables vs) (closed_run_lem r) s₄;
        ending =
            omega (
              arith,
              length-append head r₁,
              length-append (kind ∷ fixed) r₂,
              length-append ps r₃,
              length-append lp r₄,
              length-append (variables vs) (closed_run_lem r),
              length-pointers (gap_of o vs) vs,
              length-run-pointer o (ahead (gap_of o vs) vs) r,
            );
      }

  -- a message whose pieces stand so is the compact form
  pub assembled : {m : List ℕ} → Pieces m o head kind fixed vs r → m ≡ form_of o head kind fixed vs r
  unfolding form_of
  assembled x =
      let np = length-pointers (gap_of o vs) vs in
      let nl = length-run-pointer o (ahead (gap_of o vs) vs) r in
      let w₄ = within-join (variables vs) (closed_run_lem r) x.contents x.optional in
      let w₃ = within-join lp r₄ x.lasts (within-at _ (omega arith) w₄) in
      let w₂ = within-join ps r₃ x.pointing (within-at _ (omega arith) w₃) in
      let w₁ = within-join (kind ∷ fixed) r₂ x.kinds (within-at _ (omega arith) w₂) in
      let w₀ = within-join head r₁ x.heads (within-at _ (omega arith) w₁) in
      within-whole w₀ (x.ending ∙ sym pieced.ending)
