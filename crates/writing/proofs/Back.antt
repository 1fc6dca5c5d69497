-- What is written is laid out, in the compact form, and says what was given.
use Prim.Native.Nat.{ℕ, zero, suc, ◌+◌, ◌-◌, ◌≤◌, ◌<◌}
use mathlib.Core.Path.{◌≡◌, refl, sym, ◌∙◌, ap, subst}
use mathlib.Core.Bool.{true}
use mathlib.Core.List.{List, [], ◌∷◌, ◌++◌}
use mathlib.Core.Logic.{inl, inr}
use native.Mathlib.Omega.{arith}
use native.Mathlib.Decide.{dec_lt}
use borrow.Author.Tests.{lt-ltb}
use lib.ListN.{length, get_or, take, length-append, get_or-eq_default}
use lib.Seq.{length-take-le}
use Rattle.octets.specs.Octet.{octet, octets}
use Rattle.octets.proofs.Octet.{Within, within_all, within-left, within-right, within-at, within-head}
use Rattle.layout.specs.declared.Shape.{Shape}
use Rattle.parts.specs.declared.Parts.{Parts}
use Rattle.parts.specs.Spans.{span, part_of}
use Rattle.layout.specs.Container.{nothing, bit, start_of, end_of}
use Rattle.parts.specs.Overlap.{contents_of_lem, run_of, held}
use Rattle.runs.specs.Params.{Param, Params}
use Rattle.layout.specs.Laid.{VariableSlot, LaidOut}
use Rattle.writing.specs.Write.{Order, order, contents_in, ahead, variables, closed_run_lem, gap_of, order_octets, Fits}
use Rattle.writing.specs.Compact.{Tight, Compact, said_by}
use Rattle.writing.proofs.Placed.{spans_from, opt_span, length-spans, ahead-sum, variables-long, vars-placed, opt-placed, spans_apart, opt-apart, Pieces, pieced}

-- ---- nothing stands between the parts, and nothing after
last-tight : (e u : ℕ) (r : List ℕ) → u ≡ e → Tight e (opt_span u r ∷ []) (u + length (closed_run_lem r))
unfolding opt_span closed_run_lem
last-tight e u [] q = inl (refl, omega arith)
last-tight e u (x ∷ xs) q = inr (q, omega arith, omega (arith, length-append (x ∷ xs) (0 ∷ [])))

all-tight : (vs : List (List ℕ)) → length vs ≤ 3 → (t : ℕ) (r : List ℕ)
    → Tight t (get_or (spans_from t vs) 0 nothing ∷ get_or (spans_from t vs) 1 nothing ∷ get_or (spans_from t vs) 2 nothing ∷ opt_span (t + length (variables vs)) r ∷ []) (t + length (variables vs) + length (closed_run_lem r))
unfolding spans_from variables
all-tight [] h t r = inl (refl, inl (refl, inl (refl, last-tight t (t + 0) r (omega arith))))
all-tight (a ∷ []) h t r = inr (refl, omega arith, inl (refl, inl (refl, last-tight _ _ r (omega (arith, length-append (length a ∷ a) [])))))
all-tight (a ∷ b ∷ []) h t r =
    inr (refl, omega arith, inr (refl, omega arith, inl (refl, last-tight _ _ r (omega (arith, length-append (length a ∷ a) ((length b ∷ b) ++ []), length-append (length b ∷ b) [])))))
all-tight (a ∷ b ∷ c ∷ []) h t r =
    inr (
      refl,
      omega arith,
      inr (
        refl,
        omega arith,
        inr (
          refl,
          omega arith,
          last-tight _ _ r (omega (arith, length-append (length a ∷ a) ((length b ∷ b) ++ ((length c ∷ c) ++ [])), length-append (length b ∷ b) ((length c ∷ c) ++ []), length-append (length c ∷ c) [])),
        ),
      ),
    )
all-tight (a ∷ b ∷ c ∷ d ∷ vs) h t r = absurd (omega arith)

-- ---- what the parts hold
contents-held : (m : List ℕ) (vs : List (List ℕ)) (t k : ℕ) → Within m t (variables vs) → part_of m (contents_of_lem (get_or (spans_from t vs) k nothing)) ≡ get_or vs k []
unfolding variables spans_from
contents-held m [] t k w = refl
contents-held m (c ∷ cs) t zero w =
    let h : t < t + 1 + length c = omega arith in
    let n : t + 1 + length c - (t + 1) ≡ length c = omega arith in
    simp (lt-ltb _ _ h) (ap (octets m (t + 1)) n ∙ within_all (within-right (length c ∷ []) c (within-left (length c ∷ c) (variables cs) w)))
contents-held m (c ∷ cs) t (suc k) w = contents-held m cs (t + 1 + length c) k (within-at (t + 1 + length c) (omega arith) (within-right (length c ∷ c) (variables cs) w))

run-held : (m r : List ℕ) (u : ℕ) → Within m u (closed_run_lem r) → part_of m (run_of (opt_span u r)) ≡ r
unfolding closed_run_lem opt_span
run-held m [] u w = refl
run-held m (x ∷ xs) u w =
    let h : u < u + length (x ∷ xs) + 1 = omega arith in
    let n : u + length (x ∷ xs) + 1 - 1 - u ≡ length (x ∷ xs) = omega arith in
    simp (lt-ltb _ _ h) (ap (octets m u) n ∙ within_all (within-left (x ∷ xs) (0 ∷ []) w))

nth : (a b c : List ℕ) (n : ℕ) → n ≤ 3 → (n ≤ 0 → a ≡ []) → (n ≤ 1 → b ≡ []) → (n ≤ 2 → c ≡ [])
    → (get_or (take n (a ∷ b ∷ c ∷ [])) 0 [] ≡ a) × (get_or (take n (a ∷ b ∷ c ∷ [])) 1 [] ≡ b) × (get_or (take n (a ∷ b ∷ c ∷ [])) 2 [] ≡ c)
nth a b c zero h ha hb hc = (sym (ha (omega arith)), sym (hb (omega arith)), sym (hc (omega arith)))
nth a b c (suc zero) h ha hb hc = (refl, sym (hb (omega arith)), sym (hc (omega arith)))
nth a b c (suc (suc zero)) h ha hb hc = (refl, refl, sym (hc (omega arith)))
nth a b c (suc (suc (suc zero))) h ha hb hc = (refl, refl, refl)
nth a b c (suc (suc (suc (suc n)))) h ha hb hc = absurd (omega arith)

none_dropped : (u : ℕ) (r : List ℕ) (qs : List Param) → Params r 0 qs (length r) → qs ≡ [] → opt_span u r ≡ nothing
unfolding opt_span
none_dropped u [] qs p e = refl
none_dropped u (x ∷ xs) qs p e = absurd (let q : Params (x ∷ xs) 0 [] (length (x ∷ xs)) = subst (λ (l : List Param). Params (x ∷ xs) 0 l (length (x ∷ xs))) e p in omega arith)

module _ (s : Shape) (o : Order) (f : Fits s o) where
  -- where the parts of what is written stand
  pub placed : Parts
  placed =
      let w = length o.head in
      let l = spans_from (end_of (length o.head) s) (contents_in s o) in
      held (span (length o.head + 1) (start_of (length o.head) s)) (get_or l 0 nothing) (get_or l 1 nothing) (get_or l 2 nothing)
      (opt_span (end_of (length o.head) s + length (variables (contents_in s o))) o.run)

  count : length (contents_in s o) ≡ s.vars
  count = length-take-le s.vars (o.first ∷ o.second ∷ o.third ∷ []) f.few

  pieces : Pieces (order_octets s o) s.opt o.head o.kind o.fixed (contents_in s o) o.run
  pieces = pieced s.opt o.head o.kind o.fixed (contents_in s o) o.run

  slotted : (k : ℕ) → Dec (k < length (contents_in s o))
      → VariableSlot (order_octets s o) (end_of (length o.head) s) (start_of (length o.head) s) k s.vars (get_or (spans_from (end_of (length o.head) s) (contents_in s o)) k nothing)
  slotted k (yes h) =
      inl (
        omega (arith, count),
        vars-placed (order_octets s o) (contents_in s o) (start_of (length o.head) s) (gap_of s.opt (contents_in s o)) (end_of (length o.head) s) (end_of (length o.head) s)
            (within-at _ (omega (arith, f.fixed)) pieces.pointing)
            (within-at _ (omega (arith, f.fixed, count)) pieces.contents)
            (omega (arith, count)) (omega arith) k h,
      )
  slotted k (no h) =
      let l : length (contents_in s o) ≤ k = omega arith in
      inr (omega (arith, count), get_or-eq_default (spans_from (end_of (length o.head) s) (contents_in s o)) nothing (omega (arith, length-spans (end_of (length o.head) s) (contents_in s o))))

  ahead-some : s.opt ≡ true → 0 < ahead (gap_of s.opt (contents_in s o)) (contents_in s o)
  ahead-some e = omega (arith, ahead-sum (gap_of s.opt (contents_in s o)) (contents_in s o), variables-long (contents_in s o), ap bit e)

  ending_at : length (order_octets s o) ≡ end_of (length o.head) s + length (variables (contents_in s o)) + length (closed_run_lem o.run)
  ending_at = omega (arith, pieces.ending, f.fixed, count)

  module _ (qs : List Param) (p : Params o.run 0 qs (length o.run)) where
    pub written-laid : LaidOut (order_octets s o) (length o.head) s placed qs
    unfolding placed
    written-laid =
        let t = end_of (length o.head) s in
        let vs = contents_in s o in
        let u = end_of (length o.head) s + length (variables (contents_in s o)) in
        let x = pieces in
        record {
          a = get_or (spans_from t vs) 0 nothing;
          b = get_or (spans_from t vs) 1 nothing;
          c = get_or (spans_from t vs) 2 nothing;
          d = opt_span u o.run;
          few = f.few;
          whole = omega (arith, x.contents.inside, f.fixed, count);
          first = slotted 0 (dec_lt 0 (length (contents_in s o)));
          second = slotted 1 (dec_lt 1 (length (contents_in s o)));
          third = slotted 2 (dec_lt 2 (length (contents_in s o)));
          optional =
              opt-placed (order_octets s o) s.opt o.run qs p t (start_of (length o.head) s + s.vars) (ahead (gap_of s.opt (contents_in s o)) (contents_in s o)) u
              (within-at _ (omega (arith, f.fixed, count)) x.lasts)
              (within-at _ (omega (arith, f.fixed, count)) x.optional)
              refl
              (omega (arith, count, ahead-sum (gap_of s.opt (contents_in s o)) (contents_in s o)))
              (omega arith)
              (λ e. ahead-some e)
              f.run;
          apart = (
            (spans_apart vs t 0 1 (omega arith), (spans_apart vs t 0 2 (omega arith), (opt-apart vs o.run t u 0 refl, tt))),
            ((spans_apart vs t 1 2 (omega arith), (opt-apart vs o.run t u 1 refl, tt)), ((opt-apart vs o.run t u 2 refl, tt), (tt, tt))),
          );
          holds = refl;
        }

    -- what is written is in the compact form
    pub written-compact : Compact (order_octets s o) (length o.head) s placed qs
    unfolding placed written-laid
    written-compact = record {
      laid = written-laid;
      tight = rw ending_at (all-tight (contents_in s o) (omega (arith, count, f.few)) (end_of (length o.head) s) o.run);
      dropped = λ e. none_dropped _ o.run qs p e;
    }

  -- it says what was given: header, type, fixed octets, contents and run, octet for octet
  pub written-says : said_by (order_octets s o) (length o.head) placed ≡ o
  unfolding placed held
  written-says =
      let x = pieces in
      let m = order_octets s o in
      let w = length o.head in
      let t = end_of (length o.head) s in
      let n = nth o.first o.second o.third s.vars f.few f.first f.second f.third in
      let cs : Within (order_octets s o) (end_of (length o.head) s) (variables (contents_in s o)) = within-at _ (omega (arith, f.fixed, count)) x.contents in
      let h₁ : octets (order_octets s o) 0 (length o.head) ≡ o.head = within_all x.heads in
      let h₂ : octet (order_octets s o) (length o.head) ≡ o.kind = within-head x.kinds in
      let e₃ : start_of (length o.head) s - (length o.head + 1) ≡ length o.fixed = omega (arith, f.fixed) in
      let h₃ : octets (order_octets s o) (length o.head + 1) (start_of (length o.head) s - (length o.head + 1)) ≡ o.fixed =
      ap (octets (order_octets s o) (length o.head + 1)) e₃ ∙ within_all (within-right (o.kind ∷ []) o.fixed x.kinds) in
      let h₄ = contents-held (order_octets s o) (contents_in s o) (end_of (length o.head) s) 0 cs ∙ n.0 in
      let h₅ = contents-held (order_octets s o) (contents_in s o) (end_of (length o.head) s) 1 cs ∙ n.1 in
      let h₆ = contents-held (order_octets s o) (contents_in s o) (end_of (length o.head) s) 2 cs ∙ n.2 in
      let h₇ = run-held (order_octets s o) o.run (end_of (length o.head) s + length (variables (contents_in s o))) (within-at _ (omega (arith, f.fixed, count)) x.optional) in
      λ i. order (h₁ i) (h₂ i) (h₃ i) (h₄ i) (h₅ i) (h₆ i) (h₇ i)
