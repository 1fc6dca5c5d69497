-- How a run of steps stops, told by the parameters that stand in the
-- message, and the other way round.
use Rattle.std.specs.Prelude.{Option, Some, None}
use Prim.Native.Nat.{ℕ, zero, suc, ◌+◌, ◌≤◌, ◌<◌}
use mathlib.Core.Path.{◌≡◌, refl, sym, ◌∙◌, ap, subst}
use mathlib.Core.List.{List, [], ◌∷◌}
use mathlib.Core.Logic.{◌⊎◌, inl, inr, ⊎_elim, ◌↔◌}
use native.Mathlib.Omega.{arith}
use native.Mathlib.Decide.{ℕ_discrete}
use lib.Dec.{eqb}
use lib.ListN.{length}
use Rattle.octets.specs.Octet.{octet, octets}
use Rattle.octets.proofs.Choice.{chosen}
use Rattle.runs.specs.declared.Field.{Field}
use Rattle.runs.specs.declared.Step.{Step}
use Rattle.runs.specs.declared.Step.TheVariants.{Param as Found-param, Close, End, Pass}
use Rattle.runs.specs.declared.Stop.{Stop}
use Rattle.runs.specs.declared.Stop.TheVariants.{Closed, Ended, Passed}
use Rattle.runs.specs.Run.{next, step_at_lem, stepped, stops, stop_from, sought, seeks, named_from}
use Rattle.runs.specs.Params.{Param, ParamAt, Params, Closes, Ends, Whole, NoneNamed, FirstNamed, Passes}
use Rattle.runs.proofs.Steps.{FieldAt, step-says, at-close, at-end, at-pass, at-param, stops-more, stops-close, stops_end, stops-pass, seeks-more, seeks-here, seeks-over}

-- where a run stops, and what stands there
abbrev pub place_of : Stop → ℕ
place_of (Closed z) = z
place_of (Ended z) = z
place_of (Passed z) = z

abbrev pub Stopped : List ℕ → Stop → Type 0
Stopped m (Closed z) = Closes m z
Stopped m (Ended z) = length m ≤ z
Stopped m (Passed z) = Passes m z

-- parameters go on, and stay within the message
pub params-on : (qs : List Param) (m : List ℕ) (i z : ℕ) → Params m i qs z → i ≤ z
params-on [] m i z p = omega arith
params-on (q ∷ qs) m i z p = omega (arith, params-on qs m p.0 z p.2, p.1.ends)

pub params-inside : (qs : List Param) (m : List ℕ) (i z : ℕ) → i ≤ length m → Params m i qs z → z ≤ length m
params-inside [] m i z l p = omega arith
params-inside (q ∷ qs) m i z l p = params-inside qs m p.0 z p.1.inside p.2

-- the parameter that a step hands out
stepped-param : (m : List ℕ) (i : ℕ) (f : Field) → FieldAt m i f → (q : Param) × ParamAt m i q (f.at + f.len)
stepped-param m i f x = (
  record { name = octet m i; contents = octets m (i + 2) (octet m (i + 1)) },
  record { named = refl; not-zero = x.not-zero; ends = omega arith; inside = x.inside; holds = refl },
)

pub stops-params : (k : ℕ) (m : List ℕ) (i : ℕ) (x : Stop) → length m < i + k → stops k m i ≡ x → (qs : List Param) × Params m i qs (place_of x) × Stopped m x
unfolding stops
stops-params zero m i x n h = let l : length m ≤ i = omega arith in subst (λ (y : Stop). (qs : List Param) × Params m i qs (place_of y) × Stopped m y) h ([], refl, l)
stops-params (suc k) m i x n h = go (step_at_lem m i) refl h (λ f. stops-params k m (f.at + f.len) x)
  where
    at_once : (y : Stop) → y ≡ x → place_of y ≡ i → Stopped m y → (qs : List Param) × Params m i qs (place_of x) × Stopped m x
    at_once y e p s = subst (λ (y : Stop). (qs : List Param) × Params m i qs (place_of y) × Stopped m y) e ([], p, s)

    go : (s : Step) → step_at_lem m i ≡ s → stepped i (stops k m) s ≡ x
        → ((f : Field) → length m < f.at + f.len + k → stops k m (f.at + f.len) ≡ x → (qs : List Param) × Params m (f.at + f.len) qs (place_of x) × Stopped m x)
        → (qs : List Param) × Params m i qs (place_of x) × Stopped m x
    go (Found-param f) e h ih =
        let y = step-says m i _ e in
        let q = stepped-param m i f y in
        let r = ih f (omega arith) h in
        (q.0 ∷ r.0, (f.at + f.len, q.1, r.1), r.2)
    go Close e h ih = at_once (Closed i) h refl (step-says m i _ e)
    go End e h ih = at_once (Ended i) h refl (step-says m i _ e)
    go Pass e h ih = at_once (Passed i) h refl (step-says m i _ e)

-- a parameter that stands at i is what a step finds there
param_step : (m : List ℕ) (i : ℕ) (q : Param) (k : ℕ) → ParamAt m i q k
    → (f : Field) × (step_at_lem m i ≡ Found-param f) × (f.at + f.len ≡ k) × (f.name ≡ q.name) × (f.at ≡ i + 2)
param_step m i q k x =
    let l : next m i ≤ length m = omega arith in
    (record { name = octet m i; at = i + 2; len = octet m (i + 1) }, at-param m i x.not-zero l, sym x.ends, sym x.named, refl)

-- the steps go past whole parameters
pub params-stops : (qs : List Param) (k : ℕ) (m : List ℕ) (i z : ℕ) → Params m i qs z → length m < i + k → (j : ℕ) × (length m < z + j) × (stops k m i ≡ stops j m z)
params-stops [] k m i z p n = (k, omega arith, ap (stops k m) (sym p))
params-stops (q ∷ qs) k m i z p n =
    let f = param_step m i q p.0 p.1 in
    let s = stops-more m i k f.0 n f.1 in
    let r = params-stops qs s.0 m p.0 z p.2 (omega (arith, s.1, f.2)) in
    (r.0, r.1, s.2 ∙ ap (stops s.0 m) f.2 ∙ r.2)

pub stop-from : (qs : List Param) (m : List ℕ) (i : ℕ) (x : Stop) → Params m i qs (place_of x) → Stopped m x → stop_from m i ≡ x
unfolding stop_from
stop-from qs m i x p s = let r = params-stops qs (suc (length m)) m i (place_of x) p (omega arith) in r.2 ∙ there x r.0 r.1 s
  where
    there : (x : Stop) (j : ℕ) → length m < place_of x + j → Stopped m x → stops j m (place_of x) ≡ x
    there (Closed z) j l s = stops-close m z j (at-close m z s) l
    there (Ended z) j l s = stops_end m z j (at-end m z s)
    there (Passed z) j l s = stops-pass m z j (at-pass m z s) l

pub from-stop : (m : List ℕ) (i : ℕ) (x : Stop) → stop_from m i ≡ x → (qs : List Param) × Params m i qs (place_of x) × Stopped m x
unfolding stop_from
from-stop m i x h = stops-params (suc (length m)) m i x (omega arith) h

-- where they end, no other stands
more-params : (m : List ℕ) (i z : ℕ) (q : Param) (k : ℕ) → z ≡ i → ParamAt m i q k → Ends m z → ⊥
more-params m i z q k e p =
    ⊎_elim (λ h. p.not-zero (ap (octet m) (sym e) ∙ h.1))
    (⊎_elim (λ h. omega (arith, p.ends, p.inside)) (λ h. let n = ap (next m) e in omega (arith, p.ends, p.inside, h.2)))

-- a message has its parameters in one way only
pub params-unique : (qs qs' : List Param) (m : List ℕ) (i z z' : ℕ) → Params m i qs z → Params m i qs' z' → Ends m z → Ends m z' → (qs ≡ qs') × (z ≡ z')
params-unique [] [] m i z z' p p' e e' = (refl, cc)
params-unique [] (q ∷ qs) m i z z' p p' e e' = absurd (more-params m i z q p'.0 p p'.1 e)
params-unique (q ∷ qs) [] m i z z' p p' e e' = absurd (more-params m i z' q p.0 p' p.1 e')
params-unique (q ∷ qs) (q' ∷ qs') m i z z' p p' e e' =
    let n : q.name ≡ q'.name = p.1.named ∙ sym p'.1.named in
    let c : q.contents ≡ q'.contents = p.1.holds ∙ sym p'.1.holds in
    let k : p.0 ≡ p'.0 = p.1.ends ∙ sym p'.1.ends in
    let t = params-unique qs qs' m p.0 z z' p.2 (subst (λ (x : ℕ). Params m x qs' z') (sym k) p'.2) e e' in
    (λ j. record { name = n j; contents = c j } ∷ t.0 j, t.1)

-- ---- the search for a name
seeks-past : (qs : List Param) (k name : ℕ) (m : List ℕ) (i z : ℕ) → Params m i qs z → NoneNamed name qs → length m < i + k → (j : ℕ) × (length m < z + j) × (seeks k m name i ≡ seeks j m name z)
seeks-past [] k name m i z p o n = (k, omega arith, ap (seeks k m name) (sym p))
seeks-past (q ∷ qs) k name m i z p o n =
    let f = param_step m i q p.0 p.1 in
    let s = seeks-more m i k name f.0 n f.1 (λ e. o.0 (sym f.3 ∙ e)) in
    let r = seeks-past qs s.0 name m p.0 z p.2 o.1 (omega (arith, s.1, f.2)) in
    (r.0, r.1, s.2 ∙ ap (seeks s.0 m name) f.2 ∙ r.2)

-- none has the name
pub none-nowhere : (qs : List Param) (m : List ℕ) (i name z : ℕ) → Params m i qs z → Ends m z → NoneNamed name qs → named_from m i name ≡ None
unfolding named_from
none-nowhere qs m i name z p s o =
    let r = seeks-past qs (suc (length m)) name m i z p o (omega arith) in
    r.2 ∙ ⊎_elim (λ c. seeks-over m z r.0 name Close (at-close m z c) tt) (⊎_elim (λ e. seeks-over m z r.0 name End (at-end m z e) tt) (λ e. seeks-over m z r.0 name Pass (at-pass m z e) tt)) s

-- the first that has it
pub first-at : (qs : List Param) (m : List ℕ) (i name a n : ℕ) → FirstNamed m i qs name a n → named_from m i name ≡ Some (a, n)
unfolding named_from
first-at qs m i name a n x =
    let r = seeks-past x.before (suc (length m)) name m i x.place x.behind x.others (omega arith) in
    let f = param_step m x.place x.it x.end x.stands in
    let h = seeks-here m x.place r.0 name f.0 r.1 f.1 (f.3 ∙ x.named) in
    let ea : f.0.at ≡ a = f.4 ∙ sym x.starts in
    let en : f.0.len ≡ n = omega (arith, f.2, x.ends, ea) in
    r.2 ∙ h ∙ (λ j. Some ((ea j), (en j)))

-- one or the other
pub named-or-not : (qs : List Param) (m : List ℕ) (i z name : ℕ) → Params m i qs z → NoneNamed name qs ⊎ ((a n : ℕ) × FirstNamed m i qs name a n)
named-or-not [] m i z name p = inl tt
named-or-not (q ∷ qs) m i z name p = go (named-or-not qs m p.0 z name p.2) (ℕ_discrete q.name name)
  where
    further : (q.name ≡ name → ⊥) → (a n : ℕ) × FirstNamed m p.0 qs name a n → (a n : ℕ) × FirstNamed m i (q ∷ qs) name a n
    further d x = (
      x.0,
      x.1,
      record {
        before = q ∷ x.2.before;
        it = x.2.it;
        after = x.2.after;
        place = x.2.place;
        end = x.2.end;
        listed = ap (λ l. q ∷ l) x.2.listed;
        others = (d, x.2.others);
        named = x.2.named;
        behind = (p.0, p.1, x.2.behind);
        stands = x.2.stands;
        starts = x.2.starts;
        ends = x.2.ends;
      },
    )

    go : NoneNamed name qs ⊎ ((a n : ℕ) × FirstNamed m p.0 qs name a n) → Dec (q.name ≡ name) → NoneNamed name (q ∷ qs) ⊎ ((a n : ℕ) × FirstNamed m i (q ∷ qs) name a n)
    go r (yes e) =
        inr (
          i + 2,
          octet m (i + 1),
          record { before = []; it = q; after = qs; place = i; end = p.0; listed = refl; others = tt; named = e; behind = refl; stands = p.1; starts = refl; ends = p.1.ends },
        )
    go r (no d) = ⊎_elim (λ o. inl (d, o)) (λ x. inr (further d x)) r

-- ---- among parameters that are known: the search finds the first of that name, and nothing exactly when none has it
module _ (qs : List Param) (m : List ℕ) (i name z : ℕ) (p : Params m i qs z) (s : Ends m z) where
  pub named-among : (a n : ℕ) → (named_from m i name ≡ Some (a, n)) ↔ FirstNamed m i qs name a n
  named-among a n = (
    λ h. ⊎_elim
        (λ o. absurd (let e = none-nowhere qs m i name z p s o in let n : ◌≡◌ {A = ℕ} 0 1 = cc in omega arith))
        (λ y.
        let e = first-at qs m i name y.0 y.1 y.2 in
        let both : ◌≡◌ {A = ℕ × ℕ} (y.0, y.1) (a, n) = cc in
        let ea : y.0 ≡ a = ap (λ (x : ℕ × ℕ). x.0) both in
        let en : y.1 ≡ n = ap (λ (x : ℕ × ℕ). x.1) both in
        subst (λ (z : ℕ). FirstNamed m i qs name z n) ea (subst (λ (z : ℕ). FirstNamed m i qs name y.0 z) en y.2))
        (named-or-not qs m i z name p),
    first-at qs m i name a n,
  )

  pub nowhere-among : (named_from m i name ≡ None) ↔ NoneNamed name qs
  nowhere-among = (
    λ h. ⊎_elim
        (λ o. o)
        (λ y. absurd (let e = first-at qs m i name y.0 y.1 y.2 in let z : ◌≡◌ {A = ℕ} 0 1 = cc in omega arith))
        (named-or-not qs m i z name p),
    none-nowhere qs m i name z p s,
  )

-- ---- any octets, from any octet on
-- they have whole parameters, none or more, in one way
pub whole-somehow : (m : List ℕ) (i : ℕ) → (qs : List Param) × Whole m i qs
whole-somehow m i = go (stop_from m i) refl
  where
    go : (x : Stop) → stop_from m i ≡ x → (qs : List Param) × Whole m i qs
    go (Closed z) e = let r = from-stop m i (Closed z) e in (r.0, (z, r.1, inl r.2))
    go (Ended z) e = let r = from-stop m i (Ended z) e in (r.0, (z, r.1, inr (inl r.2)))
    go (Passed z) e = let r = from-stop m i (Passed z) e in (r.0, (z, r.1, inr (inr r.2)))

pub whole-one : (m : List ℕ) (i : ℕ) (qs qs' : List Param) → Whole m i qs → Whole m i qs' → qs ≡ qs'
whole-one m i qs qs' x y = (params-unique qs qs' m i x.0 y.0 x.1 y.1 x.2 y.2).0

-- found exactly when it is the first of that name among them
pub named-exactly : (m : List ℕ) (i name a n : ℕ) → (named_from m i name ≡ Some (a, n)) ↔ ((qs : List Param) × Whole m i qs × FirstNamed m i qs name a n)
named-exactly m i name a n =
    let w = whole-somehow m i in (
      λ h. (w.0, w.1, (named-among w.0 m i name w.1.0 w.1.1 w.1.2 a n).0 h),
      λ x. first-at x.0 m i name a n x.2,
    )

-- nothing exactly when none of them has the name
pub nowhere-exactly : (m : List ℕ) (i name : ℕ) → (named_from m i name ≡ None) ↔ ((qs : List Param) × Whole m i qs × NoneNamed name qs)
nowhere-exactly m i name =
    let w = whole-somehow m i in (
      λ h. (w.0, w.1, (nowhere-among w.0 m i name w.1.0 w.1.1 w.1.2).0 h),
      λ x. none-nowhere x.0 m i name x.1.0 x.1.1 x.1.2 x.2,
    )

-- no parameter has the name 0, so none of that name is found
pub zero-nowhere : (m : List ℕ) (i : ℕ) → named_from m i 0 ≡ None
zero-nowhere m i = go (named_from m i 0) refl
  where
    go : (x : Option (ℕ × ℕ)) → named_from m i 0 ≡ x → x ≡ None
    go None e = refl
    go (Some (a, n)) e = absurd (let x = ((named-exactly m i 0 a n).0 e).2 in x.stands.not-zero (sym x.stands.named ∙ x.named))

-- what is found lies within the octets
seeks-inside : (k : ℕ) (m : List ℕ) (name i a n : ℕ) → seeks k m name i ≡ Some (a, n) → a + n ≤ length m
unfolding seeks
seeks-inside zero m name i a n h = absurd (let z : ◌≡◌ {A = ℕ} 0 1 = cc in omega arith)
seeks-inside (suc k) m name i a n h = go (step_at_lem m i) refl h (λ f. seeks-inside k m name (f.at + f.len) a n)
  where
    go : (x : Step) → step_at_lem m i ≡ x → sought name (seeks k m name) x ≡ Some (a, n) → ((f : Field) → seeks k m name (f.at + f.len) ≡ Some (a, n) → a + n ≤ length m) → a + n ≤ length m
    go (Found-param f) e h ih =
        let y = step-says m i _ e in
        ⊎_elim (λ t. let q = t.1 in let both : ◌≡◌ {A = ℕ × ℕ} (f.at, f.len) (a, n) = cc in let qa = ap (λ (x : ℕ × ℕ). x.0) both in let qn = ap (λ (x : ℕ × ℕ). x.1) both in omega arith) (λ t. ih f t.1) (chosen (eqb f.name name) h)
    go Close e h ih = absurd (let z : ◌≡◌ {A = ℕ} 0 1 = cc in omega arith)
    go End e h ih = absurd (let z : ◌≡◌ {A = ℕ} 0 1 = cc in omega arith)
    go Pass e h ih = absurd (let z : ◌≡◌ {A = ℕ} 0 1 = cc in omega arith)

pub named-inside : (m : List ℕ) (i name a n : ℕ) → named_from m i name ≡ Some (a, n) → a + n ≤ length m
unfolding named_from
named-inside m i name a n h = seeks-inside (suc (length m)) m name i a n h
