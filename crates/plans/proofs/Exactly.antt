-- The check is yes exactly for a plan whose messages a judge takes one by
-- one, and whose marks add up.
use Prim.Native.Nat.{ℕ, zero, suc, ◌+◌, ◌≤◌, ◌<◌}
use mathlib.Core.Path.{◌≡◌, refl, sym, ◌∙◌, ap, subst}
use mathlib.Core.Bool.{Bool, true, false}
use mathlib.Core.List.{List, [], ◌∷◌, ◌++◌}
use mathlib.Core.Logic.{◌⊎◌, inl, inr, ⊎_elim}
use native.Mathlib.Omega.{arith}
use native.Mathlib.Nat.{eq-or-lt_of_le}
use borrow.Author.Tests.{eqb-true, eq-eqb, ltb-true, ltb-false, le-ltb}
use lib.Dec.{eqb, ltb}
use lib.ListN.{length, take, drop, replicate, length-replicate, get_or-replicate, length-append, take-append-drop, get_or-eq_default}
use lib.Seq.{length-take-le, take-append_seam, drop-append_seam, get_or-drop}
use Rattle.octets.specs.Octet.{octet, AllOctets}
use Rattle.octets.specs.Answer.{Answer, accepted, refused, ◌then◌}
use Rattle.octets.proofs.Answer.{refused-accepted, accepted-same, then-accepted, past-test}
use Rattle.octets.proofs.Choice.{chosen, decided, true-false}
use Rattle.layout.specs.Container.{bit}
use Rattle.asks.specs.declared.Ask.{Ask}
use Rattle.asks.specs.Asks.{ask_of}
use Rattle.asks.proofs.Reading.{ask-last}
use Rattle.plans.specs.Frames.{framed, Each}
use Rattle.plans.specs.Plans.{ticked, Step, times, JudgedStep, messages, JudgedPlan}
use Rattle.plans.specs.Check.{taking, unnumbered, hearing, walk, agree, agreeing, check_of}
use Rattle.plans.proofs.Seen.{taking-is, taking-takes}

-- ---- what is seen at the end
pub agree-is : (ticks seen : List ℕ) (c n : ℕ) → agree ticks seen c n ≡ true → (j : ℕ) → c ≤ j → j < c + n → octet seen j ≡ bit (ticked ticks j)
unfolding agree
agree-is ticks seen c zero e j a b = absurd (omega arith)
agree-is ticks seen c (suc n) e j a b =
    ⊎_elim
    (λ t.
    ⊎_elim
    (λ q. subst (λ (i : ℕ). octet seen i ≡ bit (ticked ticks i)) q (eqb-true _ _ t.0))
    (λ l. agree-is ticks seen (suc c) n t.1 j l (omega arith))
    (eq-or-lt_of_le a))
    (λ t. absurd (true-false {t = false} t.1 refl))
    (chosen (eqb (octet seen c) (bit (ticked ticks c))) e)

pub agree-so : (ticks seen : List ℕ) (c n : ℕ) → ((j : ℕ) → c ≤ j → j < c + n → octet seen j ≡ bit (ticked ticks j)) → agree ticks seen c n ≡ true
unfolding agree
agree-so ticks seen c zero h = refl
agree-so ticks seen c (suc n) h =
    let e = eq-eqb _ _ (h c (omega arith) (omega arith)) in
    rw e (agree-so ticks seen (suc c) n (λ j a b. h j (omega arith) (omega arith)))

bit-most : (t : Bool) → bit t ≤ 1
bit-most true = omega arith
bit-most false = omega arith

heard : (kind : ℕ) (j : Answer Ask) (seen m left : List ℕ) → (unnumbered j then taking kind seen m) ≡ accepted left → (a : Ask) × (j ≡ accepted a) × (taking kind seen m a ≡ accepted left)
heard kind (accepted a) seen m left e = (a, refl, e)
heard kind (refused n at) seen m left e = absurd (refused-accepted e)

module _ (judge : List ℕ → Answer Ask) (asks : (m : List ℕ) (a : Ask) → judge m ≡ accepted a → ask_of m ≡ accepted a) (kind : ℕ) where
  -- ---- along the plan
  pub record Walked (seen plan left : List ℕ) : Type 0 where
    pub steps : List Step
    pub frames : plan ≡ framed (messages steps)
    pub each : Each (JudgedStep judge kind) steps
    pub count : (c : ℕ) → octet left c ≡ octet seen c + times steps c

  pub walk_is : (f : ℕ) (seen plan left : List ℕ) → AllOctets plan → length seen ≡ 4096 → walk judge kind f seen plan ≡ accepted left → Walked seen plan left
  unfolding walk hearing framed times
  walk_is zero seen [] left o l e = record { steps = []; frames = refl; each = tt; count = λ c. ap (λ (x : List ℕ). octet x c) (sym (accepted-same e)) ∙ omega arith }
  walk_is zero seen (n ∷ rest) left o l e = absurd (refused-accepted e)
  walk_is (suc f) seen [] left o l e = record { steps = []; frames = refl; each = tt; count = λ c. ap (λ (x : List ℕ). octet x c) (sym (accepted-same e)) ∙ omega arith }
  walk_is (suc f) seen (n ∷ rest) left o l e =
      let p = past-test 0 0 (ltb (length rest) n) e in
      let m = take n rest in
      let q = then-accepted (hearing judge kind seen m) (λ s. walk judge kind f s (drop n rest)) p.1 in
      let r = heard kind (judge m) seen m q.0 q.1 in
      let h = ask-last m r.0 (asks m r.0 r.1) in
      let t = taking-is kind seen m r.0 q.0 (omega arith) r.2 in
      let w = walk_is f q.0 (drop n rest) left (λ i. subst (λ (x : ℕ). x < 256) (sym (get_or-drop n rest i 0)) (o (suc (n + i)))) (t.size ∙ l) q.2 in
      let k = length-take-le n rest (ltb-false _ _ p.0) in
      record {
        steps = record { message = m; ask = r.0 } ∷ w.steps;
        frames = rw (k, ← w.frames, take-append-drop);
        each = (record { granted = r.1; fit = t.fit; short = omega (arith, o 0) }, w.each);
        count = λ c. omega (arith, w.count c, t.marked c);
      }

  pub walk-takes : (steps : List Step) → Each (JudgedStep judge kind) steps → (f : ℕ) (seen : List ℕ) → length (framed (messages steps)) ≤ f → length seen ≡ 4096 → ((c : ℕ) → c ≤ 4095 → octet seen c + times steps c ≤ 1)
      → (left : List ℕ) × (walk judge kind f seen (framed (messages steps)) ≡ accepted left) × ((c : ℕ) → octet left c ≡ octet seen c + times steps c)
  unfolding walk hearing framed times
  walk-takes [] g zero seen b l h = (seen, refl, λ c. omega arith)
  walk-takes [] g (suc f) seen b l h = (seen, refl, λ c. omega arith)
  walk-takes (s ∷ ss) g zero seen b l h = absurd (omega arith)
  walk-takes (s ∷ ss) g (suc f) seen b l h =
      let m = s.message in
      let rest = framed (messages ss) in
      let k = ask-last m s.ask (asks m s.ask g.0.granted) in
      let t = taking-takes kind seen m s.ask g.0.fit (λ c n. omega (arith, h c (omega (arith, n.1)))) in
      let q = taking-is kind seen m s.ask t.0 (omega arith) t.1 in
      let ih = walk-takes ss g.1 f t.0 (omega (arith, length-append m rest)) (q.size ∙ l) (λ c n. omega (arith, h c n, q.marked c)) in
      let e : ltb (length (m ++ rest)) (length m) ≡ false = le-ltb (length (m ++ rest)) (length m) (omega (arith, length-append m rest)) in
      (ih.0, rw (e, take-append_seam m rest, drop-append_seam m rest, g.0.granted, t.1) ih.1, λ c. omega (arith, ih.2 c, q.marked c))

  zeros : (c : ℕ) → octet (replicate 4096 0) c ≡ 0
  zeros c = ⊎_elim (λ h. get_or-replicate 4096 c 0 0 h) (λ h. get_or-eq_default (replicate 4096 0) 0 {n = c} (omega (arith, length-replicate {A = ℕ} 4096 0))) (lt-or c 4096)
    where
      lt-or : (a b : ℕ) → (a < b) ⊎ (b ≤ a)
      lt-or a b = ⊎_elim (λ t. inl (ltb-true a b t)) (λ t. inr (ltb-false a b t)) (decided (ltb a b))

  module _ (ticks plan : List ℕ) where
    -- a plan that is accepted is good
    pub check-good : AllOctets plan → check_of judge ticks kind plan ≡ true → JudgedPlan judge ticks kind plan
    unfolding check_of
    check-good o e =
        ⊎_elim
        (λ s.
        ⊎_elim
        (λ k. absurd (true-false {t = false} k.1 refl))
        (λ k. go (walk judge kind (length plan) (replicate 4096 0) plan) refl (eqb-true _ _ s.0) (ltb-false _ _ k.0) k.1)
        (chosen (ltb 1 kind) s.1))
        (λ s. absurd (true-false {t = false} s.1 refl))
        (chosen (eqb (length ticks) 4096) e)
      where
        go : (r : Answer (List ℕ)) → walk judge kind (length plan) (replicate 4096 0) plan ≡ r → length ticks ≡ 4096 → kind ≤ 1 → agreeing ticks r ≡ true → JudgedPlan judge ticks kind plan
        go (refused n at) w l k h = absurd (true-false {t = false} h refl)
        go (accepted left) w l k h =
            let d = walk_is (length plan) (replicate 4096 0) plan left o (length-replicate {A = ℕ} 4096 0) w in
            record {
              sized = l;
              kinds = k;
              steps = d.steps;
              frames = d.frames;
              each = d.each;
              once = λ c b. omega (arith, d.count c, zeros c, agree-is ticks left 0 4096 h c (omega arith) (omega arith));
            }

    -- a good plan is accepted
    pub good-check : JudgedPlan judge ticks kind plan → check_of judge ticks kind plan ≡ true
    unfolding check_of
    good-check g =
        let b : length (framed (messages g.steps)) ≤ length plan = omega (arith, ap length g.frames) in
        let w = walk-takes g.steps g.each (length plan) (replicate 4096 0) b (length-replicate {A = ℕ} 4096 0) (λ c h. omega (arith, g.once c h, bit-most (ticked ticks c), zeros c)) in
        let e : walk judge kind (length plan) (replicate 4096 0) plan ≡ accepted w.0 = ap (λ (p : List ℕ). walk judge kind (length plan) (replicate 4096 0) p) g.frames ∙ w.1 in
        rw (eq-eqb _ _ g.sized, le-ltb _ _ g.kinds, e)
        (agree-so ticks w.0 0 4096 (λ j x y. omega (arith, w.2 j, zeros j, g.once j (omega arith))))
