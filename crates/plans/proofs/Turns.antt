-- No simulation is needed: a plan is accepted in turn exactly where each of its messages is
-- accepted at the given tables.
use Prim.Native.Nat.{ℕ, ◌+◌, ◌≤◌}
use mathlib.Core.Path.{◌≡◌, refl, sym, ◌∙◌, ap}
use mathlib.Core.Bool.{Bool, true, false}
use mathlib.Core.List.{List, [], ◌∷◌}
use mathlib.Core.Logic.{⊎_elim, ◌↔◌}
use native.Mathlib.Omega.{arith}
use borrow.Author.Tests.{eqb-true, eq-eqb, le-ltb}
use lib.Dec.{eqb}
use lib.ListN.{length}
use Rattle.std.specs.Prelude.{is_some}
use Rattle.octets.specs.Octet.{octet, AllOctets}
use Rattle.octets.specs.Choice.{when◌then◌else◌}
use Rattle.octets.specs.Answer.{Answer, accepted, refused}
use Rattle.octets.proofs.Answer.{refused-accepted, accepted-same, then-accepted}
use Rattle.octets.proofs.Choice.{true-false}
use Rattle.asks.specs.declared.Ask.{Ask}
use Rattle.rows.specs.Rows.{is_legal}
use Rattle.rows.proofs.Legality.{legal-is, is-legal}
use Rattle.rights.specs.Tables.{Tables, tables, sized}
use Rattle.hub.specs.Replies.{reply_of}
use Rattle.rights.specs.Permits.{is_unhelpable}
use Rattle.hub.specs.Acts.{roomed, judged_of, grant_of, carried_out, act_of}
use Rattle.hub.proofs.Given.{fair, grant-judged}
use Rattle.rights.proofs.Meaning.{found_none, search-same}
use Rattle.hub.proofs.Writing.{length-reply}
use Rattle.hub.proofs.Called.{row-outside, length-rows, named-or, call-accepted}
use Rattle.hub.proofs.Legality.{legal-stays}
use Rattle.plans.specs.Frames.{Each}
use Rattle.plans.specs.Plans.{fits_kind, Step, JudgedStep, JudgedPlan}
use Rattle.plans.specs.Check.{check_of}
use Rattle.plans.specs.Turns.{room, InTurn, GoodPlan, check_at}
use Rattle.plans.proofs.Exactly.{check-good, good-check}
use Rattle.plans.proofs.Hub.{planned-short, judged-asks, judged-from}

-- the same size, and the same rows legal
record Alike (s t : List ℕ) : Type 0 where
  size : length s ≡ length t
  same : (c : ℕ) → is_legal (octet s c) ≡ is_legal (octet t c)

alike_self : (s : List ℕ) → Alike s s
alike_self s = record { size = refl; same = λ c. refl }

alike-back : {s t : List ℕ} → Alike s t → Alike t s
alike-back l = record { size = sym l.size; same = λ c. sym (l.same c) }

alike-on : {s t u : List ℕ} → Alike s t → Alike t u → Alike s u
alike-on l k = record { size = l.size ∙ k.size; same = λ c. l.same c ∙ k.same c }

module _ (sender : ℕ) where
  -- accepted is judged so
  heard-judged : (T : Tables) (m : List ℕ) (n : ℕ) → (act_of T sender m room).answer ≡ accepted n → (a : Ask) × (judged_of T sender m ≡ accepted a)
  unfolding act_of
  heard-judged T m n e = go (grant_of T sender m 268) refl e
    where
      go : (g : Answer Ask) → grant_of T sender m 268 ≡ g → (carried_out T m room g).answer ≡ accepted n → (a : Ask) × (judged_of T sender m ≡ accepted a)
      go (accepted a) q h = let w = then-accepted (judged_of T sender m) (roomed T m 268) (sym (grant-judged T sender m 268) ∙ q) in (w.0, w.1)
      go (refused k at) q h = absurd (refused-accepted h)

  -- and what is judged so is accepted, where its answer has room
  judged-heard : (T : Tables) (m : List ℕ) (a : Ask) → judged_of T sender m ≡ accepted a → length (reply_of T.states m a) ≤ 268 → (n : ℕ) × ((act_of T sender m room).answer ≡ accepted n)
  unfolding act_of
  judged-heard T m a e l =
      let t = le-ltb 268 (length (reply_of T.states m a)) l in
      let g : grant_of T sender m 268 ≡ accepted a = grant-judged T sender m 268 ∙ (rw (e, t)) in
      (length (reply_of T.states m a), ap (λ (g : Answer Ask). (carried_out T m room g).answer) g)

  -- after an accepted message the same rows are legal
  alike-after : (T : Tables) (m : List ℕ) (n : ℕ) → (act_of T sender m room).answer ≡ accepted n → Alike T.states (act_of T sender m room).states
  alike-after T m n e =
      let d = call-accepted T sender m room n e in
      record {
        size = sym (ap length d.rows ∙ length-rows m d.ask T.states);
        same = λ c.
            ⊎_elim
            (λ k.
            let b = found_none (λ j. is_legal (octet T.states j)) d.ask.circuit (d.ask.range + 1) d.allowed.legal c k.0 (omega (arith, k.1)) in
            b ∙ sym (is-legal _ (legal-stays T sender m room c (legal-is _ b))))
            (λ k. ap is_legal (sym (ap (λ (t : List ℕ). octet t c) d.rows ∙ row-outside m d.ask T.states c k)))
            (named-or d.ask c);
      }

  module _ (owners helpers : List ℕ) (kind : ℕ) where
    -- what is taken at one is taken at the other
    alike-judged : (s t : List ℕ) → Alike s t → (m : List ℕ) (a : Ask) → fits_kind kind a ≡ true → judged_of (tables s owners helpers) sender m ≡ accepted a → judged_of (tables t owners helpers) sender m ≡ accepted a
    unfolding is_unhelpable
    alike-judged s t l m a f e =
        let g = fair (tables s owners helpers) sender m a e in
        judged-from (tables t owners helpers) sender (sym l.size ∙ g.states-sized) g.owners-sized g.helpers-sized kind m a g.asks f g.permits.right g.permits.helps
        (ap is_some (search-same (λ c. is_legal (octet t c)) (λ c. is_legal (octet s c)) a.circuit (a.range + 1) (λ j x y. sym (l.same j))) ∙ g.permits.legal)

    turn-stands : (states now : List ℕ) → Alike now states → (steps : List Step) → InTurn (tables now owners helpers) sender kind steps → Each (JudgedStep (judged_of (tables states owners helpers) sender) kind) steps
    turn-stands states now l [] h = tt
    turn-stands states now l (s ∷ ss) h =
        let T : Tables = tables now owners helpers in
        let g = heard-judged T s.message h.0.count h.0.answered in
        let q : g.0 ≡ s.ask = accepted-same (sym (judged-asks T sender s.message g.0 g.1) ∙ h.0.asks) in
        let e : judged_of T sender s.message ≡ accepted s.ask = g.1 ∙ ap accepted q in (
          record { granted = alike-judged now states l s.message s.ask h.0.fit e; fit = h.0.fit; short = h.0.short },
          turn-stands states (act_of T sender s.message room).states (alike-on (alike-back (alike-after T s.message h.0.count h.0.answered)) l) ss h.1,
        )

    stands-turn : (states now : List ℕ) → Alike states now → (steps : List Step) → Each (JudgedStep (judged_of (tables states owners helpers) sender) kind) steps → InTurn (tables now owners helpers) sender kind steps
    stands-turn states now l [] h = tt
    stands-turn states now l (s ∷ ss) h =
        let T : Tables = tables now owners helpers in
        let e = alike-judged states now l s.message s.ask h.0.fit h.0.granted in
        let k = judged-asks T sender s.message s.ask e in
        let n = judged-heard T s.message s.ask e (omega (arith, length-reply now s.message s.ask, planned-short kind s.message s.ask (octet now s.ask.circuit) k h.0.fit h.0.short)) in (
          record { count = n.0; answered = n.1; asks = k; fit = h.0.fit; short = h.0.short },
          stands-turn states (act_of T sender s.message room).states (alike-on l (alike-after T s.message n.0 n.1)) ss h.1,
        )

-- accepted in turn exactly where each is accepted at the given tables
pub turn-free : (T : Tables) (sender kind : ℕ) (steps : List Step) → InTurn T sender kind steps ↔ Each (JudgedStep (judged_of T sender) kind) steps
turn-free T sender kind steps = (
  turn-stands sender T.owners T.helpers kind T.states T.states (alike_self T.states) steps,
  stands-turn sender T.owners T.helpers kind T.states T.states (alike_self T.states) steps,
)

-- both tests hold
pub both : (s t : Bool) → (when s then t else false) ≡ true → (s ≡ true) × (t ≡ true)
both true t e = (refl, e)
both false t e = absurd (true-false {t = false} e refl)

module _ (T : Tables) (ticks : List ℕ) (sender kind : ℕ) (plan : List ℕ) where
  pub in-turn-good : GoodPlan T ticks sender kind plan → JudgedPlan (judged_of T sender) ticks kind plan
  in-turn-good g = record { sized = g.sized; kinds = g.kinds; steps = g.steps; frames = g.frames; each = (turn-free T sender kind g.steps).0 g.each; once = g.once }

  pub good-in-turn : length T.states ≡ 4096 → length T.owners ≡ 4096 → length T.helpers ≡ 4096 → JudgedPlan (judged_of T sender) ticks kind plan → GoodPlan T ticks sender kind plan
  good-in-turn p q h g = record {
    states-sized = p;
    owners-sized = q;
    helpers-sized = h;
    sized = g.sized;
    kinds = g.kinds;
    steps = g.steps;
    frames = g.frames;
    each = (turn-free T sender kind g.steps).1 g.each;
    once = g.once;
  }

  pub good-accepted : GoodPlan T ticks sender kind plan → check_at T ticks sender kind plan ≡ true
  unfolding check_at
  good-accepted g =
      rw (eq-eqb _ _ g.states-sized, eq-eqb _ _ g.owners-sized, eq-eqb _ _ g.helpers-sized)
      (good-check (judged_of T sender) (judged-asks T sender) kind ticks plan (in-turn-good g))

  -- the check, which copies no table, is yes exactly for a good plan
  pub check-exactly : AllOctets plan → (check_at T ticks sender kind plan ≡ true) ↔ GoodPlan T ticks sender kind plan
  unfolding check_at
  check-exactly o = (
    λ e.
        let s = both (sized T) (check_of (judged_of T sender) ticks kind plan) e in
        let k = both (eqb (length T.states) 4096) (when eqb (length T.owners) 4096 then eqb (length T.helpers) 4096 else false) s.0 in
        let l = both (eqb (length T.owners) 4096) (eqb (length T.helpers) 4096) k.1 in
        good-in-turn (eqb-true _ _ k.0) (eqb-true _ _ l.0) (eqb-true _ _ l.1) (check-good (judged_of T sender) (judged-asks T sender) kind ticks plan o s.1),
    good-accepted,
  )
