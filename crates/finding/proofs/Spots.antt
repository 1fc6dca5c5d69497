-- What is located lies in what holds it; empty defaults hold nothing.
use Prim.Native.Nat.{ℕ, ◌+◌, ◌≤◌}
use mathlib.Core.Path.{◌≡◌, refl, sym, ◌∙◌, ap}
use mathlib.Core.Bool.{true, false}
use mathlib.Core.List.{List, []}
use mathlib.Core.Logic.{◌⊎◌, inl, inr, ⊎_elim}
use native.Mathlib.Omega.{arith}
use lib.Dec.{ltb}
use lib.ListN.{length}
use denote.Ref.{Bor}
use Rattle.std.specs.Prelude.{Option, Some, None}
use Rattle.octets.specs.Stretch.{Stretch}
use Rattle.octets.specs.Answer.{Answer, accepted, refused}
use Rattle.octets.proofs.Choice.{chosen}
use Rattle.octets.proofs.Answer.{refused-accepted, accepted-same, then-accepted, past-test}
use Rattle.parts.specs.declared.Span.{Span}
use Rattle.runs.specs.Run.{step_at_lem, is_run_lem, seeks, named_from}
use Rattle.runs.proofs.Runs.{named-inside}
use Rattle.isup.specs.declared.Message.{Message}
use Rattle.isup.specs.Read.{read_of}
use Rattle.finding.specs.Find.{Spot, spot, named_in, in_defaults, in_message, sought_in, locate_of, stretch_start, stretch_length, held_by_lem}

-- a search that succeeds: the defaults are a run, the name is an octet, and the
-- message has it, or else the defaults
pub record Sought (m : List ℕ) (run : Span) (d : List ℕ) (name : ℕ) (s : Spot) : Type 0 where
  pub run-whole : is_run_lem d ≡ true
  pub octet : ltb 255 name ≡ false
  pub found : ((s.holder ≡ 0) × (named_in m run name ≡ Some (s.start, s.len))) ⊎ ((s.holder ≡ 100) × (named_in m run name ≡ None) × (named_from d 0 name ≡ Some (s.start, s.len)))

pub sought-says : (m : List ℕ) (run : Span) (d : List ℕ) (name : ℕ) (s : Spot) → sought_in m run d name ≡ accepted s → Sought m run d name s
unfolding sought_in
sought-says m run d name s h =
    ⊎_elim
    (λ t. let p = past-test 15 0 (ltb 255 name) t.1 in record { run-whole = t.0; octet = p.0; found = go (named_in m run name) (named_from d 0 name) refl refl p.1 })
    (λ f. absurd (refused-accepted f.1))
    (chosen (is_run_lem d) h)
  where
    go : (x y : Option (ℕ × ℕ)) → named_in m run name ≡ x → named_from d 0 name ≡ y → in_message x (in_defaults y) ≡ accepted s
        → ((s.holder ≡ 0) × (named_in m run name ≡ Some (s.start, s.len))) ⊎ ((s.holder ≡ 100) × (named_in m run name ≡ None) × (named_from d 0 name ≡ Some (s.start, s.len)))
    go (Some (a, n)) y e e' h =
        let q : spot 0 a n ≡ s = accepted-same h in
        inl (ap (λ (z : Spot). z.holder) (sym q), e ∙ ap (λ (z : Spot). Some (z.start, z.len)) q)
    go None (Some (a, n)) e e' h =
        let q : spot 100 a n ≡ s = accepted-same h in
        inr (ap (λ (z : Spot). z.holder) (sym q), e, e' ∙ ap (λ (z : Spot). Some (z.start, z.len)) q)
    go None None e e' h = absurd (refused-accepted h)

pub located-says : (m d : List ℕ) (name : ℕ) (s : Spot) → locate_of m d name ≡ accepted s → (x : Message) × (read_of m ≡ accepted x) × Sought m x.parts.optional d name s
unfolding locate_of
located-says m d name s h = let t = then-accepted (read_of m) _ h in (t.0, t.1, sought-says m _ d name s t.2)

named-in-inside : (m : List ℕ) (run : Span) (name a n : ℕ) → named_in m run name ≡ Some (a, n) → a + n ≤ length m
unfolding named_in
named-in-inside m run name a n h =
    ⊎_elim (λ t. named-inside m _ name a n t.1) (λ f. absurd (let e = f.1 in let z : ◌≡◌ {A = ℕ} 0 1 = cc in omega arith)) (chosen (ltb run.from run.to) h)

pub in-message-inside : (m d : List ℕ) (name a n : ℕ) → locate_of m d name ≡ accepted (spot 0 a n) → a + n ≤ length m
in-message-inside m d name a n h =
    let x = located-says m d name _ h in
    ⊎_elim (λ y. named-in-inside m _ name a n y.1) (λ y. absurd (let e : ◌≡◌ {A = ℕ} 0 100 = y.0 in omega arith)) x.2.found

pub in-defaults-inside : (m d : List ℕ) (name a n : ℕ) → locate_of m d name ≡ accepted (spot 100 a n) → a + n ≤ length d
in-defaults-inside m d name a n h =
    let x = located-says m d name _ h in
    ⊎_elim (λ y. absurd (let e : ◌≡◌ {A = ℕ} 100 0 = y.0 in omega arith)) (λ y. named-inside d 0 name a n y.2) x.2.found

-- empty defaults hold nothing
pub none_in_empty : (m : List ℕ) (name a n : ℕ) → locate_of m [] name ≡ accepted (spot 100 a n) → ⊥
unfolding named_from seeks step_at_lem
none_in_empty m name a n h =
    let x = located-says m [] name _ h in
    ⊎_elim (λ y. let e : ◌≡◌ {A = ℕ} 100 0 = y.0 in omega arith) (λ y. let e = y.2 in let z : ◌≡◌ {A = ℕ} 0 1 = cc in omega arith) x.2.found

pub held-by-message : {A : Type 0} (m : List ℕ) (name : ℕ) (x y : A) → held_by_lem (locate_of m [] name) x y ≡ x
held-by-message {A} m name x y = go (locate_of m [] name) refl
  where
    go : (z : Answer Spot) → locate_of m [] name ≡ z → held_by_lem z x y ≡ x
    go (refused n at) e = refl
    go (accepted s) e =
        let g = located-says m [] name s e in
        ⊎_elim
        (λ q. simp q.0)
        (λ q. absurd (none_in_empty m name s.start s.len (e ∙ ap accepted (λ i. record { holder = q.0 i; start = s.start; len = s.len }))))
        g.2.found

-- with no defaults, what is found is a stretch of the message
pub found_in : (message none : Bor (List ℕ)) (name : ℕ) (part : Bor (List ℕ)) → Stretch (held_by_lem (locate_of message.now [] name) message none) (stretch_start (locate_of message.now [] name)) (stretch_length (locate_of message.now [] name)) part → Stretch message (stretch_start (locate_of message.now [] name)) (stretch_length (locate_of message.now [] name)) part
found_in message none name part s = rw (held-by-message message.now name) at s
