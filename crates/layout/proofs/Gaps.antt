-- Gaps and octets after the last part are ignored: a message that agrees on
-- what is looked at is laid out the same.
use Prim.Native.Nat.{ℕ, ◌+◌, ◌-◌, ◌<◌}
use mathlib.Core.Path.{◌≡◌, refl, sym, ◌∙◌}
use mathlib.Core.Bool.{Bool, true, false}
use mathlib.Core.List.{List}
use mathlib.Core.Logic.{inl, inr, ⊎_elim}
use native.Mathlib.Omega.{arith}
use lib.ListN.{length}
use Rattle.octets.specs.Octet.{octet}
use Rattle.parts.specs.declared.Span.{Span}
use Rattle.layout.specs.declared.Shape.{Shape}
use Rattle.parts.specs.declared.Parts.{Parts}
use Rattle.layout.specs.Container.{start_of, end_of}
use Rattle.runs.specs.Params.{Param}
use Rattle.layout.specs.Laid.{VariableSlot, OptionalSlot, In, LaidOut}
use Rattle.layout.specs.Gaps.{Agrees}
use Rattle.runs.proofs.Runs.{params-on}
use Rattle.runs.proofs.Same.{params_same}

module _ (m m' : List ℕ) where
  -- the two agree at an octet that the second has
  abbrev Same : ℕ → Type 0
  Same i = (i < length m') × (octet m' i ≡ octet m i)

  slot_same : (e at k n : ℕ) (s : Span) → VariableSlot m e at k n s → (k < n → Same (at + k)) → ((i : ℕ) → In s i → Same i) → VariableSlot m' e at k n s
  slot_same e at k n s v pointer part =
      ⊎_elim
      (λ x.
      let v = x.1 in
      let a = pointer x.0 in
      let t = part s.from (omega arith, omega (arith, v.ends)) in
      let z = part (s.to - 1) (omega (arith, v.ends), omega (arith, v.ends)) in
      inl (x.0, record { pointed = record { counted = omega (arith, v.pointed.counted, a.1); behind = v.pointed.behind; within = t.0 }; ends = omega (arith, v.ends, t.1); inside = omega (arith, z.0, v.ends) }))
      (λ x. inr x)
      v

  optional-same : (o : Bool) (e : ℕ) (qs : List Param) (s : Span) → OptionalSlot m e o qs s → (o ≡ true → Same (e - 1)) → ((i : ℕ) → In s i → Same i) → OptionalSlot m' e o qs s
  optional-same false e qs s h pointer part = h
  optional-same true e qs s h pointer part =
      let a = pointer refl in
      ⊎_elim
      (λ x. inl (a.1 ∙ x.0, x.1, x.2))
      (λ x.
      let r = x.2 in
      let on = params-on qs m s.from r.0 r.1 in
      let t = part s.from (omega arith, omega (arith, r.3)) in
      let z = part r.0 (omega arith, omega (arith, r.3)) in
      inr (
        λ y. x.0 (sym a.1 ∙ y),
        record { counted = omega (arith, x.1.counted, a.1); behind = x.1.behind; within = t.0 },
        (r.0, params_same m m' qs s.from r.0 r.1 (λ j b c. part j (b, omega (arith, r.3))), (z.0, z.1 ∙ r.2.1), r.3),
      ))
      h

pub gaps-ignored : {m : List ℕ} {w : ℕ} {s : Shape} {p : Parts} {qs : List Param} (l : LaidOut m w s p qs) (m' : List ℕ) → Agrees l m' → LaidOut m' w s p qs
gaps-ignored {m} {w} {s} {p} {qs} l m' g = record {
  a = l.a;
  b = l.b;
  c = l.c;
  d = l.d;
  few = l.few;
  whole = let x = g (end_of w s - 1) (inl (omega arith, omega arith)) in omega (arith, x.0);
  first = slot_same m m' (end_of w s) (start_of w s) 0 s.vars l.a l.first (λ h. g _ (inl (omega arith, omega arith))) (λ i h. g i (inr (inl h)));
  second = slot_same m m' (end_of w s) (start_of w s) 1 s.vars l.b l.second (λ h. g _ (inl (omega arith, omega arith))) (λ i h. g i (inr (inr (inl h))));
  third = slot_same m m' (end_of w s) (start_of w s) 2 s.vars l.c l.third (λ h. g _ (inl (omega arith, omega arith))) (λ i h. g i (inr (inr (inr (inl h)))));
  optional = optional-same m m' s.opt (end_of w s) qs l.d l.optional (λ h. g (end_of w s - 1) (inl (omega arith, omega arith))) (λ i h. g i (inr (inr (inr (inr h)))));
  apart = l.apart;
  holds = l.holds;
}
