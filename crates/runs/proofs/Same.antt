-- What a run is depends on its own octets alone.
use Prim.Native.Nat.{ℕ, zero, suc, ◌+◌, ◌≤◌, ◌<◌}
use mathlib.Core.Path.{◌≡◌, refl, sym, ◌∙◌, ap}
use mathlib.Core.List.{List, [], ◌∷◌}
use native.Mathlib.Omega.{arith}
use lib.ListN.{length}
use Rattle.octets.specs.Octet.{octet, octets}
use Rattle.runs.specs.declared.Step.{Step}
use Rattle.runs.specs.declared.Step.TheVariants.{Param as Found-param, Close, End, Pass}
use Rattle.runs.specs.Run.{step_at_lem, stepped, stops, stop_from}
use Rattle.runs.proofs.Steps.{step-says}
use Rattle.octets.proofs.Octet.{octets-agree}
use Rattle.runs.specs.Params.{Param, Params}
use Rattle.runs.proofs.Runs.{params-on}

-- two messages of one length that agree from octet w on stop a run from there on alike
module _ (m m' : List ℕ) (w : ℕ) (l : length m ≡ length m') (s : (i : ℕ) → w ≤ i → octet m i ≡ octet m' i) where
  step_same : (i : ℕ) → w ≤ i → step_at_lem m i ≡ step_at_lem m' i
  unfolding step_at_lem
  step_same i h = rw (l, s i h, s (i + 1) (omega arith)) refl

  stops_same : (k i : ℕ) → w ≤ i → stops k m i ≡ stops k m' i
  unfolding stops
  stops_same zero i h = refl
  stops_same (suc k) i h = on (step_at_lem m i) refl (λ j. stops_same k j) ∙ ap (stepped i (stops k m')) (step_same i h)
    where
      on : (x : Step) → step_at_lem m i ≡ x → ((j : ℕ) → w ≤ j → stops k m j ≡ stops k m' j) → stepped i (stops k m) x ≡ stepped i (stops k m') x
      on (Found-param f) e ih = let y = step-says m i _ e in ih (f.at + f.len) (omega arith)
      on Close e ih = refl
      on End e ih = refl
      on Pass e ih = refl

  pub stop-same : (t : ℕ) → w ≤ t → stop_from m t ≡ stop_from m' t
  unfolding stop_from
  stop-same t h = stops_same (suc (length m)) t h ∙ ap (λ n. stops (suc n) m' t) l

-- two messages that agree on the octets of a run, and on the next, have the same parameters there
module _ (m m' : List ℕ) where
  pub params_same : (qs : List Param) (i z : ℕ) → Params m i qs z → ((j : ℕ) → i ≤ j → j ≤ z → (j < length m') × (octet m' j ≡ octet m j)) → Params m' i qs z
  params_same [] i z p s = p
  params_same (q ∷ qs) i z p s =
      let x = p.1 in
      let l : p.0 ≤ z = params-on qs m p.0 z p.2 in
      let n₀ = s i (omega arith) (omega arith) in
      let n₁ = s (i + 1) (omega arith) (omega arith) in
      let nk = s p.0 (omega arith) (omega arith) in
      let e : p.0 ≡ i + 2 + octet m' (i + 1) = omega (arith, n₁.1) in (
        p.0,
        record {
          named = x.named ∙ sym n₀.1;
          not-zero = λ h. x.not-zero (sym n₀.1 ∙ h);
          ends = e;
          inside = omega (arith, nk.0);
          holds =
              x.holds
              ∙ sym (octets-agree m m' (i + 2) (octet m (i + 1)) (omega arith) (omega (arith, nk.0)) (λ j a b. (s j (omega arith) (omega arith)).1))
              ∙ ap (octets m' (i + 2)) (sym n₁.1);
        },
        params_same qs p.0 z p.2 (λ j a b. s j (omega arith) b),
      )
