-- The container does not look at the header: two messages of one length that agree from the type
-- octet on have the same answer, refusals and their octets included.
use Rattle.std.specs.Prelude.{Option, Some, None}
use Prim.Native.Nat.{ℕ, ◌+◌, ◌-◌, ◌≤◌, ◌<◌}
use mathlib.Core.Path.{◌≡◌, refl, ◌∙◌, ap}
use mathlib.Core.Bool.{Bool}
use mathlib.Core.List.{List}
use native.Mathlib.Omega.{arith}
use lib.Dec.{ltb, eqb}
use lib.ListN.{length}
use Rattle.octets.specs.Octet.{octet}
use Rattle.octets.specs.Choice.{when◌then◌else◌}
use Rattle.octets.specs.Answer.{accepted, refused, ◌then◌}
use Rattle.octets.proofs.Answer.{then_same}
use Rattle.layout.specs.declared.Shape.{Shape}
use Rattle.layout.specs.Container.{closed, run_from, nothing, pointed, variable_from_lem, variable_at_lem, optional_at_lem, variable_slot_lem, optional_slot_lem, start_of, end_of, container_of, parts_of}
use Rattle.runs.proofs.Same.{stop-same}
use Rattle.layout.proofs.Pointed.{pointed_points}

module _ (m m' : List ℕ) (w : ℕ) (l : length m ≡ length m') (s : (i : ℕ) → w ≤ i → octet m i ≡ octet m' i) where
  run-same : (t : ℕ) → w ≤ t → run_from m t ≡ run_from m' t
  unfolding run_from
  run-same t h = ap (closed t) (stop-same m m' w l s t h)

  pointed-same : (p e : ℕ) → w ≤ p → pointed m p e ≡ pointed m' p e
  pointed-same p e h = rw (l, s p h) refl

  variable-from-same : (t : ℕ) → w ≤ t → variable_from_lem m t ≡ variable_from_lem m' t
  variable-from-same t h = rw (l, s t h) refl

  behind : (p e t : ℕ) → w ≤ p → pointed m p e ≡ accepted t → w ≤ t
  behind p e t h q = let x = pointed_points m p e q in omega (arith, x.counted)

  slot_same : (at k n e : ℕ) → w ≤ at → variable_slot_lem m at k n e ≡ variable_slot_lem m' at k n e
  unfolding variable_slot_lem variable_at_lem
  slot_same at k n e h =
      ap (λ z. when ltb k n then z else accepted nothing)
      (then_same (pointed m (at + k) e) (pointed-same (at + k) e (omega arith)) (λ t q. variable-from-same t (behind (at + k) e t (omega arith) q)))

  optional-same : (o : Bool) (e : ℕ) → w < e → optional_slot_lem m o e ≡ optional_slot_lem m' o e
  unfolding optional_slot_lem optional_at_lem
  optional-same o e h =
      let a : w ≤ e - 1 = omega arith in
      ap (λ z. when o then z else accepted nothing)
      (ap (λ z. when eqb z 0 then accepted nothing else (pointed m (e - 1) e then λ t. run_from m t)) (s (e - 1) a)
      ∙ ap (λ z. when eqb (octet m' (e - 1)) 0 then accepted nothing else z)
      (then_same (pointed m (e - 1) e) (pointed-same (e - 1) e a) (λ t q. run-same t (behind (e - 1) e t a q))))

  container-same : (x : Shape) → container_of m w x ≡ container_of m' w x
  unfolding container_of
  container-same x =
      rw l
      (ap (λ z. when ltb (length m') (end_of w x) then refused 4 (length m') else z)
      (then_same (variable_slot_lem m (start_of w x) 0 x.vars (end_of w x)) (slot_same (start_of w x) 0 x.vars (end_of w x) (omega arith)) (λ a ea.
      then_same (variable_slot_lem m (start_of w x) 1 x.vars (end_of w x)) (slot_same (start_of w x) 1 x.vars (end_of w x) (omega arith)) (λ b eb.
      then_same (variable_slot_lem m (start_of w x) 2 x.vars (end_of w x)) (slot_same (start_of w x) 2 x.vars (end_of w x) (omega arith)) (λ c ec.
      then_same (optional_slot_lem m x.opt (end_of w x)) (optional-same x.opt (end_of w x) (omega arith)) (λ d ed. refl))))))

  pub header-ignored : (most : ℕ) (r : Option Shape) → parts_of m w most r ≡ parts_of m' w most r
  unfolding parts_of
  header-ignored most (Some x) = rw (l, container-same x) refl
  header-ignored most None = rw l refl
