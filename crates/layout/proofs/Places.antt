-- The octet that a refusal is about: document 02's rule, number by number, and that it never lies
-- beyond the message's length.
use Rattle.std.specs.Prelude.{Option, Some, None}
use Prim.Native.Nat.{ℕ, ◌+◌, ◌-◌, ◌*◌, ◌≤◌, ◌<◌}
use mathlib.Core.Path.{◌≡◌, refl, ap}
use mathlib.Core.Bool.{Bool, true, false}
use mathlib.Core.List.{List, ◌++◌}
use mathlib.Core.Logic.{inl, inr, ⊎_elim}
use native.Mathlib.Omega.{arith}
use borrow.Author.Tests.{ltb-true, ltb-false, leb-false}
use lib.Dec.{ltb, leb, eqb}
use lib.ListN.{length}
use Rattle.octets.specs.Octet.{octet}
use Rattle.octets.specs.Answer.{accepted, refused}
use Rattle.octets.specs.Faults.{Fault, Absent, First}
use Rattle.octets.proofs.Choice.{decided}
use Rattle.octets.proofs.Faults.{first-append}
use Rattle.octets.proofs.Places.{Each, first_so, UpTo, up-to-accepted, up-to-refused, up-to-if, up-to-then}
use Rattle.parts.specs.declared.Span.{Span}
use Rattle.layout.specs.declared.Shape.{Shape}
use Rattle.parts.specs.declared.Parts.{Parts}
use Rattle.runs.specs.declared.Stop.{Stop}
use Rattle.runs.specs.declared.Stop.TheVariants.{Closed, Ended, Passed}
use Rattle.runs.specs.Run.{stop_from}
use Rattle.runs.specs.Params.{Param}
use Rattle.runs.proofs.Runs.{from-stop, params-inside}
use Rattle.layout.specs.Container.{closed, run_from, target, past, pointed, variable_from_lem, variable_at_lem, optional_at_lem, variable_slot_lem, optional_slot_lem, start_of, end_of, bit, container_of, of_row, parts_of}
use Rattle.parts.specs.Overlap.{shares_of, later, judged}
use Rattle.layout.specs.Laid.{OptionalSlot}
use Rattle.layout.specs.Faults.{VariablePart, OptionalPart, sharing, variable_faults, optional_faults, sharing_faults, row_faults}
use Rattle.layout.specs.Places.{PartAt, Overlap, FirstOverlap, PartPlace, Place}
use Rattle.layout.proofs.Pointed.{pointed_points}
use Rattle.layout.proofs.Exactly.{slot-exactly, optional-slot-exactly}
use Rattle.parts.proofs.Apart.{larger-later}
use Rattle.layout.proofs.Judged.{parts-judges}

-- ---- the rule
-- a pair of parts is one of six
six : (P : ℕ → ℕ → Type 0) → P 0 1 → P 0 2 → P 0 3 → P 1 2 → P 1 3 → P 2 3 → (i j : ℕ) → i < j → j ≤ 3 → P i j
six P a b c d e f i j p q = ⊎_elim first later_first (decided (ltb i 1))
  where
    at_pair : (i' j' : ℕ) → i ≡ i' → j ≡ j' → P i' j' → P i j
    at_pair i' j' x y z = rw (x, y) z

    first : ltb i 1 ≡ true → P i j
    first x =
        ⊎_elim
        (λ y. at_pair 0 1 (omega (arith, ltb-true i 1 x)) (omega (arith, ltb-true i 1 x, ltb-true j 2 y)) a)
        (λ y. ⊎_elim
        (λ z. at_pair 0 2 (omega (arith, ltb-true i 1 x)) (omega (arith, ltb-false j 2 y, ltb-true j 3 z)) b)
        (λ z. at_pair 0 3 (omega (arith, ltb-true i 1 x)) (omega (arith, ltb-false j 3 z)) c)
        (decided (ltb j 3)))
        (decided (ltb j 2))

    later_first : ltb i 1 ≡ false → P i j
    later_first x =
        ⊎_elim
        (λ y. ⊎_elim
        (λ z. at_pair 1 2 (omega (arith, ltb-false i 1 x, ltb-true i 2 y)) (omega (arith, ltb-false i 1 x, ltb-true j 3 z)) d)
        (λ z. at_pair 1 3 (omega (arith, ltb-false i 1 x, ltb-true i 2 y)) (omega (arith, ltb-false j 3 z)) e)
        (decided (ltb j 3)))
        (λ y. at_pair 2 3 (omega (arith, ltb-false i 2 y)) (omega (arith, ltb-false i 2 y)) f)
        (decided (ltb i 2))

module _ (m : List ℕ) (w : ℕ) (s : Shape) where
  -- parts i and j share no octet
  abbrev Apart : ℕ → ℕ → Type 0
  Apart i j = (at : ℕ) → Overlap m w s i j at → ⊥

  the-variable : (k : ℕ) → k < 3 → (a : Span) → PartAt m w s k a → VariablePart m w s k a
  the-variable k h a = ⊎_elim (λ x. x.1) (λ x. absurd (omega (arith, x.0)))

  the-optional : (a : Span) → PartAt m w s 3 a → OptionalPart m w s a
  the-optional a = ⊎_elim (λ x. absurd (omega (arith, x.0))) (λ x. x.1)

  both-variable : (i j : ℕ) → i < 3 → j < 3 → Absent (sharing (VariablePart m w s i) (VariablePart m w s j)) → Apart i j
  both-variable i j p q n at o = n at (o.0, o.1, the-variable i p o.0 o.2, the-variable j q o.1 o.3, o.4, o.5)

  with-optional : (i : ℕ) → i < 3 → Absent (sharing (VariablePart m w s i) (OptionalPart m w s)) → Apart i 3
  with-optional i p n at o = n at (o.0, o.1, the-variable i p o.0 o.2, the-optional o.1 o.3, o.4, o.5)

  -- no pair before (i, j) shares an octet
  abbrev NoneBefore : ℕ → ℕ → Type 0
  NoneBefore i j = (i' j' : ℕ) → i' < j' → j' ≤ 3 → 4 * i' + j' < 4 * i + j → Apart i' j'

  module _ (at : ℕ) where
    variable-first : (i j : ℕ) → i < j → j < 3 → (sharing (VariablePart m w s i) (VariablePart m w s j)).there at → NoneBefore i j → FirstOverlap m w s at
    variable-first i j p q x n =
        (i, j, p, omega arith, (x.0, x.1, inl (omega arith, x.2), inl (q, x.3), x.4, x.5), λ i' j' at' p' q' e. n i' j' p' q' (⊎_elim (λ h. omega arith) (λ h. omega (arith, h.0, h.1)) e) at')

    optional-first : (i : ℕ) → i < 3 → (sharing (VariablePart m w s i) (OptionalPart m w s)).there at → NoneBefore i 3 → FirstOverlap m w s at
    optional-first i p x n =
        (i, 3, p, omega arith, (x.0, x.1, inl (p, x.2), inr (refl, x.3), x.4, x.5), λ i' j' at' p' q' e. n i' j' p' q' (⊎_elim (λ h. omega arith) (λ h. omega (arith, h.0, h.1)) e) at')

    first-overlap : (n : ℕ) → First (sharing_faults m w s) n at → (n ≡ 8) × FirstOverlap m w s at
    first-overlap n f =
        ⊎_elim
        (λ x. (x.0, variable-first 0 1 (omega arith) (omega arith) x.1 (six (λ i j. 4 * i + j < 1 → Apart i j) (λ h. absurd (omega (arith, h))) (λ h. absurd (omega (arith, h))) (λ h. absurd (omega (arith, h))) (λ h. absurd (omega (arith, h))) (λ h. absurd (omega (arith, h))) (λ h. absurd (omega (arith, h))))))
        (λ x.
        let a : Apart 0 1 = both-variable 0 1 (omega arith) (omega arith) x.0 in
        ⊎_elim
        (λ x. (x.0, variable-first 0 2 (omega arith) (omega arith) x.1 (six (λ i j. 4 * i + j < 2 → Apart i j) (λ _. a) (λ h. absurd (omega (arith, h))) (λ h. absurd (omega (arith, h))) (λ h. absurd (omega (arith, h))) (λ h. absurd (omega (arith, h))) (λ h. absurd (omega (arith, h))))))
        (λ x.
        let b : Apart 0 2 = both-variable 0 2 (omega arith) (omega arith) x.0 in
        ⊎_elim
        (λ x. (x.0, optional-first 0 (omega arith) x.1 (six (λ i j. 4 * i + j < 3 → Apart i j) (λ _. a) (λ _. b) (λ h. absurd (omega (arith, h))) (λ h. absurd (omega (arith, h))) (λ h. absurd (omega (arith, h))) (λ h. absurd (omega (arith, h))))))
        (λ x.
        let c : Apart 0 3 = with-optional 0 (omega arith) x.0 in
        ⊎_elim
        (λ x. (x.0, variable-first 1 2 (omega arith) (omega arith) x.1 (six (λ i j. 4 * i + j < 6 → Apart i j) (λ _. a) (λ _. b) (λ _. c) (λ h. absurd (omega (arith, h))) (λ h. absurd (omega (arith, h))) (λ h. absurd (omega (arith, h))))))
        (λ x.
        let d : Apart 1 2 = both-variable 1 2 (omega arith) (omega arith) x.0 in
        ⊎_elim
        (λ x. (x.0, optional-first 1 (omega arith) x.1 (six (λ i j. 4 * i + j < 7 → Apart i j) (λ _. a) (λ _. b) (λ _. c) (λ _. d) (λ h. absurd (omega (arith, h))) (λ h. absurd (omega (arith, h))))))
        (λ x.
        let e : Apart 1 3 = with-optional 1 (omega arith) x.0 in
        ⊎_elim
        (λ x. (x.0, optional-first 2 (omega arith) x.1 (six (λ i j. 4 * i + j < 11 → Apart i j) (λ _. a) (λ _. b) (λ _. c) (λ _. d) (λ _. e) (λ h. absurd (omega (arith, h))))))
        (λ x. absurd x.1)
        x.1)
        x.1)
        x.1)
        x.1)
        x.1)
        f

  variable-places : (k : ℕ) → Each (PartPlace m w s) (variable_faults m w s k)
  variable-places k = (
    λ at h. rw h.0 (inl (refl, omega arith, omega (arith, h.1.0), h.1.1)),
    (λ at h. rw h.0 (inr (inl (refl, (start_of w s + k, omega arith, omega (arith, h.1.0), refl), h.1.1))), tt),
  )

  optional-places : Each (PartPlace m w s) (optional_faults m w s)
  optional-places = (
    λ at h. let b = ap bit h.1.0.0 in rw h.0 (inl (refl, omega (arith, b), omega (arith, b), h.1.1)),
    (λ at h. inr (inr (inl (refl, h.1))), tt),
  )

  part-place : (n at : ℕ) → First (variable_faults m w s 0 ++ (variable_faults m w s 1 ++ (variable_faults m w s 2 ++ (optional_faults m w s ++ sharing_faults m w s)))) n at → PartPlace m w s n at
  part-place n at f =
      after (variable_faults m w s 0) (variable_faults m w s 1 ++ (variable_faults m w s 2 ++ (optional_faults m w s ++ sharing_faults m w s))) (variable-places 0)
      (after (variable_faults m w s 1) (variable_faults m w s 2 ++ (optional_faults m w s ++ sharing_faults m w s)) (variable-places 1)
      (after (variable_faults m w s 2) (optional_faults m w s ++ sharing_faults m w s) (variable-places 2)
      (after (optional_faults m w s) (sharing_faults m w s) optional-places (λ g. inr (inr (inr (first-overlap at n g)))))))
      f
    where
      after : (fs gs : List Fault) → Each (PartPlace m w s) fs → (First gs n at → PartPlace m w s n at) → First (fs ++ gs) n at → PartPlace m w s n at
      after fs gs o k g = ⊎_elim (first_so (PartPlace m w s) fs n at o) (λ x. k x.1) ((first-append fs gs n at).0 g)

-- what a reader's refusal is about, number by number
pub place-rule : (m : List ℕ) (w most : ℕ) (r : Option Shape) (n at : ℕ) → parts_of m w most r ≡ refused n at → Place m w r n at
place-rule m w most r n at e =
    ⊎_elim (λ x. inl (omega (arith, x.0), x.1.0))
    (λ x. ⊎_elim (λ x. inl (omega (arith, x.0), x.1.0))
    (λ x. ⊎_elim (λ x. inr (inl (x.0, x.1.0))) (λ x. row r x.1) x.1)
    x.1)
    (((parts-judges m w most r).refuses n at).0 e)
  where
    row : (r : Option Shape) → First (row_faults m w r) n at → Place m w r n at
    row None f = absurd f
    row (Some s) f = ⊎_elim (λ x. inr (inr (inl (x.0, x.1.0)))) (λ x. inr (inr (inr (s, refl, part-place m w s n at x.1)))) f

-- ---- never beyond the message's length
pointed-within : (m : List ℕ) (p e : ℕ) → p ≤ length m → UpTo (length m) (pointed m p e)
pointed-within m p e h =
    up-to-if _ (ltb (target m p) e) (λ t. up-to-refused _ 5 p h)
    (λ t. up-to-if _ (leb (length m) (target m p)) (λ u. up-to-refused _ 5 p h) (λ u. up-to-accepted _ _))

slot-within : (m : List ℕ) (at k n e : ℕ) → at + n ≤ e → e ≤ length m → UpTo (length m) (variable_slot_lem m at k n e)
unfolding variable_slot_lem variable_at_lem
slot-within m at k n e p q =
    up-to-if _ (ltb k n)
    (λ t.
    up-to-then _ (pointed m (at + k) e) (variable_from_lem m) (pointed-within m (at + k) e (omega (arith, ltb-true k n t)))
    (λ a x. up-to-if _ (ltb (length m) (past m a)) (λ u. up-to-refused _ 6 a (omega (arith, (pointed_points m (at + k) e x).within))) (λ u. up-to-accepted _ _)))
    (λ f. up-to-accepted _ _)

run-within : (m : List ℕ) (t : ℕ) → t ≤ length m → UpTo (length m) (run_from m t)
unfolding run_from
run-within m t h = go (stop_from m t) refl
  where
    go : (x : Stop) → stop_from m t ≡ x → UpTo (length m) (closed t x)
    go (Closed z) e = up-to-accepted _ _
    go (Ended z) e = let r = from-stop m t (Ended z) e in up-to-refused _ 7 z (params-inside r.0 m t z h r.1)
    go (Passed z) e = let r = from-stop m t (Passed z) e in up-to-refused _ 7 z (params-inside r.0 m t z h r.1)

optional-within : (m : List ℕ) (o : Bool) (e : ℕ) → e ≤ length m → UpTo (length m) (optional_slot_lem m o e)
unfolding optional_slot_lem optional_at_lem
optional-within m o e h =
    up-to-if _ o
    (λ t. up-to-if _ (eqb (octet m (e - 1)) 0) (λ z. up-to-accepted _ _)
    (λ z. up-to-then _ (pointed m (e - 1) e) (run_from m) (pointed-within m (e - 1) e (omega arith)) (λ a x. run-within m a (omega (arith, (pointed_points m (e - 1) e x).within)))))
    (λ f. up-to-accepted _ _)

-- a part starts within the message
starts-within : (m : List ℕ) (at k n e : ℕ) (a : Span) → variable_slot_lem m at k n e ≡ accepted a → a.from ≤ length m
starts-within m at k n e a x =
    ⊎_elim (λ v. omega (arith, v.1.pointed.within)) (λ v. let z = ap (λ (b : Span). b.from) v.1 in omega (arith, z)) ((slot-exactly m at k n e a).0 x)

optional-starts-within : (m : List ℕ) (o : Bool) (e : ℕ) (a : Span) → optional_slot_lem m o e ≡ accepted a → a.from ≤ length m
optional-starts-within m o e a x = let y = (optional-slot-exactly m o e a).0 x in go o y.0 y.1
  where
    go : (o : Bool) (qs : List Param) → OptionalSlot m e o qs a → a.from ≤ length m
    go true qs v = ⊎_elim (λ u. let z = ap (λ (b : Span). b.from) u.2 in omega (arith, z)) (λ u. omega (arith, u.1.within)) v
    go false qs v = let z = ap (λ (b : Span). b.from) v.1 in omega (arith, z)

judged-within : (k : ℕ) (f a b c d : Span) → a.from ≤ k → b.from ≤ k → c.from ≤ k → d.from ≤ k → UpTo k (judged f a b c d)
unfolding judged
judged-within k f a b c d ha hb hc hd =
    up-to-if _ (shares_of a b) (λ t. shared a b ha hb)
    (λ _. up-to-if _ (shares_of a c) (λ t. shared a c ha hc)
    (λ _. up-to-if _ (shares_of a d) (λ t. shared a d ha hd)
    (λ _. up-to-if _ (shares_of b c) (λ t. shared b c hb hc)
    (λ _. up-to-if _ (shares_of b d) (λ t. shared b d hb hd)
    (λ _. up-to-if _ (shares_of c d) (λ t. shared c d hc hd) (λ _. up-to-accepted _ _))))))
  where
    shared : (x y : Span) → x.from ≤ k → y.from ≤ k → UpTo {A = Parts} k (refused 8 (later x y))
    shared x y hx hy = up-to-refused k 8 (later x y) (⊎_elim (λ e. omega (arith, e)) (λ e. omega (arith, e)) (larger-later x y).one)

container-within : (m : List ℕ) (w : ℕ) (s : Shape) → UpTo (length m) (container_of m w s)
unfolding container_of
container-within m w s =
    up-to-if _ (ltb (length m) (end_of w s)) (λ t. up-to-refused _ 4 (length m) (omega arith))
    (λ t.
    let h : end_of w s ≤ length m = ltb-false _ _ t in
    let v : (k : ℕ) → UpTo (length m) (variable_slot_lem m (start_of w s) k s.vars (end_of w s)) = (λ k. slot-within m (start_of w s) k s.vars (end_of w s) (omega arith) h) in
    let u : (k : ℕ) (a : Span) → variable_slot_lem m (start_of w s) k s.vars (end_of w s) ≡ accepted a → a.from ≤ length m = (λ k. starts-within m (start_of w s) k s.vars (end_of w s)) in
    up-to-then _ (variable_slot_lem m (start_of w s) 0 s.vars (end_of w s)) _ (v 0) (λ a ea.
    up-to-then _ (variable_slot_lem m (start_of w s) 1 s.vars (end_of w s)) _ (v 1) (λ b eb.
    up-to-then _ (variable_slot_lem m (start_of w s) 2 s.vars (end_of w s)) _ (v 2) (λ c ec.
    up-to-then _ (optional_slot_lem m s.opt (end_of w s)) _ (optional-within m s.opt (end_of w s) h) (λ d ed.
    judged-within (length m) _ a b c d (u 0 a ea) (u 1 b eb) (u 2 c ec) (optional-starts-within m s.opt (end_of w s) d ed))))))

row_within : (m : List ℕ) (w : ℕ) (r : Option Shape) → w < length m → UpTo (length m) (of_row m w r)
row_within m w None h = up-to-refused _ 3 w (omega arith)
row_within m w (Some s) h = up-to-if _ (ltb 3 s.vars) (λ t. up-to-refused _ 3 w (omega arith)) (λ t. container-within m w s)

-- a place is never beyond the message's length
pub place-within : (m : List ℕ) (w most : ℕ) (r : Option Shape) (n at : ℕ) → parts_of m w most r ≡ refused n at → at ≤ length m
unfolding parts_of
place-within m w most r =
    up-to-if _ (leb (length m) w) (λ t. up-to-refused _ 1 0 (omega arith))
    (λ t. up-to-if _ (ltb most (length m)) (λ u. up-to-refused _ 2 0 (omega arith)) (λ u. row_within m w r (leb-false _ _ t)))

-- nor beyond the longest message's
pub place-most : (m : List ℕ) (w most : ℕ) (r : Option Shape) (n at : ℕ) → parts_of m w most r ≡ refused n at → at ≤ most
unfolding parts_of
place-most m w most r =
    up-to-if _ (leb (length m) w) (λ t. up-to-refused _ 1 0 (omega arith))
    (λ t. up-to-if _ (ltb most (length m)) (λ u. up-to-refused _ 2 0 (omega arith))
    (λ u n at e. omega (arith, row_within m w r (leb-false _ _ t) n at e, ltb-false most (length m) u)))
