-- What a message says, written again, is never longer than the message: so
-- nothing but 12 can stand against it.
use Prim.Native.Nat.{ℕ, ◌+◌, ◌-◌, ◌≤◌, ◌<◌}
use mathlib.Core.Path.{◌≡◌, refl, sym, ◌∙◌, ap}
use mathlib.Core.Bool.{Bool, true, false}
use mathlib.Core.List.{List, [], ◌∷◌, ◌++◌}
use mathlib.Core.Logic.{◌⊎◌, inl, inr, ⊎_elim}
use native.Mathlib.Omega.{arith}
use borrow.Author.Tests.{lt-ltb, le-ltb}
use lib.ListN.{length, take, length-append}
use lib.Seq.{length-take-le, take-nil}
use Rattle.octets.specs.Octet.{octet}
use Rattle.octets.specs.Answer.{accepted, refused}
use Rattle.octets.proofs.Choice.{decided}
use Rattle.octets.proofs.Octet.{length-octets}
use Rattle.octets.specs.Sum.{total}
use Rattle.octets.proofs.Counting.{inside, inside-or, total-past, total-span, total-add, total-most}
use Rattle.parts.specs.declared.Span.{Span}
use Rattle.layout.specs.declared.Shape.{Shape}
use Rattle.parts.specs.declared.Parts.{Parts}
use Rattle.layout.specs.Container.{nothing, start_of, end_of}
use Rattle.parts.specs.Overlap.{contents_of_lem, run_of, held}
use Rattle.runs.specs.Params.{Param}
use Rattle.layout.specs.Laid.{VariableSlot, OptionalSlot, In, Share, AllApart, LaidOut}
use Rattle.runs.proofs.Runs.{params-on}
use Rattle.writing.specs.Write.{contents_in, variables, closed_run_lem, order_octets, marks, exceeds, written_of}
use Rattle.parts.specs.Spans.{part_of}
use Rattle.writing.specs.Compact.{said_with}
use Rattle.writing.proofs.Plain.{Count, none, one, two, more, counted, fits-exactly}
use Rattle.writing.proofs.Placed.{pieced}
use Rattle.writing.proofs.Again.{said_fits, said-run, variable-contents}

abbrev size : Span → ℕ
size s = s.to - s.from

-- a part lies from e on and within n octets, or is not there
abbrev Lies : ℕ → ℕ → Span → Type 0
Lies e n s = (s ≡ nothing) ⊎ ((e ≤ s.from) × (s.from ≤ s.to) × (s.to ≤ e + n))

counts : (e n : ℕ) (s : Span) → Lies e n s → total (inside s.from s.to) e n ≡ size s
counts e n s = ⊎_elim (λ q. rw q (total-past 0 0 e n (omega arith))) (λ x. total-span s.from s.to e n x.0 x.1 x.2)

other : (a b : Span) (i : ℕ) → (Share a b → ⊥) → In a i → inside b.from b.to i ≡ 0
other a b i h x = ⊎_elim (λ y. absurd (h (i, x, (y.0, y.1)))) (λ z. z) (inside-or b.from b.to i)

-- an octet is in one of four parts that share none
module _ (a b c d : Span) (x : AllApart (a ∷ b ∷ c ∷ d ∷ [])) where
  all_in : ℕ → ℕ
  all_in i = inside a.from a.to i + (inside b.from b.to i + (inside c.from c.to i + inside d.from d.to i))

  at_most_one : (i : ℕ) → all_in i ≤ 1
  unfolding all_in
  at_most_one i =
      ⊎_elim
      (λ p. omega (arith, p.2, other a b i x.0.0 (p.0, p.1), other a c i x.0.1.0 (p.0, p.1), other a d i x.0.1.1.0 (p.0, p.1)))
      (λ z₁. ⊎_elim
      (λ p. omega (arith, p.2, other b c i x.1.0.0 (p.0, p.1), other b d i x.1.0.1.0 (p.0, p.1)))
      (λ z₂. ⊎_elim
      (λ p. omega (arith, p.2, other c d i x.1.1.0.0 (p.0, p.1)))
      (λ z₃. ⊎_elim (λ p. omega (arith, p.2)) (λ z₄. omega arith) (inside-or d.from d.to i))
      (inside-or c.from c.to i))
      (inside-or b.from b.to i))
      (inside-or a.from a.to i)

  four-fit : (e n : ℕ) → Lies e n a → Lies e n b → Lies e n c → Lies e n d → size a + (size b + (size c + size d)) ≤ n
  unfolding all_in
  four-fit e n la lb lc ld =
      let fa = inside a.from a.to in
      let fb = inside b.from b.to in
      let fc = inside c.from c.to in
      let fd = inside d.from d.to in
      omega (
        arith,
        total-most all_in at_most_one e n,
        total-add (inside a.from a.to) (λ i. inside b.from b.to i + (inside c.from c.to i + inside d.from d.to i)) e n,
        total-add (inside b.from b.to) (λ i. inside c.from c.to i + inside d.from d.to i) e n,
        total-add (inside c.from c.to) (inside d.from d.to) e n,
        counts e n a la,
        counts e n b lb,
        counts e n c lc,
        counts e n d ld,
      )

slot-lies : (m : List ℕ) (e at k n : ℕ) (s : Span) → e ≤ length m → VariableSlot m e at k n s → Lies e (length m - e) s
slot-lies m e at k n s h = ⊎_elim (λ v. inr (v.1.pointed.behind, omega (arith, v.1.ends), omega (arith, v.1.inside))) (λ v. inl v.1)

optional-lies : (o : Bool) (m : List ℕ) (e : ℕ) (qs : List Param) (s : Span) → e ≤ length m → OptionalSlot m e o qs s → Lies e (length m - e) s
optional-lies false m e qs s h x = inl x.1
optional-lies true m e qs s h x = ⊎_elim (λ v. inl v.2) (λ v. let r = v.2 in inr (v.1.behind, omega (arith, params-on qs m s.from r.0 r.1, r.3), omega (arith, r.3, r.2.0))) x

-- ---- the parts, counted
there-size : (m : List ℕ) (e at k n : ℕ) (s : Span) → VariableSlot m e at k n s → k < n → 1 + length (part_of m (contents_of_lem s)) ≡ size s
there-size m e at k n s v h = ⊎_elim (λ x. let c = variable-contents m e (at + k) s x.1 in omega (arith, c.0, x.1.ends)) (λ x. absurd (omega (arith, x.0))) v

variables-size : (m : List ℕ) (e at n : ℕ) (a b c : Span) → Count n → VariableSlot m e at 0 n a → VariableSlot m e at 1 n b → VariableSlot m e at 2 n c
    → length (variables (take n (part_of m (contents_of_lem a) ∷ part_of m (contents_of_lem b) ∷ part_of m (contents_of_lem c) ∷ []))) ≤ size a + (size b + size c)
unfolding variables
variables-size m e at n a b c none va vb vc = omega arith
variables-size m e at n a b c one va vb vc =
    let pa = part_of m (contents_of_lem a) in
    omega (arith, there-size m e at 0 1 a va (omega arith), length-append (length (part_of m (contents_of_lem a)) ∷ part_of m (contents_of_lem a)) [])
variables-size m e at n a b c two va vb vc =
    let pa = part_of m (contents_of_lem a) in
    let pb = part_of m (contents_of_lem b) in
    omega (arith, there-size m e at 0 2 a va (omega arith), there-size m e at 1 2 b vb (omega arith), length-append (length pa ∷ pa) ((length pb ∷ pb) ++ []), length-append (length pb ∷ pb) [])
variables-size m e at n a b c (more k) va vb vc =
    let pa = part_of m (contents_of_lem a) in
    let pb = part_of m (contents_of_lem b) in
    let pc = part_of m (contents_of_lem c) in
    let nil : variables (take k []) ≡ [] = ap variables (take-nil {A = List ℕ} k) in
    omega (
      arith,
      there-size m e at 0 _ a va (omega arith),
      there-size m e at 1 _ b vb (omega arith),
      there-size m e at 2 _ c vc (omega arith),
      length-append (length pa ∷ pa) ((length pb ∷ pb) ++ ((length pc ∷ pc) ++ variables (take k []))),
      length-append (length pb ∷ pb) ((length pc ∷ pc) ++ variables (take k [])),
      length-append (length pc ∷ pc) (variables (take k [])),
      ap length nil,
    )

run-size : (o : Bool) (m : List ℕ) (e : ℕ) (qs : List Param) (s : Span) → OptionalSlot m e o qs s → length (closed_run_lem (part_of m (run_of s))) ≤ size s
unfolding closed_run_lem
run-size o m e qs s x = go (part_of m (run_of s)) refl
  where
    held-size : (o : Bool) → OptionalSlot m e o qs s → (s ≡ nothing) ⊎ ((s.from < s.to) × (s.to ≤ length m))
    held-size false x = inl x.1
    held-size true x = ⊎_elim (λ v. inl v.2) (λ v. let r = v.2 in inr (omega (arith, params-on qs m s.from r.0 r.1, r.3), omega (arith, r.3, r.2.0))) x

    go : (r : List ℕ) → part_of m (run_of s) ≡ r → length (closed_run_lem r) ≤ size s
    go [] q = omega arith
    go (y ∷ ys) q =
        ⊎_elim
        (λ z. absurd (let k : part_of m (run_of s) ≡ [] = rw z refl in let n = ap length (sym q ∙ k) in omega arith))
        (λ z.
        let k : length (part_of m (run_of s)) ≡ s.to - 1 - s.from = simp (lt-ltb _ _ z.0) (length-octets m s.from (s.to - 1 - s.from) (omega (arith, z.0, z.1))) in
        omega (arith, ap length q, length-append (y ∷ ys) (0 ∷ []), z.0))
        (held-size o x)

-- what a message says, written again, has no more octets than the message
pub no_longer : (m : List ℕ) (w : ℕ) (s : Shape) (p : Parts) (qs : List Param) (head : List ℕ) → length head ≡ w → LaidOut m w s p qs → length (order_octets s (said_with head m w p)) ≤ length m
unfolding held
no_longer m w s p qs head nh l =
    let e = end_of w s in
    let n = length m - end_of w s in
    let ff = four-fit l.a l.b l.c l.d l.apart (end_of w s) (length m - end_of w s)
    (slot-lies m (end_of w s) (start_of w s) 0 s.vars l.a l.whole l.first)
    (slot-lies m (end_of w s) (start_of w s) 1 s.vars l.b l.whole l.second)
    (slot-lies m (end_of w s) (start_of w s) 2 s.vars l.c l.whole l.third)
    (optional-lies s.opt m (end_of w s) qs l.d l.whole l.optional) in
    let o = said_with head m w p in
    let pe = (pieced s.opt head (octet m w) (part_of m p.fixed) (contents_in s (said_with head m w p)) (part_of m p.optional)).ending in
    let nv : length (contents_in s (said_with head m w p)) ≡ s.vars = length-take-le s.vars _ l.few in
    let nf : length (part_of m p.fixed) ≡ s.fixed = (said_fits m w s p qs l head).fixed in
    let vz : length (variables (contents_in s (said_with head m w p))) ≤ size l.a + (size l.b + size l.c) =
    rw l.holds (variables-size m (end_of w s) (start_of w s) s.vars l.a l.b l.c (counted s.vars) l.first l.second l.third) in
    let rz : length (closed_run_lem (part_of m p.optional)) ≤ size l.d = rw l.holds (run-size s.opt m (end_of w s) qs l.d l.optional) in
    omega (arith, l.whole)

-- reading and writing again gives the compact form, or 12 where that form cannot hold a length or a
-- pointer, and nothing else
pub again-or-twelve : (m : List ℕ) (w most : ℕ) (s : Shape) (p : Parts) (qs : List Param) (head : List ℕ) → length head ≡ w → LaidOut m w s p qs → length m ≤ most
    → ((exceeds (marks s.opt (contents_in s (said_with head m w p)) (part_of m p.optional)) ≡ true) × (written_of s most (said_with head m w p) ≡ refused 12 0))
    ⊎ ((exceeds (marks s.opt (contents_in s (said_with head m w p)) (part_of m p.optional)) ≡ false) × (written_of s most (said_with head m w p) ≡ accepted (length (order_octets s (said_with head m w p)), order_octets s (said_with head m w p))))
unfolding written_of
again-or-twelve m w most s p qs head nh l h =
    let f = (fits-exactly s (said_with head m w p)).1 (said_fits m w s p qs l head) in
    let r = said-run m w s p qs l in
    let k : length (order_octets s (said_with head m w p)) ≤ most = omega (arith, no_longer m w s p qs head nh l) in
    ⊎_elim
    (λ t. inl (t, rw (f, r, t) refl))
    (λ t. inr (t, rw (f, r, t, le-ltb _ _ k) refl))
    (decided (exceeds (marks s.opt (contents_in s (said_with head m w p)) (part_of m p.optional))))
