-- What writing accepts, and what it leaves in the lent buffer: a message
-- that reads with the same row.
use Rattle.std.specs.Prelude.{Some}
use Prim.Native.Nat.{ℕ, ◌≤◌}
use mathlib.Core.Path.{◌≡◌, refl, sym, ◌∙◌, ap, subst}
use mathlib.Core.Bool.{true, false}
use mathlib.Core.List.{List}
use mathlib.Core.Logic.{⊎_elim}
use native.Mathlib.Omega.{arith}
use borrow.Author.Tests.{ltb-false}
use lib.Dec.{ltb}
use lib.ListN.{length, take, drop}
use lib.Seq.{drop_at}
use Rattle.octets.specs.Answer.{accepted}
use Rattle.octets.specs.Filled.{leaving}
use Rattle.octets.proofs.Choice.{chosen}
use Rattle.octets.proofs.Answer.{refused-accepted, accepted-same, past-test}
use Rattle.octets.proofs.Filled.{room-accepted, take-filled}
use Rattle.layout.specs.declared.Shape.{Shape}
use Rattle.parts.specs.declared.Parts.{Parts}
use Rattle.layout.specs.Container.{parts_of}
use Rattle.layout.proofs.Exactly.{parts-exactly}
use Rattle.runs.specs.Params.{Param, Params}
use Rattle.runs.specs.Run.{is_run_lem}
use Rattle.runs.proofs.Exactly.{is-run-exactly}
use Rattle.measuring.specs.Measure.{unfit_of}
use Rattle.writing.specs.Write.{Order, contents_in, order_octets, marks, exceeds, written_of, write_parts_of, Fits}
use Rattle.writing.specs.Compact.{Compact, said_by}
use Rattle.writing.proofs.Plain.{fits-exactly}
use Rattle.writing.proofs.Back.{placed, written-laid, written-compact, written-says}

-- what is accepted fits the shape, has a whole run, and is the compact form,
-- no longer than the longest message
pub record Taken (s : Shape) (most : ℕ) (o : Order) (n : ℕ) (ys : List ℕ) : Type 0 where
  pub fits : Fits s o
  pub whole : is_run_lem o.run ≡ true
  pub held : exceeds (marks s.opt (contents_in s o) o.run) ≡ false
  pub short : length (order_octets s o) ≤ most
  pub octets : ys ≡ order_octets s o
  pub count : n ≡ length ys

pub written-taken : (s : Shape) (most : ℕ) (o : Order) (n : ℕ) (ys : List ℕ) → written_of s most o ≡ accepted (n, ys) → Taken s most o n ys
unfolding written_of
written-taken s most o n ys e =
    let c = past-test 10 0 (unfit_of s o.fixed o.first o.second o.third o.run) e in
    ⊎_elim
    (λ t.
    let d = past-test 12 0 (exceeds (marks s.opt (contents_in s o) o.run)) t.1 in
    let f = past-test 2 0 (ltb most (length (order_octets s o))) d.1 in
    let q : (length (order_octets s o), order_octets s o) ≡ (n, ys) = accepted-same f.1 in
    let q₁ : order_octets s o ≡ ys = ap (λ (z : ℕ × List ℕ). z.1) q in
    record { fits = (fits-exactly s o).0 c.0; whole = t.0; held = d.0; short = ltb-false _ _ f.0; octets = sym q₁; count = sym (ap (λ (z : ℕ × List ℕ). z.0) q) ∙ ap length q₁ })
    (λ z. absurd (refused-accepted z.1))
    (chosen (is_run_lem o.run) c.1)

-- what `write_parts` accepts of a row, `read_parts` accepts with the same row; it is in the compact
-- form and says what was given, octet for octet
pub write-parts-reads-back : (s : Shape) (most : ℕ) (o : Order) (buffer : List ℕ) (n : ℕ) (left : List ℕ) → write_parts_of s most o buffer ≡ leaving (accepted n) left
    → (p : Parts) × (qs : List Param) × (parts_of (take n left) (length o.head) most (Some s) ≡ accepted p) × Compact (take n left) (length o.head) s p qs × (said_by (take n left) (length o.head) p ≡ o)
unfolding write_parts_of
write-parts-reads-back s most o buffer n left e =
    let r = room-accepted buffer (written_of s most o) e in
    let t = written-taken s most o n r.0 r.1 in
    let q : take n left ≡ order_octets s o = ap (take n) r.3 ∙ take-filled r.0 buffer n t.count ∙ t.octets in
    subst (λ (m : List ℕ). (p : Parts) × (qs : List Param) × (parts_of m (length o.head) most (Some s) ≡ accepted p) × Compact m (length o.head) s p qs × (said_by m (length o.head) p ≡ o)) (sym q)
    (reads t.fits ((is-run-exactly o.run).0 t.whole) t.short)
  where
    reads : (f : Fits s o) → (qs : List Param) × Params o.run 0 qs (length o.run) → length (order_octets s o) ≤ most
        → (p : Parts) × (qs : List Param) × (parts_of (order_octets s o) (length o.head) most (Some s) ≡ accepted p) × Compact (order_octets s o) (length o.head) s p qs × (said_by (order_octets s o) (length o.head) p ≡ o)
    reads f ps short =
        let l = written-laid s o f ps.0 ps.1 in (
          placed s o f,
          ps.0,
          (parts-exactly (order_octets s o) (length o.head) most (Some s) (placed s o f)).1
              (record { shape = s; params = ps.0; least = omega (arith, l.whole); most = short; listed = refl; laid = l }),
          written-compact s o f ps.0 ps.1,
          written-says s o f,
        )

-- so many octets are filled as are reported, and the rest of the buffer is kept
pub write-parts-keeps-rest : (s : Shape) (most : ℕ) (o : Order) (buffer : List ℕ) (n : ℕ) (left : List ℕ) → write_parts_of s most o buffer ≡ leaving (accepted n) left → (n ≤ length buffer) × (drop n left ≡ drop n buffer)
unfolding write_parts_of
write-parts-keeps-rest s most o buffer n left e =
    let r = room-accepted buffer (written_of s most o) e in
    let t = written-taken s most o n r.0 r.1 in
    (omega (arith, r.2, t.count), ap (drop n) r.3 ∙ drop_at r.0 _ n (sym t.count) ∙ ap (λ (k : ℕ). drop k buffer) (sym t.count))
