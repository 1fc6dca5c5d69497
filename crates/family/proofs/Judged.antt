-- Refused exactly when, over any family: the number is the first fault in the paper's order, and
-- acceptance is the absence of all. The numbers that are never given.
use Prim.Native.Nat.{ℕ, ◌≤◌, ◌<◌}
use mathlib.Core.Path.{◌≡◌, refl, sym, ◌∙◌, ap, subst}
use mathlib.Core.List.{List, [], ◌∷◌, ◌++◌}
use mathlib.Core.Logic.{inl, inr, ⊎_elim}
use native.Mathlib.Omega.{arith}
use borrow.Author.Tests.{ltb-true, ltb-false}
use lib.Dec.{ltb}
use lib.ListN.{length}
use Rattle.std.specs.Prelude.{Option, Some, None}
use Rattle.octets.specs.Octet.{octets}
use Rattle.octets.specs.Answer.{Answer, ◌then◌}
use Rattle.octets.specs.Filled.{room_for}
use Rattle.octets.specs.Faults.{Fault, Absent, Judges, fault}
use Rattle.octets.proofs.Answer.{accepted-same}
use Rattle.octets.proofs.Filled.{judges-filled, room-judges}
use Rattle.octets.proofs.Faults.{judges-done, judges-there, judges-absent, judges-if, judges-then, judges-choice}
use Rattle.layout.specs.declared.Shape.{Shape}
use Rattle.parts.specs.declared.Parts.{Parts}
use Rattle.layout.specs.Container.{kind_at, parts_of}
use Rattle.layout.specs.Laid.{Framed}
use Rattle.layout.specs.Faults.{message_faults}
use Rattle.layout.proofs.Exactly.{parts-exactly}
use Rattle.layout.proofs.Judged.{parts-judges}
use Rattle.writing.specs.Write.{Order, order_octets, written_of, exceeds, marks, contents_in}
use Rattle.writing.specs.Compact.{said_with, said_by}
use Rattle.writing.specs.Faults.{Exceeds}
use Rattle.writing.proofs.Plain.{fits-exactly}
use Rattle.writing.proofs.Again.{said_fits, said-run}
use Rattle.writing.proofs.Shorter.{no_longer}
use Rattle.writing.proofs.Judged.{written-judges, exceeds-exactly}
use Rattle.family.specs.Family.{Family, read_in, of_shape, family_write_in, family_write_of, again_in, rewrite_in, rewrite_of, family_compact_in, family_compact_of}
use Rattle.family.specs.Faults.{family_faults, NoType, shape_faults, family_writer_faults, family_write_faults, CannotHold, TooLong, rewrite_faults, again_faults, family_compact_faults}
use Rattle.family.proofs.Family.{shape_one}

-- a fault that is not there may be left out
last-absent : {A : Type 0} {x : Answer A} (f g : Fault) → Absent g → Judges x (f ∷ g ∷ []) → Judges x (f ∷ [])
last-absent f g a j = record {
  refuses = λ n at. (
    λ e. ⊎_elim (λ h. inl h) (λ h. ⊎_elim (λ k. absurd (a at k.1)) (λ k. absurd k.1) h.1) ((j.refuses n at).0 e),
    λ h. (j.refuses n at).1 (⊎_elim (λ k. inl k) (λ k. absurd k.1) h),
  );
  accepts = (λ e. ((j.accepts.0 e).0, tt), λ h. j.accepts.1 (h.0, (a, tt)));
}

-- ---- reading and writing again, with any row and any header
module _ (m : List ℕ) (w most : ℕ) (r : Option Shape) (p : Parts) (f : Framed m w most r p) where
  -- a message is well formed in one way only
  one-shape : (q : Parts) (g : Framed m w most r q) → (g.shape ≡ f.shape) × (q ≡ p)
  one-shape q g = (shape_one (sym g.listed ∙ f.listed), accepted-same (sym ((parts-exactly m w most r q).1 g) ∙ (parts-exactly m w most r p).1 f))

  -- what it says fits its row and has a whole run, so 12 and 2 are left
  again-judges : (head : List ℕ) → Judges (again_in m w most r head p) (fault 12 0 (CannotHold m w most r) ∷ fault 2 0 (TooLong m w most r head) ∷ [])
  unfolding written_of
  again-judges head =
      let fits = said_fits m w f.shape p f.params f.laid head in
      let ex = exceeds-exactly f.shape (said_by m w p) (said_fits m w f.shape p f.params f.laid (octets m 0 w)) in
      subst (λ (y : Answer (ℕ × List ℕ)). Judges y (fault 12 0 (CannotHold m w most r) ∷ fault 2 0 (TooLong m w most r head) ∷ [])) (ap (λ (z : Option Shape). of_shape z most (said_with head m w p)) (sym f.listed))
      (rw ((fits-exactly f.shape (said_with head m w p)).1 fits, said-run m w f.shape p f.params f.laid)
      (judges-if (exceeds (marks f.shape.opt (contents_in f.shape (said_with head m w p)) (said_with head m w p).run))
      (λ t. (p, f, ex.0 t))
      (λ t x. let z = ex.1 (moved-exceeds x.0 x.1 x.2) in let k : ◌≡◌ {A = ℕ} 0 1 = cc in omega arith)
      (λ t. judges-if (ltb most (length (order_octets f.shape (said_with head m w p))))
      (λ u. (p, f, ltb-true _ _ u))
      (λ u x. omega (arith, ltb-false most (length (order_octets f.shape (said_with head m w p))) u, moved-long x.0 x.1 x.2))
      (λ u. judges-done _))))
    where
      moved-exceeds : (q : Parts) (g : Framed m w most r q) → Exceeds g.shape (said_by m w q) → Exceeds f.shape (said_by m w p)
      moved-exceeds q g x = let e = one-shape q g in subst (λ (z : Shape). Exceeds z (said_by m w p)) e.0 (subst (λ (z : Parts). Exceeds g.shape (said_by m w z)) e.1 x)

      moved-long : (q : Parts) (g : Framed m w most r q) → most < length (order_octets g.shape (said_with head m w q)) → most < length (order_octets f.shape (said_with head m w p))
      moved-long q g x = let e = one-shape q g in subst (λ (z : Shape). most < length (order_octets z (said_with head m w p))) e.0 (subst (λ (z : Parts). most < length (order_octets g.shape (said_with head m w z))) e.1 x)

  -- with a header of that width it is no longer than the message was
  never-too-long : (head : List ℕ) → length head ≡ w → TooLong m w most r head → ⊥
  never-too-long head h x = let g = x.1 in omega (arith, no_longer m w x.1.shape x.0 x.1.params head h x.1.laid, x.1.most, x.2)

  again-judges-alone : (head : List ℕ) → length head ≡ w → Judges (again_in m w most r head p) (fault 12 0 (CannotHold m w most r) ∷ [])
  again-judges-alone head h = last-absent _ _ (λ at x. never-too-long head h x.1) (again-judges head)

-- the reader's, 12, 2, 13
pub rewrite-judges : (m : List ℕ) (w most : ℕ) (r : Option Shape) (head buffer : List ℕ) → Judges (rewrite_of m w most r head buffer).answer (rewrite_faults m w most r head buffer)
unfolding rewrite_of
rewrite-judges m w most r head buffer =
    judges-filled buffer (rewrite_in m w most r head then room_for buffer) (rewrite_faults m w most r head buffer)
    (room-judges (rewrite_in m w most r head) buffer (message_faults m w most r ++ (fault 12 0 (CannotHold m w most r) ∷ fault 2 0 (TooLong m w most r head) ∷ []))
    (judges-then (parts_of m w most r) (again_in m w most r head) (message_faults m w most r) _ (parts-judges m w most r) (λ p e. again-judges m w most r p ((parts-exactly m w most r p).0 e) head)))

module _ (F : Family) where
  pub read-judges : (m : List ℕ) → Judges (read_in F m) (family_faults F m)
  read-judges m = parts-judges m F.width F.most (F.row (kind_at m F.width))

  -- 3, 10, 11, 12, 2
  pub writer-judges : (o : Order) → Judges (family_write_in F o) (family_writer_faults F o)
  writer-judges o =
      judges-choice (ltb 255 o.kind)
      (λ t. judges-there (fault 3 0 (NoType F o.kind)) _ 0 (refl, inl (ltb-true _ _ t)) (λ at h. h.0))
      (λ t. go (F.row o.kind) refl (ltb-false _ _ t))
    where
      go : (r : Option Shape) → F.row o.kind ≡ r → o.kind ≤ 255 → Judges (of_shape r F.most o) (fault 3 0 (NoType F o.kind) ∷ shape_faults r F.most o)
      go None e h = judges-there (fault 3 0 (NoType F o.kind)) [] 0 (refl, inr e) (λ at h. h.0)
      go (Some s) e h =
          judges-absent (fault 3 0 (NoType F o.kind)) (λ at x. ⊎_elim (λ y. omega arith) (λ y. let z : ◌≡◌ {A = ℕ} 0 1 = cc in omega arith) x.1) (written-judges s F.most o)

  -- then 13
  pub write-judges : (o : Order) (buffer : List ℕ) → Judges (family_write_of F o buffer).answer (family_write_faults F o buffer)
  write-judges o buffer = judges-filled buffer (family_write_in F o then room_for buffer) (family_write_faults F o buffer) (room-judges (family_write_in F o) buffer (family_writer_faults F o) (writer-judges o))

  -- the reader's, 12; of a message that is too short the header does not matter
  again-faults : (m head : List ℕ) → (F.width < length m → length head ≡ F.width) → Judges (family_compact_in F head m) (again_faults F m)
  again-faults m head h =
      judges-then (read_in F m) (again_in m F.width F.most (F.row (kind_at m F.width)) head) (family_faults F m) _ (read-judges m)
      (λ p e.
      let f = (parts-exactly m F.width F.most (F.row (kind_at m F.width)) p).0 e in
      again-judges-alone m F.width F.most (F.row (kind_at m F.width)) p f head (h f.least))

  -- then 13
  pub compact-judges : (m head buffer : List ℕ) → (F.width < length m → length head ≡ F.width) → Judges (family_compact_of F head m buffer).answer (family_compact_faults F head m buffer)
  compact-judges m head buffer h =
      judges-filled buffer (family_compact_in F head m then room_for buffer) (family_compact_faults F head m buffer) (room-judges (family_compact_in F head m) buffer (again_faults F m) (again-faults m head h))
