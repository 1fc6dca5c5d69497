-- Reading and writing again from what the calls ensure, over plain variables; any two answers that
-- the contract allows are equal, and a refusal keeps the buffer.
use Prim.Native.Nat.{ℕ}
use mathlib.Core.Path.{◌≡◌, refl, sym, ◌∙◌, ap}
use mathlib.Core.List.{List}
use Rattle.std.specs.Prelude.{Option, Some, None, Result, Ok, Err}
use Rattle.octets.specs.Answer.{accepted, refused, ◌then◌}
use Rattle.octets.specs.Filled.{done, leaving, room_for}
use Rattle.octets.specs.Told.{refusal_number, refusal_place, told}
use Rattle.octets.specs.declared.Refusal.{Refusal}
use Rattle.octets.proofs.Told.{writing-determined, writing-keeps}
use Rattle.layout.specs.declared.Shape.{Shape}
use Rattle.parts.specs.declared.Parts.{Parts}
use Rattle.layout.specs.Container.{kind_at, parts_of}
use Rattle.parts.specs.Spans.{part_of}
use Rattle.layout.proofs.Exactly.{Inside, parts-exactly, parts-inside}
use Rattle.writing.specs.Write.{order, written_of, write_parts_of}
use Rattle.family.specs.Family.{rewrite_in, rewrite_of}

module _ (m : List ℕ) (w most : ℕ) (s : Shape) (p : Parts) (e : parts_of m w most (Some s) ≡ accepted p) where
  pub read-inside : Inside m p.fixed × Inside m p.first × Inside m p.second × Inside m p.third × Inside m p.optional
  read-inside = let f = (parts-exactly m w most (Some s) p).0 e in parts-inside m w f.shape p f.params f.laid

  pub again-rewritten : (head buffer : List ℕ) (k : ℕ) (f a b c r : List ℕ)
      → k ≡ kind_at m w → f ≡ part_of m p.fixed → a ≡ part_of m p.first → b ≡ part_of m p.second → c ≡ part_of m p.third → r ≡ part_of m p.optional
      → write_parts_of s most (order head k f a b c r) buffer ≡ rewrite_of m w most (Some s) head buffer
  unfolding write_parts_of rewrite_of
  again-rewritten head buffer k f a b c r kq fq aq bq cq rq =
      (λ i. done buffer (written_of s most (order head (kq i) (fq i) (aq i) (bq i) (cq i) (rq i)) then room_for buffer)) ∙ rw e refl

module _ (m : List ℕ) (w most : ℕ) (r : Option Shape) (head buffer : List ℕ) (b : Result Parts Refusal) (bq : told b ≡ parts_of m w most r) where
  pub broken-rewritten : (why : Refusal) → b ≡ Err why → leaving (refused (refusal_number why) (refusal_place why)) buffer ≡ rewrite_of m w most r head buffer
  unfolding rewrite_of
  broken-rewritten why e = rw (sym bq ∙ ap told e) refl

  pub unknown-rewritten : (p : Parts) → b ≡ Ok p → r ≡ None → leaving (refused 3 0) buffer ≡ rewrite_of m w most r head buffer
  unfolding rewrite_of
  unknown-rewritten p e q = rw (sym bq ∙ ap told e, q) refl

  pub laid-parts : (p : Parts) (s : Shape) → b ≡ Ok p → r ≡ Some s → parts_of m w most (Some s) ≡ accepted p
  laid-parts p s e q = ap (parts_of m w most) (sym q) ∙ sym bq ∙ ap told e

pub rewrite-determined : (m : List ℕ) (w most : ℕ) (row : Option Shape) (head buffer : List ℕ) (r t : Result ℕ Refusal) (left left' : List ℕ)
    → leaving (told r) left ≡ rewrite_of m w most row head buffer → leaving (told t) left' ≡ rewrite_of m w most row head buffer → (r ≡ t) × (left ≡ left')
rewrite-determined m w most row head buffer r t left left' = writing-determined (rewrite_of m w most row head buffer) r t left left'

pub rewrite-keeps : (m : List ℕ) (w most : ℕ) (row : Option Shape) (head buffer : List ℕ) (n at : ℕ) (left : List ℕ) → leaving (refused n at) left ≡ rewrite_of m w most row head buffer → left ≡ buffer
unfolding rewrite_of
rewrite-keeps m w most row head buffer n at left e = writing-keeps buffer (rewrite_in m w most row head then room_for buffer) n at left e
