-- The writer and the compact form from what their calls ensure, over plain variables.
use Prim.Native.Nat.{ℕ, ◌%◌, ◌≤◌}
use mathlib.Core.Path.{◌≡◌, refl, sym, ◌∙◌, ap}
use mathlib.Core.List.{List, [], ◌∷◌}
use borrow.Author.Tests.{le-ltb}
use Rattle.std.specs.Prelude.{Option, Some, None}
use Rattle.octets.specs.Octet.{AllOctets}
use Rattle.octets.specs.Answer.{accepted, refused, ◌then◌}
use Rattle.octets.specs.Filled.{done, leaving, room_for}
use Rattle.layout.specs.declared.Shape.{Shape}
use Rattle.layout.specs.Container.{kind_at}
use Rattle.layout.proofs.Exactly.{Inside, parts-inside}
use Rattle.writing.specs.Write.{write_parts_of}
use Rattle.family.specs.Family.{rewrite_in, rewrite_of}
use Rattle.isup.specs.declared.Message.{Message}
use Rattle.isup.specs.Table.{shape_of}
use Rattle.isup.specs.Read.{circuit_of_lem, read_of}
use Rattle.isup.specs.Write.{head_of, order_of, write_in, write_of, compact_in, compact_of}
use Rattle.isup.proofs.Circuit.{head-low}
use Rattle.isup.proofs.Exactly.{read-exactly}
use Rattle.isup.proofs.Places.{parts}

module _ (circuit kind : ℕ) (fixed first second run buffer : List ℕ) (c : circuit ≤ 4095) (k : kind ≤ 255) where
  pub write-unknown : shape_of kind ≡ None → leaving (refused 3 0) buffer ≡ write_of circuit kind fixed first second run buffer
  unfolding write_of write_in
  write-unknown e = rw (le-ltb _ _ c, le-ltb _ _ k, e) refl

  pub write-has : (s : Shape) → shape_of kind ≡ Some s → write_parts_of s 268 (order_of circuit kind fixed first second run) buffer ≡ write_of circuit kind fixed first second run buffer
  unfolding write_of write_in write_parts_of
  write-has s e = rw (le-ltb _ _ c, le-ltb _ _ k, e) refl

pub read-inside : (m : List ℕ) (x : Message) → read_of m ≡ accepted x → Inside m x.parts.fixed × Inside m x.parts.first × Inside m x.parts.second × Inside m x.parts.third × Inside m x.parts.optional
read-inside m x e = let f = (read-exactly m x).0 e in parts-inside m 2 f.shape x.parts f.params f.laid

-- the code takes the header's octets from the message, the type's row from the table
pub compact-given : (m : List ℕ) → AllOctets m → (a b k : ℕ) (r : Option Shape) (buffer : List ℕ) → a ≡ kind_at m 0 → b ≡ kind_at m 1 → k ≡ kind_at m 2 → r ≡ shape_of k → rewrite_of m 2 268 r (a ∷ b % 16 ∷ []) buffer ≡ compact_of m buffer
unfolding rewrite_of compact_of compact_in
compact-given m o a b k r buffer aq bq kq rq =
    let h : a ∷ b % 16 ∷ [] ≡ head_of (circuit_of_lem m) = (λ i. aq i ∷ bq i % 16 ∷ []) ∙ sym (head-low m o) in
    let q : r ≡ shape_of (kind_at m 2) = rq ∙ ap shape_of kq in
    λ i. done buffer (rewrite_in m 2 268 (q i) (h i) then room_for buffer)

-- what the reader refuses, reading and writing again refuses, octet and all
pub refused-compact : (m buffer : List ℕ) (n at : ℕ) → read_of m ≡ refused n at → leaving (refused n at) buffer ≡ compact_of m buffer
unfolding compact_of compact_in
refused-compact m buffer n at e = rw (parts m n at e) refl
