-- The octet that a refusal is about, over any family: the reader's by document 02's rule; reading
-- and writing again hands it on; the writer's own numbers are about none.
use Prim.Native.Nat.{ℕ, ◌≤◌, ◌<◌}
use mathlib.Core.Path.{◌≡◌, sym}
use mathlib.Core.List.{List}
use mathlib.Core.Logic.{◌⊎◌, inr, ⊎_elim}
use native.Mathlib.Omega.{arith}
use lib.Dec.{ltb}
use lib.ListN.{length}
use Rattle.std.specs.Prelude.{Option, Some, None}
use Rattle.octets.specs.Octet.{octet}
use Rattle.octets.specs.Answer.{Answer, accepted, refused, ◌then◌}
use Rattle.octets.specs.Filled.{room_for}
use Rattle.octets.proofs.Answer.{refused-accepted, refused_as}
use Rattle.octets.proofs.Places.{UpTo, up-to-refused, up-to-if, up-to-room, up-to-done, handed-on, room-handed-on}
use Rattle.parts.specs.declared.Parts.{Parts}
use Rattle.layout.specs.Container.{kind_at, parts_of}
use Rattle.layout.specs.Places.{Place}
use Rattle.layout.specs.declared.Shape.{Shape}
use Rattle.layout.proofs.Places.{place-rule, place-within, place-most}
use Rattle.writing.specs.Write.{Order}
use Rattle.writing.specs.Compact.{said_with}
use Rattle.writing.proofs.Places.{written-placeless}
use Rattle.family.specs.Family.{Family, read_in, of_shape, family_write_in, family_write_of, again_in, rewrite_in, rewrite_of, family_compact_of}

-- a message's refusals are its parts', whatever is made of the parts
pub parts-refused : {A : Type 0} (x : Answer Parts) (f : Parts → A) (n at : ℕ) → (x then λ p. accepted (f p)) ≡ refused n at → x ≡ refused n at
parts-refused (accepted p) f n at e = absurd (refused-accepted (sym e))
parts-refused (refused k q) f n at e = refused_as e

shape-placeless : (r : Option Shape) (most : ℕ) (o : Order) → UpTo 0 (of_shape r most o)
shape-placeless (Some s) most o = written-placeless s most o
shape-placeless None most o = up-to-refused _ 3 0 (omega arith)

-- reading and writing again, with any row and any header: a refusal is the
-- reader's, octet and all, or about no octet
pub rewrite-hands-on : (m : List ℕ) (w most : ℕ) (r : Option Shape) (head buffer : List ℕ) (n at : ℕ) → (rewrite_of m w most r head buffer).answer ≡ refused n at → (parts_of m w most r ≡ refused n at) ⊎ (at ≡ 0)
unfolding rewrite_of
rewrite-hands-on m w most r head buffer n at e =
    ⊎_elim
    (handed-on (parts_of m w most r) (again_in m w most r head) (λ p. shape-placeless r most (said_with head m w p)) n at)
    (λ z. inr z)
    (room-handed-on buffer (rewrite_in m w most r head) n at e)

module _ (F : Family) where
  module _ (m : List ℕ) (n at : ℕ) (e : read_in F m ≡ refused n at) where
    -- what a reader's refusal is about, number by number
    pub read-places : Place m F.width (F.row (octet m F.width)) n at
    read-places = place-rule m F.width F.most (F.row (kind_at m F.width)) n at e

    -- it is never beyond the message's length, nor beyond the longest message's
    pub read-places-within : (at ≤ length m) × (at ≤ F.most)
    read-places-within = (place-within m F.width F.most (F.row (kind_at m F.width)) n at e, place-most m F.width F.most (F.row (kind_at m F.width)) n at e)

  -- of what hands the reader's refusals on: the octet is one of the longest message's
  pub handed-within : (m : List ℕ) (n at : ℕ) → (read_in F m ≡ refused n at) ⊎ (at ≡ 0) → at ≤ F.most
  handed-within m n at = ⊎_elim (λ e. (read-places-within m n at e).1) (λ z. omega (arith, z))

  -- and a number that is no reader's from 3 to 8 is about no octet
  pub others-placeless : (m : List ℕ) (n at : ℕ) → (read_in F m ≡ refused n at) ⊎ (at ≡ 0) → (n < 3) ⊎ (8 < n) → at ≡ 0
  others-placeless m n at h o =
      ⊎_elim
      (λ e. ⊎_elim (λ x. x.1)
      (⊎_elim (λ x. absurd (not-reader 3 x.0 (omega arith) (omega arith)))
      (⊎_elim (λ x. absurd (not-reader 4 x.0 (omega arith) (omega arith)))
      (λ x. absurd (⊎_elim (λ y. not-reader 5 y.0 (omega arith) (omega arith))
      (⊎_elim (λ y. not-reader 6 y.0 (omega arith) (omega arith))
      (⊎_elim (λ y. not-reader 7 y.0 (omega arith) (omega arith)) (λ y. not-reader 8 y.0 (omega arith) (omega arith)))) x.2))))
      (read-places m n at e))
      (λ z. z)
      h
    where
      not-reader : (k : ℕ) → n ≡ k → 3 ≤ k → k ≤ 8 → ⊥
      not-reader k q l u = ⊎_elim (λ x. omega (arith, q)) (λ x. omega (arith, q)) o

  -- ---- the writer: every number is about no octet, its 3 and its 2 too
  pub write-in-placeless : (o : Order) → UpTo 0 (family_write_in F o)
  write-in-placeless o = up-to-if _ (ltb 255 o.kind) (λ _. up-to-refused _ 3 0 (omega arith)) (λ _. shape-placeless (F.row o.kind) F.most o)

  pub write-placeless : (o : Order) (buffer : List ℕ) (n at : ℕ) → (family_write_of F o buffer).answer ≡ refused n at → at ≡ 0
  write-placeless o buffer n at e =
      let h = up-to-done 0 buffer (family_write_in F o then room_for buffer) (up-to-room 0 buffer _ (write-in-placeless o)) n at e in
      omega (arith, h)

  -- ---- reading and writing again
  module _ (head m buffer : List ℕ) (n at : ℕ) (e : (family_compact_of F head m buffer).answer ≡ refused n at) where
    pub compact-hands-on : (read_in F m ≡ refused n at) ⊎ (at ≡ 0)
    unfolding rewrite_of
    compact-hands-on = rewrite-hands-on m F.width F.most (F.row (kind_at m F.width)) head buffer n at e

    pub compact-places-within : at ≤ F.most
    compact-places-within = handed-within m n at compact-hands-on

    pub compact-others : (n < 3) ⊎ (8 < n) → at ≡ 0
    compact-others = others-placeless m n at compact-hands-on
