-- Any two answers that the contract of `write_parts` allows are equal, with the buffer afterwards;
-- and a refusal keeps the buffer.
use Rattle.octets.specs.Answer.{refused}
use Rattle.std.specs.Prelude.{Result}
use Rattle.octets.specs.Told.{told}
use Rattle.octets.specs.declared.Refusal.{Refusal}
use Prim.Native.Nat.{ℕ}
use mathlib.Core.Path.{◌≡◌}
use mathlib.Core.List.{List}
use Rattle.octets.specs.Answer.{◌then◌}
use Rattle.octets.specs.Filled.{leaving, room_for}
use Rattle.layout.specs.declared.Shape.{Shape}
use Rattle.writing.specs.Write.{Order, written_of, write_parts_of}
use Rattle.octets.proofs.Told.{writing-determined, writing-keeps}

-- of writing any shape row
pub write-parts-determined : (s : Shape) (most : ℕ) (o : Order) (buffer : List ℕ) (r t : Result ℕ Refusal) (left left' : List ℕ)
    → leaving (told r) left ≡ write_parts_of s most o buffer → leaving (told t) left' ≡ write_parts_of s most o buffer → (r ≡ t) × (left ≡ left')
write-parts-determined s most o buffer r t left left' = writing-determined (write_parts_of s most o buffer) r t left left'

-- a refusal keeps the buffer
pub write-parts-keeps : (s : Shape) (most : ℕ) (o : Order) (buffer : List ℕ) (n at : ℕ) (left : List ℕ) → leaving (refused n at) left ≡ write_parts_of s most o buffer → left ≡ buffer
unfolding write_parts_of
write-parts-keeps s most o buffer n at left e = writing-keeps buffer (written_of s most o then room_for buffer) n at left e
