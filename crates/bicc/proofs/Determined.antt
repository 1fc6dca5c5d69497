-- Any two answers that a public function's contract allows are equal, with the buffer afterwards;
-- and a refusal keeps the buffer.
use Prim.Native.Nat.{ℕ}
use mathlib.Core.Path.{◌≡◌}
use mathlib.Core.List.{List}
use Rattle.std.specs.Prelude.{Option, Result}
use Rattle.octets.specs.Answer.{◌then◌, refused}
use Rattle.octets.specs.Filled.{leaving, room_for}
use Rattle.octets.specs.Told.{told}
use Rattle.octets.specs.declared.Refusal.{Refusal}
use Rattle.octets.proofs.Answer.{one_answer}
use Rattle.octets.proofs.Told.{writing-determined, writing-keeps, told-injective}
use Rattle.layout.specs.declared.Shape.{Shape}
use Rattle.bicc.specs.Table.{call_shape_of}
use Rattle.bicc.specs.Read.{call_read_of}
use Rattle.bicc.specs.Write.{call_write_in, call_write_of, call_compact_in, call_compact_of}
use Rattle.bicc.specs.declared.Message.{Message}

pub shape-of-determined : (kind : ℕ) (r s : Option Shape) → r ≡ call_shape_of kind → s ≡ call_shape_of kind → r ≡ s
shape-of-determined kind r s = one_answer

pub read-determined : (m : List ℕ) (r s : Result Message Refusal) → told r ≡ call_read_of m → told s ≡ call_read_of m → r ≡ s
read-determined m r s p q = told-injective r s (one_answer p q)

module _ (code kind : ℕ) (fixed first second run buffer : List ℕ) where
  pub write-determined : (r t : Result ℕ Refusal) (left left' : List ℕ)
      → leaving (told r) left ≡ call_write_of code kind fixed first second run buffer → leaving (told t) left' ≡ call_write_of code kind fixed first second run buffer → (r ≡ t) × (left ≡ left')
  write-determined r t left left' = writing-determined (call_write_of code kind fixed first second run buffer) r t left left'

  pub write_keeps : (n at : ℕ) (left : List ℕ) → leaving (refused n at) left ≡ call_write_of code kind fixed first second run buffer → left ≡ buffer
  unfolding call_write_of
  write_keeps n at left e = writing-keeps buffer (call_write_in code kind fixed first second run then room_for buffer) n at left e

module _ (m buffer : List ℕ) where
  pub compact-determined : (r t : Result ℕ Refusal) (left left' : List ℕ) → leaving (told r) left ≡ call_compact_of m buffer → leaving (told t) left' ≡ call_compact_of m buffer → (r ≡ t) × (left ≡ left')
  compact-determined r t left left' = writing-determined (call_compact_of m buffer) r t left left'

  pub compact-keeps : (n at : ℕ) (left : List ℕ) → leaving (refused n at) left ≡ call_compact_of m buffer → left ≡ buffer
  unfolding call_compact_of
  compact-keeps n at left e = writing-keeps buffer (call_compact_in m then room_for buffer) n at left e
