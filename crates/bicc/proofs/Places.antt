-- The octet that a refusal is about: the reader's by document 02's rule; reading and writing again
-- hands it on; the writer's own numbers are about none.
use Prim.Native.Nat.{ℕ, ◌≤◌, ◌<◌}
use mathlib.Core.Path.{◌≡◌, ap}
use mathlib.Core.List.{List}
use mathlib.Core.Logic.{◌⊎◌, inl, inr, ⊎_elim}
use lib.ListN.{length}
use Rattle.octets.specs.Octet.{octet, octets}
use Rattle.octets.specs.Answer.{accepted, refused, ◌then◌}
use Rattle.layout.specs.Places.{Place}
use Rattle.family.specs.Family.{read_in}
use Rattle.family.proofs.Places as family
use Rattle.bicc.specs.Table.{call_shape_of, bicc}
use Rattle.bicc.specs.Read.{call_message, call_read_of}
use Rattle.bicc.specs.Write.{call_order_of, call_write_in, call_write_of, call_compact_in, call_compact_of}

-- the message's refusals are its parts'
module _ (m : List ℕ) (n at : ℕ) where
  pub parts : call_read_of m ≡ refused n at → read_in bicc m ≡ refused n at
  unfolding call_read_of
  parts e = family.parts-refused (read_in bicc m) (call_message m) n at e

  whole : read_in bicc m ≡ refused n at → call_read_of m ≡ refused n at
  unfolding call_read_of
  whole e = ap (λ z. z then λ p. accepted (call_message m p)) e

  -- what a reader's refusal is about, number by number; the type octet is octet 4
  pub read-places : call_read_of m ≡ refused n at → Place m 4 (call_shape_of (octet m 4)) n at
  read-places e = family.read-places bicc m n at (parts e)

  -- it is never beyond the message's length, nor beyond the longest message's
  pub read-places-within : call_read_of m ≡ refused n at → (at ≤ length m) × (at ≤ 270)
  read-places-within e = family.read-places-within bicc m n at (parts e)

-- every number of the writer is about no octet, its 3 and its 2 too
pub write-placeless : (code kind : ℕ) (fixed first second run buffer : List ℕ) (n at : ℕ) → (call_write_of code kind fixed first second run buffer).answer ≡ refused n at → at ≡ 0
unfolding call_write_of call_write_in
write-placeless code kind fixed first second run buffer n at e = family.write-placeless bicc (call_order_of code kind fixed first second run) buffer n at e

-- ---- reading and writing again: a refusal is the reader's, octet and all, or about no octet
module _ (m buffer : List ℕ) (n at : ℕ) (e : (call_compact_of m buffer).answer ≡ refused n at) where
  pub compact-hands-on : (call_read_of m ≡ refused n at) ⊎ (at ≡ 0)
  unfolding call_compact_of call_compact_in
  compact-hands-on = ⊎_elim (λ q. inl (whole m n at q)) (λ z. inr z) (family.compact-hands-on bicc (octets m 0 4) m buffer n at e)

  pub compact-places-within : at ≤ 270
  unfolding call_compact_of call_compact_in
  compact-places-within = family.compact-places-within bicc (octets m 0 4) m buffer n at e

  pub compact-others : (n < 3) ⊎ (8 < n) → at ≡ 0
  unfolding call_compact_of call_compact_in
  compact-others = family.compact-others bicc (octets m 0 4) m buffer n at e
