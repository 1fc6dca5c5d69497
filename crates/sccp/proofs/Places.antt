-- The octet that a refusal is about: the reader's by document 02's rule; reading and writing again
-- hands it on; the writer's own numbers are about none.
use Prim.Native.Nat.{ℕ, ◌≤◌, ◌<◌}
use mathlib.Core.Path.{◌≡◌, ap}
use mathlib.Core.List.{List, []}
use mathlib.Core.Logic.{◌⊎◌, inl, inr, ⊎_elim}
use lib.ListN.{length}
use Rattle.octets.specs.Octet.{octet}
use Rattle.octets.specs.Answer.{accepted, refused, ◌then◌}
use Rattle.layout.specs.Places.{Place}
use Rattle.family.specs.Family.{read_in}
use Rattle.family.proofs.Places as family
use Rattle.sccp.specs.Table.{sccp_shape_of, sccp}
use Rattle.sccp.specs.Read.{sccp_message, sccp_read_of}
use Rattle.sccp.specs.Write.{sccp_order_of, sccp_write_in, sccp_write_of, sccp_compact_in, sccp_compact_of}

-- the message's refusals are its parts'
module _ (m : List ℕ) (n at : ℕ) where
  pub parts : sccp_read_of m ≡ refused n at → read_in sccp m ≡ refused n at
  unfolding sccp_read_of
  parts e = family.parts-refused (read_in sccp m) (sccp_message m) n at e

  whole : read_in sccp m ≡ refused n at → sccp_read_of m ≡ refused n at
  unfolding sccp_read_of
  whole e = ap (λ z. z then λ p. accepted (sccp_message m p)) e

  -- what a reader's refusal is about, number by number; the type octet is octet 0
  pub read-places : sccp_read_of m ≡ refused n at → Place m 0 (sccp_shape_of (octet m 0)) n at
  read-places e = family.read-places sccp m n at (parts e)

  -- it is never beyond the message's length, nor beyond the longest message's
  pub read-places-within : sccp_read_of m ≡ refused n at → (at ≤ length m) × (at ≤ 268)
  read-places-within e = family.read-places-within sccp m n at (parts e)

-- every number of the writer is about no octet, its 3 and its 2 too
pub write-placeless : (kind : ℕ) (fixed first second third run buffer : List ℕ) (n at : ℕ) → (sccp_write_of kind fixed first second third run buffer).answer ≡ refused n at → at ≡ 0
unfolding sccp_write_of sccp_write_in
write-placeless kind fixed first second third run buffer n at e = family.write-placeless sccp (sccp_order_of kind fixed first second third run) buffer n at e

-- ---- reading and writing again: a refusal is the reader's, octet and all, or about no octet
module _ (m buffer : List ℕ) (n at : ℕ) (e : (sccp_compact_of m buffer).answer ≡ refused n at) where
  pub compact-hands-on : (sccp_read_of m ≡ refused n at) ⊎ (at ≡ 0)
  unfolding sccp_compact_of sccp_compact_in
  compact-hands-on = ⊎_elim (λ q. inl (whole m n at q)) (λ z. inr z) (family.compact-hands-on sccp [] m buffer n at e)

  pub compact-places-within : at ≤ 268
  unfolding sccp_compact_of sccp_compact_in
  compact-places-within = family.compact-places-within sccp [] m buffer n at e

  pub compact-others : (n < 3) ⊎ (8 < n) → at ≡ 0
  unfolding sccp_compact_of sccp_compact_in
  compact-others = family.compact-others sccp [] m buffer n at e
