-- Refused exactly when: the number is the first fault in the paper's order, and acceptance is the
-- absence of all. 9 is never given: there is no circuit.
use Prim.Native.Nat.{ℕ}
use mathlib.Core.Path.{◌≡◌, refl}
use mathlib.Core.List.{List, [], append-nil}
use Rattle.octets.specs.Answer.{accepted, refused}
use Rattle.octets.specs.Faults.{Judges}
use Rattle.octets.proofs.Faults.{judges-done, judges-then}
use Rattle.family.specs.Family.{read_in}
use Rattle.family.proofs.Judged as family
use Rattle.family.proofs.Never as never
use Rattle.sccp.specs.Table.{sccp}
use Rattle.sccp.specs.Read.{sccp_message, sccp_read_of}
use Rattle.sccp.specs.Write.{sccp_order_of, sccp_write_in, sccp_write_of, sccp_compact_in, sccp_compact_of}
use Rattle.sccp.specs.Faults.{sccp_faults, sccp_write_faults, sccp_compact_faults}
use Rattle.sccp.proofs.Places.{parts}

-- 1 for an empty message, 2 above 268, 3 for a type that is not in the table, then the parts
pub read-judges : (m : List ℕ) → Judges (sccp_read_of m) (sccp_faults m)
unfolding sccp_read_of
read-judges m = rw (← append-nil (sccp_faults m)) (judges-then (read_in sccp m) (λ p. accepted (sccp_message m p)) (sccp_faults m) [] (family.read-judges sccp m) (λ p e. judges-done (sccp_message m p)))

-- 3, 10, 11, 12, 2, 13
pub write-judges : (kind : ℕ) (fixed first second third run buffer : List ℕ) → Judges (sccp_write_of kind fixed first second third run buffer).answer (sccp_write_faults kind fixed first second third run buffer)
unfolding sccp_write_of sccp_write_in
write-judges kind fixed first second third run buffer = family.write-judges sccp (sccp_order_of kind fixed first second third run) buffer

-- the reader's numbers and octets, 12, 13
pub compact-judges : (m buffer : List ℕ) → Judges (sccp_compact_of m buffer).answer (sccp_compact_faults m buffer)
unfolding sccp_compact_of sccp_compact_in
compact-judges m buffer = family.compact-judges sccp m [] buffer (λ l. refl)

-- ---- 9 never
pub read-nine-never : (m : List ℕ) (at : ℕ) → sccp_read_of m ≡ refused 9 at → ⊥
read-nine-never m at e = never.read-nine sccp m at (parts m 9 at e)

pub write-nine-never : (kind : ℕ) (fixed first second third run buffer : List ℕ) (at : ℕ) → (sccp_write_of kind fixed first second third run buffer).answer ≡ refused 9 at → ⊥
unfolding sccp_write_of sccp_write_in
write-nine-never kind fixed first second third run buffer at = never.write-nine sccp (sccp_order_of kind fixed first second third run) buffer at

pub compact-nine-never : (m buffer : List ℕ) (at : ℕ) → (sccp_compact_of m buffer).answer ≡ refused 9 at → ⊥
unfolding sccp_compact_of sccp_compact_in
compact-nine-never m buffer at = never.compact-nine sccp [] m buffer at
