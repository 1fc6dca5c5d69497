-- Refused exactly when: the number is the first fault in the paper's order, and acceptance is the
-- absence of all. 9 is never given: any number of 32 bits is a code.
use Prim.Native.Nat.{ℕ}
use mathlib.Core.Path.{◌≡◌}
use mathlib.Core.List.{List, [], append-nil}
use native.Mathlib.Omega.{arith}
use Rattle.octets.specs.Octet.{octets}
use Rattle.octets.specs.Answer.{accepted, refused}
use Rattle.octets.specs.Faults.{Judges}
use Rattle.octets.proofs.Octet.{length-octets}
use Rattle.octets.proofs.Faults.{judges-done, judges-then}
use Rattle.family.specs.Family.{read_in}
use Rattle.family.proofs.Judged as family
use Rattle.family.proofs.Never as never
use Rattle.bicc.specs.Table.{bicc}
use Rattle.bicc.specs.Read.{call_message, call_read_of}
use Rattle.bicc.specs.Write.{call_order_of, call_write_in, call_write_of, call_compact_in, call_compact_of}
use Rattle.bicc.specs.Faults.{call_faults, call_write_faults, call_compact_faults}
use Rattle.bicc.proofs.Places.{parts}

-- 1 below 5 octets, 2 above 270, 3 for a type that is not in the table, then the parts
pub read-judges : (m : List ℕ) → Judges (call_read_of m) (call_faults m)
unfolding call_read_of
read-judges m = rw (← append-nil (call_faults m)) (judges-then (read_in bicc m) (λ p. accepted (call_message m p)) (call_faults m) [] (family.read-judges bicc m) (λ p e. judges-done (call_message m p)))

-- 3, 10, 11, 12, 2, 13
pub write-judges : (code kind : ℕ) (fixed first second run buffer : List ℕ) → Judges (call_write_of code kind fixed first second run buffer).answer (call_write_faults code kind fixed first second run buffer)
unfolding call_write_of call_write_in
write-judges code kind fixed first second run buffer = family.write-judges bicc (call_order_of code kind fixed first second run) buffer

-- the reader's numbers and octets, 12, 13
pub compact-judges : (m buffer : List ℕ) → Judges (call_compact_of m buffer).answer (call_compact_faults m buffer)
unfolding call_compact_of call_compact_in
compact-judges m buffer = family.compact-judges bicc m (octets m 0 4) buffer (λ l. length-octets m 0 4 (omega arith))

-- ---- 9 never
pub read-nine-never : (m : List ℕ) (at : ℕ) → call_read_of m ≡ refused 9 at → ⊥
read-nine-never m at e = never.read-nine bicc m at (parts m 9 at e)

pub write-nine-never : (code kind : ℕ) (fixed first second run buffer : List ℕ) (at : ℕ) → (call_write_of code kind fixed first second run buffer).answer ≡ refused 9 at → ⊥
unfolding call_write_of call_write_in
write-nine-never code kind fixed first second run buffer at = never.write-nine bicc (call_order_of code kind fixed first second run) buffer at

pub compact-nine-never : (m buffer : List ℕ) (at : ℕ) → (call_compact_of m buffer).answer ≡ refused 9 at → ⊥
unfolding call_compact_of call_compact_in
compact-nine-never m buffer at = never.compact-nine bicc (octets m 0 4) m buffer at
