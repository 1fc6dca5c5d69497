-- Refused exactly when: the number is the first fault in the paper's order,
-- and acceptance is the absence of all.
use Prim.Native.Nat.{ℕ}
use mathlib.Core.List.{List, [], append-nil}
use Rattle.octets.specs.Answer.{accepted}
use Rattle.octets.specs.Faults.{Judges}
use Rattle.octets.proofs.Faults.{judges-done, judges-then}
use Rattle.family.specs.Family.{read_in}
use Rattle.family.proofs.Judged as family
use Rattle.isup.specs.Table.{isup}
use Rattle.isup.specs.Read.{message, read_of}
use Rattle.isup.specs.Faults.{reader_faults}

pub read-judges : (m : List ℕ) → Judges (read_of m) (reader_faults m)
unfolding read_of
read-judges m = rw (← append-nil (reader_faults m)) (judges-then (read_in isup m) (λ p. accepted (message m p)) (reader_faults m) [] (family.read-judges isup m) (λ p e. judges-done (message m p)))
