-- Refused exactly when: 26 where a fault is there, and accepted where none is.
use mathlib.Core.Path.{refl, sym, ◌∙◌, subst}
use mathlib.Core.Logic.{inl, inr}
use Prim.Native.Nat.{◌≤◌}
use native.Mathlib.Omega.{arith}
use native.Mathlib.Decide.{dec_lt}
use Rattle.octets.specs.Answer.{Answer}
use Rattle.octets.specs.Faults.{Judges, fault}
use Rattle.octets.proofs.Answer.{refused-accepted}
use Rattle.octets.proofs.Faults.{judges-done, judges-there, judges-absent}
use Rattle.velocity.specs.declared.Velocity.{Velocity}
use Rattle.velocity.specs.declared.Codes.{Codes}
use Rattle.velocity.specs.Velocity.{codes_of, known_of, Stands}
use Rattle.velocity.specs.Rules.{RefusedFor, bearing_code_lem}
use Rattle.velocity.specs.Faults.{velocity_faults, codes_faults}
use Rattle.velocity.proofs.Exactly.{code-told, refused-exactly}
use Rattle.velocity.proofs.Back.{codes-read, unread-exactly}

-- of coding
pub code-judges : (v : Velocity) → Judges (codes_of v) (velocity_faults v)
code-judges v = elim (code-told v) [
  | inl f ↦
      subst (λ (x : Answer Codes). Judges x (velocity_faults v)) (sym f.1)
      (judges-absent (fault 26 0 (RefusedFor v)) (λ at h. refused-accepted (sym ((refused-exactly v).1 h.1) ∙ f.1)) (judges-done f.0))
  | inr f ↦
      subst (λ (x : Answer Codes). Judges x (velocity_faults v)) (sym f.0)
      (judges-there (fault 26 0 (RefusedFor v)) _ 0 (refl, f.1) (λ at h. h.0))
]

-- of reading back
pub known-judges : (c : Codes) → Judges (known_of c) (codes_faults c)
known-judges c = elim (dec_lt 359 (bearing_code_lem c)) [
  | yes l ↦
      subst (λ (x : Answer Stands). Judges x (codes_faults c)) (sym ((unread-exactly c).1 l))
      (judges-there (fault 26 0 _) _ 0 (refl, l) (λ at h. h.0))
  | no l ↦
      let k : bearing_code_lem c ≤ 359 = omega arith in
      let r = (codes-read c).1 k in
      subst (λ (x : Answer Stands). Judges x (codes_faults c)) (sym r.1)
      (judges-absent (fault 26 0 _) (λ at h. l h.1) (judges-done r.0))
]
