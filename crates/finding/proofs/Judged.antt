-- Refused exactly when: the number is the first fault in the paper's order,
-- and acceptance is the absence of all.
use Prim.Native.Nat.{ℕ, ◌<◌}
use mathlib.Core.Path.{◌≡◌, refl}
use mathlib.Core.List.{List, [], ◌∷◌}
use mathlib.Core.Logic.{inl, inr, ⊎_elim}
use native.Mathlib.Omega.{arith}
use borrow.Author.Tests.{ltb-true, ltb-false}
use lib.Dec.{ltb}
use lib.ListN.{length}
use Rattle.std.specs.Prelude.{Option, Some, None}
use Rattle.octets.specs.Faults.{Judges, fault}
use Rattle.octets.proofs.Faults.{judges-done, judges-there, judges-absent, judges-then, judges-choice}
use Rattle.runs.specs.Run.{is_run_lem, named_from}
use Rattle.runs.specs.Params.{BadRun, Param, Params}
use Rattle.runs.proofs.Exactly.{is-run-exactly, bad-run-exactly}
use Rattle.isup.specs.declared.Message.{Message}
use Rattle.isup.specs.Read.{read_of}
use Rattle.finding.specs.Find.{named_in, in_defaults, in_message, first_of, sought_in, locate_of}
use Rattle.isup.specs.WellFormed.{WellFormed}
use Rattle.isup.specs.Faults.{reader_faults}
use Rattle.finding.specs.Faults.{NoSuch, find_faults}
use Rattle.isup.proofs.Exactly.{read-exactly}
use Rattle.isup.proofs.Judged.{read-judges}
use Rattle.finding.proofs.Exactly.{lacks-exactly, run-lacks-exactly}

first-judges : (m d : List ℕ) (name : ℕ) (x : Message) (f : WellFormed m x) (ds : List Param) (p : Params d 0 ds (length d)) → (255 < name → ⊥)
    → Judges (first_of m x.parts.optional d name) (fault 15 0 (NoSuch m d name) ∷ [])
first-judges m d name x f ds p o = go (named_in m x.parts.optional name) (named_from d 0 name) refl refl
  where
    differ : (a n : ℕ) (y : Option (ℕ × ℕ)) → y ≡ Some (a, n) → y ≡ None → ⊥
    differ a n y e e' = let z : ◌≡◌ {A = ℕ} 0 1 = cc in omega arith

    go : (u v : Option (ℕ × ℕ)) → named_in m x.parts.optional name ≡ u → named_from d 0 name ≡ v → Judges (in_message u (in_defaults v)) (fault 15 0 (NoSuch m d name) ∷ [])
    go (Some (a, n)) v e e' =
        judges-absent _ (λ at h. ⊎_elim o (λ l. differ a n _ e ((lacks-exactly m x f name).1 l.0)) h.1) (judges-done _)
    go None (Some (a, n)) e e' =
        judges-absent _ (λ at h. ⊎_elim o (λ l. differ a n _ e' ((run-lacks-exactly d name ds p).1 l.1)) h.1) (judges-done _)
    go None None e e' =
        judges-there (fault 15 0 (NoSuch m d name)) [] 0 (refl, inr ((lacks-exactly m x f name).0 e, (run-lacks-exactly d name ds p).0 e')) (λ at h. h.0)

pub locate-judges : (m d : List ℕ) (name : ℕ) → Judges (locate_of m d name) (find_faults m d name)
unfolding locate_of sought_in
locate-judges m d name =
    judges-then (read_of m) (λ x. sought_in m x.parts.optional d name) (reader_faults m) _ (read-judges m)
    (λ x e.
    let f = (read-exactly m x).0 e in
    judges-choice (is_run_lem d)
    (λ t.
    let r = (is-run-exactly d).0 t in
    judges-absent _ (λ at h. let b = (bad-run-exactly d).1 h.1 in let z : ◌≡◌ {A = ℕ} 0 1 = cc in omega arith)
    (judges-choice (ltb 255 name)
    (λ g. judges-there (fault 15 0 (NoSuch m d name)) [] 0 (refl, inl (ltb-true _ _ g)) (λ at h. h.0))
    (λ g. first-judges m d name x f r.0 r.1 (λ h. omega (arith, ltb-false)))))
    (λ b. judges-there (fault 11 0 (BadRun d)) _ 0 (refl, (bad-run-exactly d).0 b) (λ at h. h.0)))
