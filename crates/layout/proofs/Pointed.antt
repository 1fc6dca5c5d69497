-- A pointer that is followed.
use Rattle.std.specs.Prelude.{Result, Ok}
use Rattle.octets.specs.Told.{told}
use Rattle.octets.specs.declared.Refusal.{Refusal}
use Prim.Native.Nat.{ℕ, ◌≤◌, ◌<◌}
use mathlib.Core.Path.{◌≡◌, sym, ◌∙◌, ap}
use mathlib.Core.List.{List}
use mathlib.Core.Logic.{⊎_elim}
use borrow.Author.Tests.{le-ltb, lt-leb, ltb-false, leb-false}
use lib.Dec.{ltb, leb}
use lib.ListN.{length}
use Rattle.octets.specs.Answer.{accepted}
use Rattle.octets.proofs.Choice.{chosen}
use Rattle.octets.proofs.Answer.{refused-accepted, accepted-same}
use Rattle.layout.specs.Container.{target, pointed}
use Rattle.layout.specs.Laid.{Points}

pub pointed_points : (m : List ℕ) (p e : ℕ) {t : ℕ} → pointed m p e ≡ accepted t → Points m e p t
pointed_points m p e h =
    ⊎_elim (λ x. absurd (refused-accepted x.1))
    (λ f. ⊎_elim (λ x. absurd (refused-accepted x.1))
    (λ g. let q = accepted-same g.1 in record { counted = sym q; behind = rw (← q) (ltb-false _ _ f.0); within = rw (← q) (leb-false _ _ g.0) })
    (chosen (leb (length m) (target m p)) f.1))
    (chosen (ltb (target m p) e) h)

pub points-pointed : {m : List ℕ} {p e t : ℕ} → Points m e p t → pointed m p e ≡ accepted t
points-pointed {m} {p} {e} x =
    let a : e ≤ target m p = rw (← x.counted) x.behind in
    let b : target m p < length m = rw (← x.counted) x.within in
    rw x.counted (simp (le-ltb _ _ a, lt-leb _ _ b))

-- from what the call that follows a pointer ensures
module _ (m : List ℕ) (p e : ℕ) (x : Result ℕ Refusal) (r : told x ≡ pointed m p e) where
  pub at-points : (t : ℕ) → x ≡ Ok t → Points m e p t
  at-points t q = pointed_points m p e (sym r ∙ ap (told) q)
