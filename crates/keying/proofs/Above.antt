-- What the library's `any` finds is what the definition finds.
use Rattle.std.proofs.Common.{ℕ, ◌≡◌, Bool, true, false, ltb, List, [], ◌∷◌, refl, ap, ◌∙◌}
use Rattle.std.specs.Prelude.{◌||◌}
use Rattle.std.specs.List.{list_any}
use Rattle.octets.specs.Choice.{when◌then◌else◌}
use Rattle.dialling.specs.Write.{any_above15}

-- the first test, or the others
first-or : (t others : Bool) → (t || others) ≡ (when t then true else others)
first-or true others = refl
first-or false others = refl

-- so `any` over the signals answers as the definition does
pub any-above : (signals : List ℕ) → list_any (ltb 15) signals ≡ any_above15 signals
unfolding any_above15
any-above [] = refl
any-above (signal ∷ signals) =
    ap (λ (others : Bool). ltb 15 signal || others) (any-above signals) ∙ first-or (ltb 15 signal) (any_above15 signals)
