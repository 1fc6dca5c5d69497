-- Wrong programs, each refuted on one call: what it answers is not what the definition says.
use mathlib.Core.Path.{◌≡◌, refl}
use mathlib.Core.List.{[], ◌∷◌}
use Rattle.octets.specs.Answer.{refused}
use Rattle.octets.specs.Filled.{leaving}
use Rattle.measuring.specs.Measure.{unfit_of}
use Rattle.layout.proofs.Refutations.{four}
use Rattle.writing.specs.Write.{order, written_of, write_parts_of}

-- a row of four variable parts: a writer that takes it writes three pointers,
-- which the reader of that row cannot read
pub four-unwritten : write_parts_of four 268 (order [] 1 [] [] [] [] []) (9 ∷ 9 ∷ 9 ∷ 9 ∷ 9 ∷ 9 ∷ 9 ∷ []) ≡ leaving (refused 10 0) (9 ∷ 9 ∷ 9 ∷ 9 ∷ 9 ∷ 9 ∷ 9 ∷ [])
unfolding write_parts_of written_of unfit_of
four-unwritten = refl
