-- Every number of the writer is about no octet, over any shape row.
use Prim.Native.Nat.{ℕ}
use native.Mathlib.Omega.{arith}
use lib.Dec.{ltb}
use lib.ListN.{length}
use Rattle.octets.proofs.Places.{UpTo, up-to-accepted, up-to-refused, up-to-if}
use Rattle.runs.specs.Run.{is_run_lem}
use Rattle.layout.specs.declared.Shape.{Shape}
use Rattle.measuring.specs.Measure.{unfit_of}
use Rattle.writing.specs.Write.{Order, order_octets, written_of, exceeds, marks, contents_in}

pub written-placeless : (s : Shape) (most : ℕ) (o : Order) → UpTo 0 (written_of s most o)
unfolding written_of
written-placeless s most o =
    up-to-if _ (unfit_of s o.fixed o.first o.second o.third o.run) (λ _. up-to-refused _ 10 0 (omega arith))
    (λ _. up-to-if _ (is_run_lem o.run)
    (λ _. up-to-if _ (exceeds (marks s.opt (contents_in s o) o.run)) (λ _. up-to-refused _ 12 0 (omega arith))
    (λ _. up-to-if _ (ltb most (length (order_octets s o))) (λ _. up-to-refused _ 2 0 (omega arith)) (λ _. up-to-accepted _ _)))
    (λ _. up-to-refused _ 11 0 (omega arith)))
