-- The tables keep their lengths.
use Prim.Native.Nat.{ℕ}
use mathlib.Core.Path.{◌≡◌, refl, ◌∙◌}
use mathlib.Core.Bool.{Bool, true, false}
use mathlib.Core.List.{List}
use lib.ListN.{length, replicate, length-set}
use Rattle.rights.specs.Tables.{tables}
use Rattle.hub.proofs.Called.{states-length}
use Rattle.day.specs.Hub.{Rows, heard_of, unhelped}
use Rattle.day.specs.Day.{Day, counted_if, heard_in_lem, sized_by, day_sized}

-- ---- the tables keep their lengths
pub record Kept (t u : Day) : Type 0 where
  pub owners : length u.owners ≡ length t.owners
  pub rows : length u.rows ≡ length t.rows
  pub accepted : length u.accepted ≡ length t.accepted
  pub refused : length u.refused ≡ length t.refused

pub kept-all : (t : Day) → Kept t t
kept-all t = record { owners = refl; rows = refl; accepted = refl; refused = refl }

heard-length : (owners : List ℕ) (rows : Rows) (sender : ℕ) (m : List ℕ) → length (heard_of owners rows sender m).rows ≡ length rows
unfolding heard_of
heard-length owners rows sender m = states-length (tables rows owners (unhelped owners)) sender m (replicate 268 0)

pub heard-kept : (sender : ℕ) (m : List ℕ) (t : Day) → Kept t (heard_in_lem sender m t)
unfolding heard_in_lem
heard-kept sender m t = go (heard_of t.owners t.rows sender m).taken
  where
    go : (b : Bool) → Kept t (counted_if b sender (heard_of t.owners t.rows sender m) t)
    go true = record { owners = refl; rows = heard-length t.owners t.rows sender m; accepted = length-set t.accepted sender _; refused = refl }
    go false = record { owners = refl; rows = heard-length t.owners t.rows sender m; accepted = refl; refused = length-set t.refused sender _ }

pub kept-sized : (t u : Day) → Kept t u → day_sized t ≡ true → day_sized u ≡ true
kept-sized t u k e = (λ i. sized_by (k.owners i) (k.rows i) (k.accepted i) (k.refused i)) ∙ e
