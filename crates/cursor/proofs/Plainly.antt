-- The covered functions from what their calls ensure, over plain variables.
use Prim.Native.Nat.{ℕ, ◌≤◌, ◌<◌}
use mathlib.Core.Path.{◌≡◌, sym, ◌∙◌, ap}
use mathlib.Core.List.{List}
use borrow.Author.Tests.{lt-ltb, le-ltb}
use lib.ListN.{length}
use Rattle.std.specs.Prelude.{Option, Result, Ok, Err}
use Rattle.octets.specs.Answer.{Answer}
use Rattle.octets.specs.Told.{told}
use Rattle.octets.specs.declared.Refusal.{Refusal}
use Rattle.parts.specs.declared.Parts.{Parts}
use Rattle.layout.specs.Container.{kind_at, parts_of}
use Rattle.layout.specs.declared.Shape.{Shape}
use Rattle.family.specs.Family.{Family, read_in}
use Rattle.family.specs.Steps.{start_by, start_in}
use Rattle.cursor.specs.Start.{refusal_by}

module _ (m : List ℕ) (a : Answer Parts) {x : Result Parts Refusal} (p : told x ≡ a) where
  pub at-broken : (why : Refusal) → x ≡ Err why → length m ≡ start_by m a
  at-broken why e = ap (start_by m) (sym (ap told e) ∙ p)

  pub at-run : (q : Parts) → x ≡ Ok q → q.optional.from < q.optional.to → q.optional.from ≡ start_by m a
  at-run q e h = rw (← (sym (ap told e) ∙ p)) (simp (lt-ltb _ _ h))

  pub at_none : (q : Parts) → x ≡ Ok q → q.optional.to ≤ q.optional.from → length m ≡ start_by m a
  at_none q e h = rw (← (sym (ap told e) ∙ p)) (simp (le-ltb _ _ h))

module _ (F : Family) (m : List ℕ) (k : ℕ) (row : Option Shape) (kq : k ≡ kind_at m F.width) (rq : row ≡ F.row k) where
  row_here : row ≡ F.row (kind_at m F.width)
  row_here = rq ∙ ap F.row kq

  -- with the row of the message's type, the start is the family's
  pub start-here : start_by m (parts_of m F.width F.most row) ≡ start_in F m
  unfolding start_in
  start-here = ap (λ (r : Option Shape). start_by m (parts_of m F.width F.most r)) row_here

  pub refusal-here : refusal_by (parts_of m F.width F.most row) ≡ refusal_by (read_in F m)
  refusal-here = ap (λ (r : Option Shape). refusal_by (parts_of m F.width F.most r)) row_here
