-- What each request of the tables leaves is what the definition says of its word.
use Prim.Native.Nat.{ℕ}
use mathlib.Core.Path.{◌≡◌, refl, ◌∙◌, ap}
use mathlib.Core.List.{List}
use borrow.Author.Tests.{eq-eqb, ne_eqb}
use Rattle.octets.specs.Applied.{spread}
use Rattle.totals.specs.Blocks.{recounted}
use Rattle.words.specs.Said.{said}
use Rattle.printing.specs.Sheet.{Sheet, pour}
use Rattle.fields.specs.Kinds.{FieldSays}
use Rattle.forms.specs.Rows.{OWN, HELPER, SET}
use Rattle.requests.specs.Words.{number_at, octet_at_lem}
use Rattle.table_lines.specs.Tables.{desk_tables, left, left_by, rows_line, table_turn_lem}
use Rattle.table_lines.proofs.Leaving.{left-same, tables-same}

module _ (states owners helpers totals : List ℕ) {which : ℕ} (gs : List FieldSays) (s : Sheet) {t : Sheet} where
  -- own changes the owners
  pub own-leaves : {o : List ℕ} → which ≡ OWN → (o ≡ spread owners (number_at gs 0) (number_at gs 1) (octet_at_lem gs 2)) × (t ≡ pour s (said "ok"))
      → left (desk_tables states o helpers totals) t ≡ left_by (table_turn_lem (desk_tables states owners helpers totals) which gs) s
  unfolding table_turn_lem
  own-leaves p e = rw (eq-eqb _ _ p) (left-same (tables-same refl e.0 refl refl) e.1)

  -- helper changes the helpers
  pub helper-leaves : {h : List ℕ} → (which ≡ OWN → ⊥) → which ≡ HELPER → (h ≡ spread helpers (number_at gs 0) (number_at gs 1) (octet_at_lem gs 2)) × (t ≡ pour s (said "ok"))
      → left (desk_tables states owners h totals) t ≡ left_by (table_turn_lem (desk_tables states owners helpers totals) which gs) s
  unfolding table_turn_lem
  helper-leaves n p e = rw (ne_eqb _ _ n, eq-eqb _ _ p) (left-same (tables-same refl refl e.0 refl) e.1)

  -- set changes the rows, and makes the totals of their blocks right
  pub set-leaves : {r u : List ℕ} → (which ≡ OWN → ⊥) → (which ≡ HELPER → ⊥) → which ≡ SET
      → (r ≡ spread states (number_at gs 0) (number_at gs 1) (octet_at_lem gs 2)) × (t ≡ pour s (said "ok")) → u ≡ recounted r (number_at gs 0) (number_at gs 1) totals
      → left (desk_tables r owners helpers u) t ≡ left_by (table_turn_lem (desk_tables states owners helpers totals) which gs) s
  unfolding table_turn_lem
  set-leaves n m p e q =
      rw (ne_eqb _ _ n, ne_eqb _ _ m, eq-eqb _ _ p) (left-same (tables-same e.0 refl refl (q ∙ ap (λ (x : List ℕ). recounted x (number_at gs 0) (number_at gs 1) totals) e.0)) e.1)

  -- rows shows them
  pub rows-leave : (which ≡ OWN → ⊥) → (which ≡ HELPER → ⊥) → (which ≡ SET → ⊥) → t ≡ pour s (rows_line states (number_at gs 0) (number_at gs 1))
      → left (desk_tables states owners helpers totals) t ≡ left_by (table_turn_lem (desk_tables states owners helpers totals) which gs) s
  unfolding table_turn_lem
  rows-leave n m k e = rw (ne_eqb _ _ n, ne_eqb _ _ m, ne_eqb _ _ k) (left-same refl e)
