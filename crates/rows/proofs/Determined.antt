-- Any two answers that a contract allows are equal.
use Prim.Native.Nat.{ℕ}
use mathlib.Core.Path.{◌≡◌, sym, ◌∙◌}
use mathlib.Core.Bool.{Bool}
use mathlib.Core.List.{List}
use Rattle.octets.specs.Octet.{octet}
use Rattle.rows.specs.declared.Act.{Act}
use Rattle.rows.specs.Rows.{is_legal, changed_row, local_row, circuit_state_lem}

pub legal-determined : (row : ℕ) (r s : Bool) → r ≡ is_legal row → s ≡ is_legal row → r ≡ s
legal-determined row r s p q = p ∙ sym q

pub changed-determined : (act : Act) (block row r s : ℕ) → r ≡ changed_row act block row → s ≡ changed_row act block row → r ≡ s
changed-determined act block row r s p q = p ∙ sym q

pub circuit-state-determined : (row r s : ℕ) → r ≡ circuit_state_lem row → s ≡ circuit_state_lem row → r ≡ s
circuit-state-determined row r s p q = p ∙ sym q

pub local-block-determined : (set : Bool) (row r s : ℕ) → r ≡ local_row set row → s ≡ local_row set row → r ≡ s
local-block-determined set row r s p q = p ∙ sym q

pub octet-at-determined : (list : List ℕ) (i r s : ℕ) → r ≡ octet list i → s ≡ octet list i → r ≡ s
octet-at-determined list i r s p q = p ∙ sym q
