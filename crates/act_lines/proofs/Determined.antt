-- Any two outcomes that a public function's contract allows are equal: the
-- tables, the buffer and the next place.
use Prim.Native.Nat.{ℕ}
use mathlib.Core.Path.{◌≡◌}
use mathlib.Core.List.{List}
use Rattle.printing.specs.Sheet.{sheet}
use Rattle.requests.specs.declared.Request.{Request}
use Rattle.requests.specs.Along.{said_in}
use Rattle.table_lines.specs.Tables.{DeskTables, left, left_by}
use Rattle.table_lines.proofs.Determined.{left-determined}
use Rattle.act_lines.specs.Acts.{act_turn_lem}

-- of the hub's request
pub act-turn-determined : (request : Request) (xs : List ℕ) (T : DeskTables) (out : List ℕ) {U W : DeskTables} {a b : List ℕ} {r q : ℕ}
    → left U (sheet a r) ≡ left_by (act_turn_lem T (said_in xs request.fields)) (sheet out 0)
    → left W (sheet b q) ≡ left_by (act_turn_lem T (said_in xs request.fields)) (sheet out 0) → (U ≡ W) × (a ≡ b) × (r ≡ q)
act-turn-determined request xs T out = left-determined
