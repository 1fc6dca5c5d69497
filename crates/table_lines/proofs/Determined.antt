-- Any two outcomes that a public function's contract allows are equal: the
-- tables, the buffer and the next place.
use Prim.Native.Nat.{ℕ}
use mathlib.Core.Path.{◌≡◌, ap}
use mathlib.Core.List.{List, []}
use Rattle.octets.proofs.Answer.{one_answer}
use Rattle.printing.specs.Sheet.{sheet}
use Rattle.requests.specs.declared.Request.{Request}
use Rattle.requests.specs.Along.{said_in}
use Rattle.table_lines.specs.Tables.{DeskTables, Left, left, left_by, table_turn_lem}

-- two outcomes that are one
pub left-determined : {l : Left} {T U : DeskTables} {a b : List ℕ} {r q : ℕ} → left T (sheet a r) ≡ l → left U (sheet b q) ≡ l → (T ≡ U) × (a ≡ b) × (r ≡ q)
left-determined p e = let s = one_answer p e in (ap (λ (x : Left). x.tables) s, ap (λ (x : Left). x.sheet.octets) s, ap (λ (x : Left). x.sheet.at) s)

-- of the requests of the tables
pub table-turn-determined : (request : Request) (T : DeskTables) (out : List ℕ) {U W : DeskTables} {a b : List ℕ} {r q : ℕ}
    → left U (sheet a r) ≡ left_by (table_turn_lem T request.which (said_in [] request.fields)) (sheet out 0)
    → left W (sheet b q) ≡ left_by (table_turn_lem T request.which (said_in [] request.fields)) (sheet out 0) → (U ≡ W) × (a ≡ b) × (r ≡ q)
table-turn-determined request T out = left-determined
