-- What a turn leaves, piece by piece.
use Prim.Native.Nat.{ℕ}
use mathlib.Core.Path.{◌≡◌}
use mathlib.Core.List.{List}
use Rattle.printing.specs.Sheet.{Sheet}
use Rattle.table_lines.specs.Tables.{DeskTables, desk_tables, left}

-- the same tables and the same sheet
pub left-same : {T U : DeskTables} {x y : Sheet} → T ≡ U → x ≡ y → left T x ≡ left U y
left-same p q i = left (p i) (q i)

-- the same states, the same owners, the same helpers and the same totals
pub tables-same : {s t o p h k u v : List ℕ} → s ≡ t → o ≡ p → h ≡ k → u ≡ v → desk_tables s o h u ≡ desk_tables t p k v
tables-same p q r w i = desk_tables (p i) (q i) (r i) (w i)
