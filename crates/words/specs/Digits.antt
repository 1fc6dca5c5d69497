-- Digits.
use Rattle.std.specs.Prelude.{ℕ, ◌-◌, ltb, leb}
use Rattle.octets.specs.Choice.{when◌then◌else◌}

-- what a hexadecimal digit of either case stands for; 16 for an octet that is no digit
unfoldable pub value_of : ℕ → ℕ
value_of c =
    when ltb c 48 then 16
    else when leb c 57 then c - 48
    else when ltb c 65 then 16
    else when leb c 70 then c - 55
    else when ltb c 97 then 16
    else when leb c 102 then c - 87
    else 16
