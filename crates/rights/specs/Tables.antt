-- The tables that the hub is lent, as one value: a further table is one field more.
use Rattle.std.specs.Prelude.{List, Bool, false, ℕ, eqb, length}
use Rattle.octets.specs.Choice.{when◌then◌else◌}

-- for each circuit one state octet, one ownership octet, and one octet that
-- names its helper, 0 for none
pub record Tables : Type 0 where
  pub states : List ℕ
  pub owners : List ℕ
  pub helpers : List ℕ

-- the three together
abbrev pub tables : List ℕ → List ℕ → List ℕ → Tables
tables states owners helpers = record { states = states; owners = owners; helpers = helpers }

-- each has exactly 4096 octets
abbrev pub sized : Tables → Bool
sized T =
    when eqb (length T.states) 4096 then (when eqb (length T.owners) 4096 then eqb (length T.helpers) 4096 else false)
    else false
