-- What field i of a request says.
use Prim.Native.Nat.{ℕ}
use mathlib.Core.Path.{◌≡◌, ap}
use mathlib.Core.List.{List}
use lib.ListN.{get_or, get_or-map}
use Rattle.octets.specs.Octet.{octets}
use Rattle.fields.specs.declared.Field.{Field}
use Rattle.fields.specs.Kinds.{FieldSays}
use Rattle.fields.specs.Placed.{no_field}
use Rattle.requests.specs.Words.{number_at, octets_at}
use Rattle.requests.specs.Along.{said_at, said_in}

module _ (s : List ℕ) (fs : List Field) (i : ℕ) where
  -- its number
  pub number-at : number_at (said_in s fs) i ≡ (get_or fs i no_field).value
  number-at = ap (λ (g : FieldSays). g.value) (get_or-map (said_at s) fs i no_field)

  -- its octets
  pub octets-at : octets_at (said_in s fs) i ≡ octets s (get_or fs i no_field).from (get_or fs i no_field).count
  octets-at = ap (λ (g : FieldSays). g.octets) (get_or-map (said_at s) fs i no_field)
