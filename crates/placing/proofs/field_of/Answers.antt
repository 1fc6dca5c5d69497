use Prim.Native.Nat.{ℕ}
use mathlib.Core.Path.{◌≡◌, refl}
use mathlib.Core.Bool.{Bool, true, false}
use native.Mathlib.Omega.{arith}
use borrow.Author.Tests.{ne_eqb}
use lib.Dec.{eqb}
use Rattle.octets.specs.Choice.{when◌then◌else◌}
use Rattle.fields.specs.Kinds.{a_number, a_last, an_octet, some_octets, a_word}
use Rattle.fields.specs.Letters.{most_of, kind_of, circuit_most, octets_most, plan_most}
use Rattle.fields.specs.Placed.{field, placed}
use Rattle.placing.proofs.field_of.Goals as goal

-- each kind but octets, a plan's too, and a typed word is a number
placed-number : (l v next : ℕ) → (l ≡ 115 → ⊥) → (l ≡ 113 → ⊥) → (l ≡ 119 → ⊥) → field v next 0 ≡ placed (kind_of l) v next
unfolding kind_of
placed-number l v next h p k = rw (ne_eqb l 115 h, ne_eqb l 113 p, ne_eqb l 119 k) (go (eqb l 111) (eqb l 108))
  where
    go : (s t : Bool) → field v next 0 ≡ placed (when s then an_octet else when false then some_octets octets_most else when false then some_octets plan_most else when false then a_word else when t then a_last circuit_most else a_number (most_of l)) v next
    go true t = refl
    go false true = refl
    go false false = refl

pub returns-then-letter-eq115 : goal.returns-then-letter-eq115
unfolding kind_of
returns-then-letter-eq115 c = rw (c.if-letter-eq115.true, c.stored.ensures) (refl, omega arith)

pub returns-then-letter-eq113 : goal.returns-then-letter-eq113
unfolding kind_of
returns-then-letter-eq113 c = rw (c.if-letter-eq113.true, c.stored-then-letter-eq113.ensures) (refl, omega arith)

pub returns-then-letter-eq119 : goal.returns-then-letter-eq119
unfolding kind_of
returns-then-letter-eq119 c = rw (c.if-letter-eq119.true, c.stored-then-letter-eq119.ensures) (refl, omega arith)

pub returns : goal.returns
returns c = (placed-number _ _ _ c.if-letter-eq115.false c.if-letter-eq113.false c.if-letter-eq119.false, omega arith)
