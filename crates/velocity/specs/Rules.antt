-- Clauses 6.19.1 and 6.19.2 and the request, as statements over exact
-- fractions: no order of steps, no rounding.
use Rattle.std.specs.Prelude.{◌≡◌, Bool, true, false, ◌⊎◌, ℕ, zero, suc, ◌+◌, ◌*◌, ◌^◌, ◌/◌, ◌%◌, ◌≤◌, ◌<◌, pos, eqb, leb, Float}
use Rattle.std.specs.Float.{nan, inf, fin}
use Rattle.std.specs.Float.Ieee.{lt}
use Rattle.octets.specs.Choice.{when◌then◌else◌}
use Rattle.velocity.specs.declared.Mark.{Mark}
use Rattle.velocity.specs.declared.Course.{Course}
use Rattle.velocity.specs.declared.Velocity.{Velocity}
use Rattle.velocity.specs.declared.Velocity.TheVariants.{Horizontal as Along, WithVertical as AlongAndUp}
use Rattle.velocity.specs.declared.Codes.{Codes}
use Rattle.velocity.specs.declared.Codes.TheVariants.{Horizontal, WithVertical}
use Rattle.velocity.specs.Velocity.{Measured, exactly, none, measured, Stands, alone, beside}

-- ---- the exact fraction that the bits name
-- sign, the exponent's field and the digits: an exponent of 0 is a subnormal, 2047 is an infinity
-- or no number, and the unit is 2 ^ -1074
abbrev pub fields_name : Bool → ℕ → ℕ → Measured
fields_name false zero t = exactly t (2 ^ 1074)
fields_name false (suc x) t =
    when eqb (suc x) 2047 then none else exactly ((2 ^ 52 + t) * 2 ^ x) (2 ^ 1074)
fields_name true zero zero = exactly 0 1
fields_name true zero (suc t) = none
fields_name true (suc x) t = none

-- R68. bit 64 is the sign, 63 to 53 the exponent, 52 to 1 the digits
abbrev pub bits_name : ℕ → Measured
bits_name b = fields_name (leb (2 ^ 63) b) (b % 2 ^ 63 / 2 ^ 52) (b % 2 ^ 52)

-- one fraction, or none on both sides
pub data Same : Measured → Measured → Type 0 where
  fractions : {a c p q : ℕ} → 0 < c → 0 < q → a * q ≡ p * c → Same (exactly a c) (exactly p q)
  neither : Same none none

-- ---- the codes of a fraction a / c
-- R69. N ≤ b < N + 1, b < 360
pub record Bearing (a c n : ℕ) : Type 0 where
  pub least : n * c ≤ a
  pub most : a < (n + 1) * c
  pub circle : a < 360 * c

-- R70. N - 1/2 ≤ h < N + 1/2 below the top, top - 1/2 ≤ h at it
abbrev pub Speed : ℕ → ℕ → ℕ → ℕ → Type 0
Speed top a c n =
    ((n < top) × (n * (2 * c) ≤ 2 * a + c) × (2 * a + c < (n + 1) * (2 * c)))
    ⊎ ((n ≡ top) × (top * (2 * c) ≤ 2 * a + c))

-- x is a / c
pub record Fraction (x : Float) (a c : ℕ) : Type 0 where
  pub is : measured x ≡ exactly a c
  pub under : 0 < c

-- x is a fraction whose bearing code is n
pub record BearingIs (x : Float) (n : ℕ) : Type 0 where
  pub over : ℕ
  pub by : ℕ
  pub value : Fraction x over by
  pub code : Bearing over by n

-- x is a fraction whose speed code is n
pub record SpeedIs (top : ℕ) (x : Float) (n : ℕ) : Type 0 where
  pub over : ℕ
  pub by : ℕ
  pub value : Fraction x over by
  pub code : Speed top over by n

-- R68. c is the codes of v
abbrev pub CodedAs : Velocity → Codes → Type 0
CodedAs (Along b s) (Horizontal n k) = BearingIs b n × SpeedIs 65535 s k
CodedAs (Along b s) (WithVertical n k j mark) = ⊥
CodedAs (AlongAndUp b s u mark) (Horizontal n k) = ⊥
CodedAs (AlongAndUp b s u mark) (WithVertical n k j mark') =
    BearingIs b n × SpeedIs 65535 s k × SpeedIs 255 u j × (mark ≡ mark')

-- ---- refusals
-- not a number, infinite, or below zero as the language compares (minus zero is not)
abbrev pub Wrong : Float → Type 0
Wrong x = (x ≡ nan) ⊎ ((s : Bool) × (x ≡ inf s)) ⊎ (lt x (fin false 0 (pos 0)) ≡ true)

-- from 360 up
pub record Past (x : Float) : Type 0 where
  pub over : ℕ
  pub by : ℕ
  pub value : Fraction x over by
  pub past : 360 * by ≤ over

-- R72. a value that is wrong, or a bearing from 360 up
abbrev pub RefusedFor : Velocity → Type 0
RefusedFor (Along b s) = (Wrong b ⊎ Past b) ⊎ Wrong s
RefusedFor (AlongAndUp b s u mark) = (Wrong b ⊎ Past b) ⊎ Wrong s ⊎ Wrong u

-- ---- reading back
-- the bearing among codes
abbrev pub bearing_code_lem : Codes → ℕ
bearing_code_lem (Horizontal b s) = b
bearing_code_lem (WithVertical b s u mark) = b

-- what u16 and u8 hold
abbrev pub Held : Codes → Type 0
Held (Horizontal b s) = s ≤ 65535
Held (WithVertical b s u mark) = (s ≤ 65535) × (u ≤ 255)

-- x is the whole number n
pub record Itself (x : Float) (n : ℕ) : Type 0 where
  pub by : ℕ
  pub value : Fraction x (n * by) by

-- R71. what is read is the codes themselves: bearing and speed in the record,
-- vertical speed and mark beside it
abbrev pub ReadBack : Codes → Stands → Type 0
ReadBack (Horizontal b s) (alone c) = Itself c.bearing b × Itself c.speed s
ReadBack (Horizontal b s) (beside c x mark) = ⊥
ReadBack (WithVertical b s u mark) (alone c) = ⊥
ReadBack (WithVertical b s u mark) (beside c x mark') =
    Itself c.bearing b × Itself c.speed s × Itself x u × (mark ≡ mark')

-- what is read, as a velocity
abbrev pub again : Stands → Velocity
again (alone c) = Along c.bearing c.speed
again (beside c x mark) = AlongAndUp c.bearing c.speed x mark

-- two values with no more than one half between them: a / c and p / q
pub record NearBy (x y : Float) : Type 0 where
  pub a : ℕ
  pub c : ℕ
  pub p : ℕ
  pub q : ℕ
  pub one : Fraction x a c
  pub other : Fraction y p q
  pub above : 2 * (p * c) ≤ 2 * (a * q) + c * q
  pub below : 2 * (a * q) ≤ 2 * (p * c) + c * q

-- R71. what is read lies within one half of what was measured, for a speed below the top
pub data Half : Velocity → Codes → Stands → Type 0 where
  flatly : {b s : Float} {n k : ℕ} {c : Course} → (k < 65535 → NearBy s c.speed)
      → Half (Along b s) (Horizontal n k) (alone c)
  fully :
      {b s u x : Float} {n k j : ℕ} {c : Course} {mark : Mark} → (k < 65535 → NearBy s c.speed)
      → (j < 255 → NearBy u x)
      → Half (AlongAndUp b s u mark) (WithVertical n k j mark) (beside c x mark)
