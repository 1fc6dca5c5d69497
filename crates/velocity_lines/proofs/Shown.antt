-- What codes stand for is shown as the codes themselves.
use Rattle.std.proofs.Common.{◌≡◌, ℕ, ◌+◌, ◌*◌, ◌<◌, ◌≤◌, true, false, T, pos, refl, le_trans, mul-lt-mul_of_pos_right, arith, lit≤, le→leb, lt→ltb, ltb-true, le-ltb, lt-ltb}
use lib.Ieee.{Float, nan, inf, fin, binary64, up, down, lt, round, of_int, in_float, to_unsigned}
use lib.Ieee.Exact.{HasValue}
use lib.Ieee.Back.{round_whole, unsigned_back}
use lib.Ieee.Fits.{down_pos}
use Rattle.velocity.specs.declared.Mark.{Mark}
use Rattle.velocity.specs.declared.Codes.TheVariants.{Horizontal, WithVertical}
use Rattle.velocity.specs.Velocity.{whole_of, known_of}
use Rattle.lines.specs.Lines.{refusal}
use Rattle.velocity_lines.specs.Velocities.{whole_in, codes_line, course_line, known_line, back_line}

-- a value below 65536 is below 2 ^ 64
pub below_64 : (x : Float) → lt x (fin false 1 (pos 16)) ≡ true → T (lt x (fin false 1 (pos 64)))
unfolding lt
below_64 nan p = let z : ◌≡◌ {A = ℕ} 0 1 = cc in absurd (omega arith)
below_64 (inf true) p = tt
below_64 (inf false) p = let z : ◌≡◌ {A = ℕ} 0 1 = cc in absurd (omega arith)
below_64 (fin false m e) p = lt→ltb (m * up e * 1) (18446744073709551616 * down e) (omega (arith, ltb-true (m * up e * 1) (65536 * down e) p))
below_64 (fin true m e) p = lt→ltb 0 (m * up e * 1 + 18446744073709551616 * down e) (omega (arith, down_pos e))

-- a whole number below 65536 is above -1 and below 65536
inside : (n : ℕ) → n < 65536 → (y : Float) → HasValue y false n 1 → (lt (fin true 1 (pos 0)) y ≡ true) × (lt y (fin false 1 (pos 16)) ≡ true)
unfolding lt
inside n h nan v = absurd v
inside n h (inf s) v = absurd v
inside n h (fin true m e) v = let q : ◌≡◌ {A = ℕ} 0 1 = cc v.0 in absurd (omega arith)
inside n h (fin false m e) v =
    let less : n * down e < 65536 * down e = mul-lt-mul_of_pos_right h (down_pos e) in
    (lt-ltb 0 (1 * down e + m * up e * 1) (omega (arith, down_pos e)), lt-ltb (m * up e * 1) (65536 * down e) (omega (arith, less, v.1)))

held : (n : ℕ) → n < 65536 → T (in_float binary64 (pos n))
unfolding in_float
held n h = let k : n ≤ 65536 = omega arith in le→leb n 9007199254740992 (le_trans k (lit≤ tt))

-- so N, read back, is shown as N
pub whole-shown : (n : ℕ) → n < 65536 → whole_in (whole_of n) ≡ n
unfolding whole_in of_int
whole-shown n h =
    let k : n ≤ 65536 = omega arith in
    let i = inside n h (round binary64 false n 1) (round_whole binary64 false n (le_trans k (lit≤ tt))) in
    let b = unsigned_back binary64 64 n (held n h) (omega arith) in
    rw (i.0, i.1) b.1

-- the line of codes that are read back is that of the codes, or the refusal
pub back-shown : (b s : ℕ) → b ≤ 359 → s < 65536 → back_line b s ≡ codes_line (Horizontal b s)
unfolding known_of known_line course_line codes_line
back-shown b s p q = let k : b < 65536 = omega arith in rw (le-ltb 359 b p, whole-shown b k, whole-shown s q) refl

pub back-long-shown : (b s u : ℕ) (mark : Mark) → b ≤ 359 → s < 65536 → u < 65536 → known_line (known_of (WithVertical b s u mark)) ≡ codes_line (WithVertical b s u mark)
unfolding known_of known_line course_line codes_line
back-long-shown b s u mark p q r = let k : b < 65536 = omega arith in rw (le-ltb 359 b p, whole-shown b k, whole-shown s q, whole-shown u r) refl

pub back-refused : (b s : ℕ) → 359 < b → back_line b s ≡ refusal 26
unfolding known_of known_line
back-refused b s p = rw (lt-ltb 359 b p) refl

-- each way in which a value is shown
module _ (x : Float) where
  pub whole-inside : lt (fin true 1 (pos 0)) x ≡ true → lt x (fin false 1 (pos 16)) ≡ true → to_unsigned 64 x ≡ whole_in x
  unfolding whole_in
  whole-inside p q = rw (p, q) refl

  pub whole-past : lt (fin true 1 (pos 0)) x ≡ true → lt x (fin false 1 (pos 16)) ≡ false → 0 ≡ whole_in x
  unfolding whole_in
  whole-past p q = rw (p, q) refl

  pub whole_before : lt (fin true 1 (pos 0)) x ≡ false → 0 ≡ whole_in x
  unfolding whole_in
  whole_before p = rw p refl
