-- What is told of a legal row is what 003, 3.12, says.
use Prim.Native.Nat.{ℕ, ◌+◌, ◌-◌, ◌*◌, ◌/◌, ◌%◌, ◌≤◌}
use mathlib.Core.Path.{◌≡◌, refl, ◌∙◌, ap}
use mathlib.Core.Bool.{Bool, true, false}
use native.Mathlib.Omega.{arith}
use lib.Dec.{eqb}
use borrow.Author.Tests.{eqb-true, eqb-false}
use Rattle.octets.specs.Choice.{when◌then◌else◌}
use Rattle.rows.specs.Rows.{busy, maintenance, hardware, local, Legal, circuit_state_lem}
use Rattle.rows.specs.States.{bits_ba, bits_dc, bits_fe, SaysOfRow}
use Rattle.rows.proofs.Legality.{by-legal}

-- a legal row that is blocked for hardware is not busy
idle-where-broken : (row : ℕ) → Legal row → hardware row ≡ 1 → busy row ≡ 0
idle-where-broken row h e = go (eqb (hardware row) 1) refl (by-legal (λ r. when eqb (hardware r) 1 then eqb (busy r) 0 else true) refl row h)
  where
    go : (b : Bool) → eqb (hardware row) 1 ≡ b → (when b then eqb (busy row) 0 else true) ≡ true → busy row ≡ 0
    go true t w = eqb-true _ _ w
    go false t w = absurd (eqb-false _ _ t e)

-- the octet by the four bits of the row
module _ (b m h l : ℕ) (b1 : b ≤ 1) (m1 : m ≤ 1) (h1 : h ≤ 1) (l1 : l ≤ 1) where
  low-two : (12 - 8 * b + 2 * m + 32 * h + l) % 4 ≡ 2 * m + l
  low-two = let q : (12 - 8 * b + 2 * m + 32 * h + l) / 4 ≡ 3 - 2 * b + 8 * h = omega arith in omega arith

  next-two : (12 - 8 * b + 2 * m + 32 * h + l) / 4 % 4 ≡ 3 - 2 * b
  next-two =
      let q : (12 - 8 * b + 2 * m + 32 * h + l) / 4 ≡ 3 - 2 * b + 8 * h = omega arith in
      ap (λ (n : ℕ). n % 4) q ∙ omega arith

  third-two : (12 - 8 * b + 2 * m + 32 * h + l) / 16 % 4 ≡ 2 * h
  third-two =
      let q : (12 - 8 * b + 2 * m + 32 * h + l) / 16 ≡ 2 * h = omega arith in
      ap (λ (n : ℕ). n % 4) q ∙ omega arith

-- the circuit state octet of each legal row says what the row says
pub circuit-state-says : (row : ℕ) → Legal row → SaysOfRow row (circuit_state_lem row)
circuit-state-says row k = record {
  incoming = λ b. omega (arith, dc, b);
  idle = λ b. omega (arith, dc, b);
  active = λ m l. omega (arith, ba, m, l);
  ours = λ m l. omega (arith, ba, m, l);
  blocked = λ m l. omega (arith, ba, m, l);
  both = λ m l. omega (arith, ba, m, l);
  sound = λ h. omega (arith, fe, h);
  broken = λ h. omega (arith, fe, h);
  spare = omega arith;
  note = λ n. go (eqb (hardware row) 1) refl n;
}
  where
    ba : bits_ba (circuit_state_lem row) ≡ 2 * maintenance row + local row
    ba = low-two (busy row) (maintenance row) (hardware row) (local row) (omega arith) (omega arith) (omega arith) (omega arith)

    dc : bits_dc (circuit_state_lem row) ≡ 3 - 2 * busy row
    dc = next-two (busy row) (maintenance row) (hardware row) (local row) (omega arith) (omega arith) (omega arith) (omega arith)

    fe : bits_fe (circuit_state_lem row) ≡ 2 * hardware row
    fe = third-two (busy row) (maintenance row) (hardware row) (local row) (omega arith) (omega arith) (omega arith) (omega arith)

    go : (b : Bool) → eqb (hardware row) 1 ≡ b → (bits_fe (circuit_state_lem row) ≡ 0 → ⊥) → bits_dc (circuit_state_lem row) ≡ 3
    go true t n = dc ∙ (let z = idle-where-broken row k (eqb-true _ _ t) in rw z refl)
    go false t n = absurd (n (fe ∙ (let z = eqb-false (hardware row) 1 t in omega (arith, z))))
