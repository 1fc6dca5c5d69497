-- The circuit state octet, in the words of 003, 3.12: its bits are named A to H, from the low end.
use Rattle.std.specs.Prelude.{ℕ, ◌/◌, ◌%◌, ◌≡◌}
use Rattle.rows.specs.Rows.{busy, maintenance, hardware, local}

-- bits B A: maintenance blocking state
abbrev pub bits_ba : ℕ → ℕ
bits_ba octet = octet % 4

-- bits D C: call processing state
abbrev pub bits_dc : ℕ → ℕ
bits_dc octet = octet / 4 % 4

-- bits F E: hardware blocking state
abbrev pub bits_fe : ℕ → ℕ
bits_fe octet = octet / 16 % 4

-- bits H G: spare
abbrev pub bits_hg : ℕ → ℕ
bits_hg octet = octet / 64

-- R44. what a state octet says of a row
pub record SaysOfRow (row octet : ℕ) : Type 0 where
  -- 0 1: circuit incoming busy (all our busy circuits are incoming)
  pub incoming : busy row ≡ 1 → bits_dc octet ≡ 1
  -- 1 1: idle
  pub idle : busy row ≡ 0 → bits_dc octet ≡ 3
  -- 0 0: no blocking
  pub active : maintenance row ≡ 0 → local row ≡ 0 → bits_ba octet ≡ 0
  -- 0 1: locally blocked
  pub ours : maintenance row ≡ 0 → local row ≡ 1 → bits_ba octet ≡ 1
  -- 1 0: remotely blocked
  pub blocked : maintenance row ≡ 1 → local row ≡ 0 → bits_ba octet ≡ 2
  -- 1 1: locally and remotely blocked
  pub both : maintenance row ≡ 1 → local row ≡ 1 → bits_ba octet ≡ 3
  -- 0 0: no blocking
  pub sound : hardware row ≡ 0 → bits_fe octet ≡ 0
  -- 1 0: remotely blocked
  pub broken : hardware row ≡ 1 → bits_fe octet ≡ 2
  -- the spare bits are 0
  pub spare : bits_hg octet ≡ 0
  -- 'If bits F E are not coded 0 0, bits D C must be coded 1 1'
  pub note : (bits_fe octet ≡ 0 → ⊥) → bits_dc octet ≡ 3
