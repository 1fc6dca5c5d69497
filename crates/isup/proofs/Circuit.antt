-- The circuit number is a code of two octets, of which twelve bits are used: it comes back.
use Prim.Native.Nat.{ℕ, ◌+◌, ◌*◌, ◌/◌, ◌%◌, ◌≤◌, ◌<◌}
use mathlib.Core.Path.{◌≡◌, sym, ◌∙◌, ap, subst}
use mathlib.Core.List.{List, [], ◌∷◌}
use native.Mathlib.Omega.{arith}
use native.Mathlib.Nat.{div-lt_iff_lt-mul, mod-lt, mod-eq_of_lt}
use lib.ListN.{length}
use Rattle.octets.specs.Octet.{octet, octets, AllOctets}
use Rattle.writing.proofs.Octets.{all_nil, all_cons}
use Rattle.family.specs.LowFirst.{code_in, code_octets}
use Rattle.family.proofs.LowFirst.{code-back, octets-back, code-octets}
use Rattle.isup.specs.Read.{circuit_of_lem}
use Rattle.isup.specs.Write.{head_of}

pub high_small : (c : ℕ) → c ≤ 4095 → c / 256 < 16
high_small c h = (div-lt_iff_lt-mul {k = 256} {x = c} {y = 16} (omega arith)).1 (omega arith)

-- the two octets that are written are those of the code
pub head-code : (c : ℕ) → c ≤ 4095 → head_of c ≡ code_octets 2 c
head-code c h = let q : c / 256 % 256 ≡ c / 256 = mod-eq_of_lt (omega (arith, high_small c h)) in λ i. c % 256 ∷ sym q i ∷ []

pub head-octets : (c : ℕ) → c ≤ 4095 → AllOctets (head_of c)
head-octets c h = subst AllOctets (sym (head-code c h)) (code-octets 2 c)

-- the circuit number is the code of octets 0 and 1, the high half of octet 1 apart
abbrev pub twelve : List ℕ → List ℕ
twelve m = octet m 0 ∷ octet m 1 % 16 ∷ []

circuit-code : (m : List ℕ) → circuit_of_lem m ≡ code_in (twelve m)
circuit-code m = omega arith

pub circuit-low : (m : List ℕ) → AllOctets m → circuit_of_lem m ≤ 4095
circuit-low m o = let h : octet m 1 % 16 < 16 = mod-lt _ (omega arith) in omega (arith, o 0)

-- read and written again, it has the octets that it had, the spare bits 0
pub head-low : (m : List ℕ) → AllOctets m → head_of (circuit_of_lem m) ≡ twelve m
head-low m o =
    let h : octet m 1 % 16 < 16 = mod-lt _ (omega arith) in
    head-code (circuit_of_lem m) (circuit-low m o) ∙ ap (code_octets 2) (circuit-code m)
    ∙ octets-back (twelve m) (all_cons (octet m 0) (octet m 1 % 16 ∷ []) (o 0) (all_cons (octet m 1 % 16) [] (omega arith) all_nil))

-- so the header of a message whose spare bits are 0 comes back
pub head-back : (m : List ℕ) → AllOctets m → octet m 1 < 16 → 2 ≤ length m → head_of (circuit_of_lem m) ≡ octets m 0 2
head-back m o s l = head-low m o ∙ two m s l
  where
    two : (m : List ℕ) → octet m 1 < 16 → 2 ≤ length m → twelve m ≡ octets m 0 2
    two [] s l = absurd (omega arith)
    two (a ∷ []) s l = absurd (omega arith)
    two (a ∷ b ∷ r) s l = let e : b % 16 ≡ b = mod-eq_of_lt s in λ i. a ∷ e i ∷ []

-- and a circuit number that is written comes back
pub circuit-back : (c : ℕ) → c ≤ 4095 → c % 256 + 256 * (c / 256 % 16) ≡ c
circuit-back c h =
    let q : c / 256 % 16 ≡ c / 256 = mod-eq_of_lt (high_small c h) in
    let e : code_in (head_of c) ≡ c = ap code_in (head-code c h) ∙ code-back 2 c (omega arith) in
    rw q (omega arith)
