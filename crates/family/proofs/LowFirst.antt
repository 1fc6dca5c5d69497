-- A code comes back, over any width.
use Prim.Native.Nat.{ℕ, zero, suc, ◌+◌, ◌*◌, ◌/◌, ◌%◌, ◌^◌, ◌≤◌, ◌<◌}
use mathlib.Core.Path.{◌≡◌, refl, sym, ◌∙◌, ap, subst}
use mathlib.Core.List.{List, [], ◌∷◌}
use native.Mathlib.Omega.{arith}
use native.Mathlib.Nat.{div-add-mod', div-lt_iff_lt-mul, mod-lt, mod-eq_of_lt, add-mul-mod_self_left, add-mul-div_left, div-eq_of_lt}
use lib.ListN.{length, take}
use lib.Pow.{pow-add}
use Rattle.octets.specs.Octet.{octets, AllOctets}
use Rattle.octets.proofs.Octet.{length-octets}
use Rattle.writing.proofs.Octets.{all_nil, all_cons}
use Rattle.family.specs.LowFirst.{code_in, code_octets}

-- a number that n octets can hold is the code of its n octets
pub code-back : (n c : ℕ) → c < 256 ^ n → code_in (code_octets n c) ≡ c
code-back zero c h = let k : c < 1 = h in omega arith
code-back (suc n) c h =
    let p : c < 256 ^ n * 256 = subst (λ (z : ℕ). c < z) (let e : suc n ≡ n + 1 = omega arith in ap (λ (z : ℕ). 256 ^ z) e ∙ pow-add 256 n 1) h in
    let q : c / 256 < 256 ^ n = (div-lt_iff_lt-mul {k = 256} {x = c} {y = 256 ^ n} (omega arith)).1 p in
    let i = code-back n (c / 256) q in
    let d = div-add-mod' c 256 in
    rw i (omega arith)

-- octets are those of their code
pub octets-back : (l : List ℕ) → AllOctets l → code_octets (length l) (code_in l) ≡ l
octets-back [] o = refl
octets-back (a ∷ l) o =
    let h : (a + 256 * code_in l) % 256 ≡ a = add-mul-mod_self_left a 256 (code_in l) ∙ mod-eq_of_lt (o 0) in
    let k : (a + 256 * code_in l) / 256 ≡ code_in l = add-mul-div_left a (code_in l) (omega arith) ∙ (let z = div-eq_of_lt (o 0) in omega arith) in
    rw (h, k, octets-back l (λ i. o (suc i))) refl

-- there are as many as were asked for, and each is one
pub length-code : (n c : ℕ) → length (code_octets n c) ≡ n
length-code zero c = refl
length-code (suc n) c = ap suc (length-code n (c / 256))

pub code-octets : (n c : ℕ) → AllOctets (code_octets n c)
code-octets zero c = all_nil
code-octets (suc n) c = all_cons (c % 256) (code_octets n (c / 256)) (mod-lt _ (omega arith)) (code-octets n (c / 256))

-- so are the first of some octets
pub take-octets : (n : ℕ) (l : List ℕ) → AllOctets l → AllOctets (take n l)
take-octets zero l o i = omega arith
take-octets (suc n) [] o i = omega arith
take-octets (suc n) (x ∷ xs) o zero = o 0
take-octets (suc n) (x ∷ xs) o (suc i) = take-octets n xs (λ j. o (suc j)) i

-- the header of a message is its code, written again
pub header-back : (n : ℕ) (m : List ℕ) → AllOctets m → n ≤ length m → code_octets n (code_in (octets m 0 n)) ≡ octets m 0 n
header-back n m o h =
    subst (λ (k : ℕ). code_octets k (code_in (octets m 0 n)) ≡ octets m 0 n) (length-octets m 0 n (omega arith)) (octets-back (octets m 0 n) (take-octets n m o))

-- and n octets hold a number below 256 to the n-th
pub code_below : (l : List ℕ) → AllOctets l → code_in l < 256 ^ length l
code_below [] o = omega arith
code_below (a ∷ l) o =
    let i = code_below l (λ j. o (suc j)) in
    let e : 256 ^ suc (length l) ≡ 256 ^ length l * 256 = (let e : suc (length l) ≡ length l + 1 = omega arith in ap (λ (z : ℕ). 256 ^ z) e ∙ pow-add 256 (length l) 1) in
    subst (λ (z : ℕ). a + 256 * code_in l < z) (sym e) (omega (arith, o 0))
