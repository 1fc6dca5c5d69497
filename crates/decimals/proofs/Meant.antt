-- A word stands for a value exactly where it means one.
use Rattle.std.specs.Prelude.{Option, Some, None}
use mathlib.Core.Path.{◌≡◌, refl, sym, ap, ◌∙◌, subst}
use mathlib.Core.Bool.{false}
use mathlib.Core.List.{List, [], ◌∷◌}
use mathlib.Core.Logic.{◌↔◌, ⊎_elim}
use Prim.Native.Nat.{ℕ, suc, ◌+◌, ◌*◌}
use native.Mathlib.Omega.{arith}
use borrow.Author.Tests.{le-ltb, eq-eqb, ne_eqb, ltb-false, eqb-true}
use lib.Dec.{ltb, eqb}
use lib.ListN.{length, get_or, drop}
use lib.Ieee.{Float, binary64, round, neg, of_bits}
use Rattle.octets.specs.Choice.{when◌then◌else◌}
use Rattle.octets.proofs.Answer.{one_answer}
use Rattle.octets.proofs.Choice.{chosen}
use Rattle.words.specs.Digits.{value_of}
use Rattle.decimals.specs.Decimals.{whole_from, nearest_to, typed_of, hex_from, pattern_of, below_zero, real_of_lem}
use Rattle.decimals.specs.Rules.{Typed, AllHexadecimal, hex_value, Means, decimal, below, pattern}
use Rattle.decimals.proofs.Exactly.{decimal-exactly, real-nearest, real-below-zero}

no_value : {x : Float} → None ≡ Some x → ⊥
no_value e = cc

same-value : {x y : Float} → Some x ≡ Some y → x ≡ y
same-value e = cc

no_bits : {n : ℕ} → None ≡ Some n → ⊥
no_bits e = cc

same_bits : {n m : ℕ} → Some n ≡ Some m → n ≡ m
same_bits e = cc

-- what is taken for a decimal is one
typed-only : (l : List ℕ) (x : Float) → typed_of l ≡ Some x → (n : ℕ) × (d : ℕ) × Typed l n d × (round binary64 false n d ≡ x)
unfolding typed_of
typed-only l x e = go (whole_from 0 0 l) refl e
  where
    go : (w : Option (ℕ × ℕ)) → whole_from 0 0 l ≡ w → nearest_to w ≡ Some x → (n : ℕ) × (d : ℕ) × Typed l n d × (round binary64 false n d ≡ x)
    go (Some (n, d)) p q = (n, d, (decimal-exactly l n d).0 p, same-value q)
    go None p q = absurd (no_value q)

-- hexadecimal digits are taken, and nothing else
hex-is : (v : ℕ) (h : List ℕ) → AllHexadecimal h → hex_from v h ≡ Some (hex_value v h)
unfolding hex_from hex_value
hex-is v [] a = refl
hex-is v (c ∷ cs) a = rw (le-ltb _ _ a.0) (hex-is (16 * v + value_of c) cs a.1)

hex-only : (v : ℕ) (h : List ℕ) (n : ℕ) → hex_from v h ≡ Some n → AllHexadecimal h × (hex_value v h ≡ n)
unfolding hex_from hex_value
hex-only v [] n e = (tt, same_bits e)
hex-only v (c ∷ cs) n e =
    ⊎_elim (λ f. absurd (no_bits f.1))
    (λ f. let r = hex-only (16 * v + value_of c) cs n f.1 in ((ltb-false 15 (value_of c) f.0, r.0), r.1))
    (chosen (ltb 15 (value_of c)) e)

pattern-only : (h : List ℕ) (x : Float) → pattern_of (hex_from 0 h) ≡ Some x → AllHexadecimal h × (of_bits binary64 (hex_value 0 h) ≡ x)
pattern-only h x e = go (hex_from 0 h) refl e
  where
    go : (p : Option ℕ) → hex_from 0 h ≡ p → pattern_of p ≡ Some x → AllHexadecimal h × (of_bits binary64 (hex_value 0 h) ≡ x)
    go (Some n) q f = let r = hex-only 0 h n q in (r.0, ap (of_bits binary64) r.1 ∙ same-value f)
    go None q f = absurd (no_value f)

decimal-means : (l : List ℕ) (x : Float) → typed_of l ≡ Some x → Means l x
decimal-means l x e = let t = typed-only l x e in subst (Means l) t.3 (decimal l t.0 t.1 t.2)

below-means : (l : List ℕ) (x : Float) → below_zero (typed_of l) ≡ Some x → Means (45 ∷ l) x
below-means l x e = go (typed_of l) refl e
  where
    go : (r : Option Float) → typed_of l ≡ r → below_zero r ≡ Some x → Means (45 ∷ l) x
    go (Some y) p q = let t = typed-only l y p in subst (Means (45 ∷ l)) (ap neg t.3 ∙ same-value q) (below l t.0 t.1 t.2)
    go None p q = absurd (no_value q)

-- a word by its first two octets
real-means : (l : List ℕ) (x : Float) → real_of_lem l ≡ Some x → Means l x
unfolding real_of_lem
real-means [] x e = absurd (no_value e)
real-means (a ∷ l) x e =
    ⊎_elim (λ z. absurd (no_value z.1))
    (λ z. ⊎_elim (λ f. subst (λ (k : ℕ). Means (k ∷ l) x) (sym (eqb-true a 45 f.0)) (below-means l x f.1))
    (λ f. ⊎_elim (λ g. bits l (eqb-true (suc (length l)) 18 g.0) g.1) (λ g. decimal-means (a ∷ l) x g.1) (chosen (eqb (suc (length l)) 18) f.1))
    (chosen (eqb a 45) z.1))
    (chosen (eqb (suc (length l)) 0) e)
  where
    bits : (l : List ℕ) → suc (length l) ≡ 18
        → (when eqb (get_or (a ∷ l) 1 0) 120 then (when eqb a 48 then pattern_of (hex_from 0 (drop 2 (a ∷ l))) else typed_of (a ∷ l)) else typed_of (a ∷ l)) ≡ Some x → Means (a ∷ l) x
    bits [] n q = absurd (omega arith)
    bits (b ∷ h) n q =
        ⊎_elim
        (λ f. ⊎_elim
        (λ g.
        let p = pattern-only h x g.1 in
        subst (λ (k : ℕ). Means (k ∷ b ∷ h) x) (sym (eqb-true a 48 g.0))
        (subst (λ (k : ℕ). Means (48 ∷ k ∷ h) x) (sym (eqb-true b 120 f.0)) (subst (Means (48 ∷ 120 ∷ h)) p.1 (pattern h p.0 (omega arith)))))
        (λ g. decimal-means (a ∷ b ∷ h) x g.1) (chosen (eqb a 48) f.1))
        (λ f. decimal-means (a ∷ b ∷ h) x f.1)
        (chosen (eqb b 120) q)

means-real : (l : List ℕ) (x : Float) → Means l x → real_of_lem l ≡ Some x
unfolding real_of_lem
means-real l x (decimal w n d t) = real-nearest w n d t
means-real l x (below w n d t) = real-below-zero w n d t
means-real l x (pattern h a n) =
    let z : suc (suc (length h)) ≡ 0 → ⊥ = λ e. omega arith in
    let m : suc (suc (length h)) ≡ 18 = omega arith in
    rw (ne_eqb _ _ z, eq-eqb _ _ m) (ap pattern_of (hex-is 0 h a))

-- a decimal, one below zero, or bits; any other word is no value
pub real-exactly : (l : List ℕ) (x : Float) → (real_of_lem l ≡ Some x) ↔ Means l x
real-exactly l x = (real-means l x, means-real l x)

-- the contract allows one answer
pub real-of-determined : (word : List ℕ) (r s : Option Float) → r ≡ real_of_lem word → s ≡ real_of_lem word → r ≡ s
real-of-determined word r s = one_answer
