-- What is taken for a decimal is what a person may type, and it stands for the f64 nearest to it.
use Rattle.std.specs.Prelude.{Option, Some, None}
use mathlib.Core.Path.{◌≡◌, refl, sym, ap, ◌∙◌, subst}
use mathlib.Core.Bool.{false}
use mathlib.Core.List.{List, [], ◌∷◌, ◌++◌}
use mathlib.Core.Logic.{◌⊎◌, inl, inr, ⊎_elim, ◌↔◌}
use Prim.Native.Nat.{ℕ, zero, suc, ◌+◌, ◌*◌, ◌^◌, ◌≤◌, ◌<◌}
use native.Mathlib.Nat.{add-zero, one-mul, mul-one, mul_assoc, mul_left_comm, pow-succ', pow-le-pow_right}
use native.Mathlib.Omega.{arith}
use borrow.Author.Tests.{le-ltb, ne_eqb, ltb-false, eqb-true, eqb-false}
use lib.Dec.{ltb, eqb, lit<}
use lib.ListN.{length, get_or, length-append}
use lib.Ieee.{Float, binary64, round, neg}
use Rattle.octets.proofs.Choice.{chosen}
use Rattle.words.specs.Digits.{value_of}
use Rattle.decimals.specs.Decimals.{part_from_lem, whole_from, nearest_to, typed_of, below_zero, real_of_lem}
use Rattle.decimals.specs.Rules.{AllDecimal, digits_value, Typed, whole, pointed, Nearest}
use Rattle.decimals.proofs.Steps.{ten-more, ten-15}
use Rattle.decimals.proofs.Best.{quotient-nearest}

not_is : {p : ℕ × ℕ} → None ≡ Some p → ⊥
not_is e = cc

-- a fraction
abbrev over : ℕ → ℕ → Option (ℕ × ℕ)
over v d = Some (v, d)

-- the number and the scale of two fractions that are one
number-of : (v d : ℕ) {x e : ℕ} → over v d ≡ over x e → x ≡ v
number-of v d {x} {e} q = let both : ◌≡◌ {A = ℕ × ℕ} (v, d) (x, e) = cc in sym (ap (λ (p : ℕ × ℕ). p.0) both)

scale-of : (v d : ℕ) {x e : ℕ} → over v d ≡ over x e → e ≡ d
scale-of v d {x} {e} q = let both : ◌≡◌ {A = ℕ × ℕ} (v, d) (x, e) = cc in sym (ap (λ (p : ℕ × ℕ). p.1) both)

-- a point is no digit
not-point : (c : ℕ) → value_of c ≤ 9 → c ≡ 46 → ⊥
unfolding value_of
not-point c h e = let k : value_of 46 ≤ 9 = subst (λ (x : ℕ). value_of x ≤ 9) e h in omega arith

-- nor is the sign
not-sign : (c : ℕ) → value_of c ≤ 9 → c ≡ 45 → ⊥
unfolding value_of
not-sign c h e = let k : value_of 45 ≤ 9 = subst (λ (x : ℕ). value_of x ≤ 9) e h in omega arith

-- ---- what may be typed is taken
scaled : (k d : ℕ) → 10 ^ k * (10 * d) ≡ 10 ^ suc k * d
scaled k d = mul_left_comm (10 ^ k) 10 d ∙ sym (mul_assoc 10 (10 ^ k) d) ∙ ap (λ (x : ℕ). x * d) (sym (pow-succ' 10 k))

part-is : (v n d : ℕ) (p : List ℕ) → AllDecimal p → n + length p ≤ 15 → part_from_lem v n d p ≡ Some (digits_value v p, 10 ^ length p * d)
unfolding part_from_lem digits_value
part-is v n d [] a h = ap (over v) (sym (one-mul d))
part-is v n d (c ∷ cs) a h =
    let l : n ≤ 14 = omega arith in
    let m : n + 1 + length cs ≤ 15 = omega arith in
    rw (le-ltb _ _ a.0, le-ltb _ _ l) (part-is (10 * v + value_of c) (n + 1) (10 * d) cs a.1 m ∙ ap (over (digits_value (10 * v + value_of c) cs)) (scaled (length cs) d))

whole_is : (v n : ℕ) (w : List ℕ) → AllDecimal w → 0 < n + length w → n + length w ≤ 15 → whole_from v n w ≡ Some (digits_value v w, 1)
unfolding whole_from digits_value
whole_is v n [] a z h = let k : n ≡ 0 → ⊥ = λ e. omega arith in rw (ne_eqb _ _ k) refl
whole_is v n (c ∷ cs) a z h =
    let l : n ≤ 14 = omega arith in
    let y : 0 < n + 1 + length cs = omega arith in
    let m : n + 1 + length cs ≤ 15 = omega arith in
    rw (ne_eqb _ _ (not-point c a.0), le-ltb _ _ a.0, le-ltb _ _ l) (whole_is (10 * v + value_of c) (n + 1) cs a.1 y m)

point-is : (v n : ℕ) (w p : List ℕ) → AllDecimal w → AllDecimal p → 0 < n + length w → 0 < length p → n + length w + length p ≤ 15
    → whole_from v n (w ++ (46 ∷ p)) ≡ Some (digits_value v (w ++ p), 10 ^ length p)
unfolding whole_from digits_value
point-is v n [] p a b z y h =
    let k : n ≡ 0 → ⊥ = λ e. omega arith in
    let q : length p ≡ 0 → ⊥ = λ e. omega arith in
    let m : n + length p ≤ 15 = omega arith in
    rw (ne_eqb _ _ k, ne_eqb _ _ q) (part-is v n 1 p b m ∙ ap (over (digits_value v p)) (mul-one (10 ^ length p)))
point-is v n (c ∷ cs) p a b z y h =
    let l : n ≤ 14 = omega arith in
    let x : 0 < n + 1 + length cs = omega arith in
    let m : n + 1 + length cs + length p ≤ 15 = omega arith in
    rw (ne_eqb _ _ (not-point c a.0), le-ltb _ _ a.0, le-ltb _ _ l) (point-is (10 * v + value_of c) (n + 1) cs p a.1 b x y m)

typed-taken : (l : List ℕ) (n d : ℕ) → Typed l n d → whole_from 0 0 l ≡ Some (n, d)
typed-taken l n d (whole w a z h) = whole_is 0 0 w a (omega arith) (omega arith)
typed-taken l n d (pointed w p a b z y h) = point-is 0 0 w p a b (omega arith) y (omega arith)

-- ---- what is taken may be typed
record Part (v n d : ℕ) (l : List ℕ) (x e : ℕ) : Type 0 where
  pub all : AllDecimal l
  pub few : n + length l ≤ 15
  pub number : x ≡ digits_value v l
  pub scale : e ≡ 10 ^ length l * d

is-part : (v n d : ℕ) (l : List ℕ) (x e : ℕ) → n ≤ 15 → part_from_lem v n d l ≡ Some (x, e) → Part v n d l x e
unfolding part_from_lem digits_value
is-part v n d [] x e h q = record { all = tt; few = omega arith; number = number-of v d q; scale = scale-of v d q ∙ sym (one-mul d) }
is-part v n d (c ∷ cs) x e h q =
    ⊎_elim (λ f. absurd (not_is f.1))
    (λ f. ⊎_elim (λ g. absurd (not_is g.1))
    (λ g.
    let l = ltb-false 14 n g.0 in
    let t = is-part (10 * v + value_of c) (n + 1) (10 * d) cs x e (omega arith) g.1 in
    record { all = (ltb-false 9 (value_of c) f.0, t.all); few = omega (arith, t.few); number = t.number; scale = t.scale ∙ scaled (length cs) d })
    (chosen (ltb 14 n) f.1))
    (chosen (ltb 9 (value_of c)) q)

record Flat (v n : ℕ) (l : List ℕ) (x e : ℕ) : Type 0 where
  pub all : AllDecimal l
  pub some : 0 < n + length l
  pub few : n + length l ≤ 15
  pub number : x ≡ digits_value v l
  pub scale : e ≡ 1

record Cut (v n : ℕ) (l : List ℕ) (x e : ℕ) : Type 0 where
  pub w : List ℕ
  pub p : List ℕ
  pub is : l ≡ w ++ (46 ∷ p)
  pub first : AllDecimal w
  pub last : AllDecimal p
  pub some : 0 < n + length w
  pub more : 0 < length p
  pub few : n + length w + length p ≤ 15
  pub number : x ≡ digits_value v (w ++ p)
  pub scale : e ≡ 10 ^ length p

flat_on : (v n c : ℕ) (cs : List ℕ) (x e : ℕ) → value_of c ≤ 9 → Flat (10 * v + value_of c) (n + 1) cs x e → Flat v n (c ∷ cs) x e
unfolding digits_value
flat_on v n c cs x e h t = record { all = (h, t.all); some = omega arith; few = omega (arith, t.few); number = t.number; scale = t.scale }

cut_on : (v n c : ℕ) (cs : List ℕ) (x e : ℕ) → value_of c ≤ 9 → Cut (10 * v + value_of c) (n + 1) cs x e → Cut v n (c ∷ cs) x e
unfolding digits_value
cut_on v n c cs x e h t = record {
  w = c ∷ t.w;
  p = t.p;
  is = ap (λ (y : List ℕ). c ∷ y) t.is;
  first = (h, t.first);
  last = t.last;
  some = omega arith;
  more = t.more;
  few = omega (arith, t.few);
  number = t.number;
  scale = t.scale;
}

is_whole : (v n : ℕ) (l : List ℕ) (x e : ℕ) → n ≤ 15 → whole_from v n l ≡ Some (x, e) → Flat v n l x e ⊎ Cut v n l x e
unfolding whole_from digits_value
is_whole v n [] x e h q =
    ⊎_elim (λ f. absurd (not_is f.1))
    (λ f.
    let z = eqb-false n 0 f.0 in
    let k : 0 < n + 0 = elim (dec_zero n) [
      | inl y ↦ absurd (z y)
      | inr y ↦ omega arith
    ] in
    inl (record { all = tt; some = k; few = omega arith; number = number-of v 1 f.1; scale = scale-of v 1 f.1 }))
    (chosen (eqb n 0) q)
  where
    dec_zero : (n : ℕ) → (n ≡ 0) ⊎ (0 < n)
    dec_zero zero = inl refl
    dec_zero (suc n) = inr (omega arith)
is_whole v n (c ∷ cs) x e h q =
    ⊎_elim
    (λ f. ⊎_elim (λ g. absurd (not_is g.1))
    (λ g. ⊎_elim (λ k. absurd (not_is k.1))
    (λ k.
    let t = is-part v n 1 cs x e h k.1 in
    let z = eqb-false n 0 g.0 in
    let y = eqb-false (length cs) 0 k.0 in
    inr (record {
      w = [];
      p = cs;
      is = ap (λ (o : ℕ). o ∷ cs) (eqb-true c 46 f.0);
      first = tt;
      last = t.all;
      some = positive (n + 0) (λ o. z (omega arith));
      more = positive (length cs) y;
      few = omega (arith, t.few);
      number = t.number;
      scale = t.scale ∙ mul-one (10 ^ length cs);
    }))
    (chosen (eqb (length cs) 0) g.1))
    (chosen (eqb n 0) f.1))
    (λ f. ⊎_elim (λ g. absurd (not_is g.1))
    (λ g. ⊎_elim (λ k. absurd (not_is k.1))
    (λ k.
    let d = ltb-false 9 (value_of c) g.0 in
    let m = ltb-false 14 n k.0 in
    ⊎_elim (λ t. inl (flat_on v n c cs x e d t)) (λ t. inr (cut_on v n c cs x e d t)) (is_whole (10 * v + value_of c) (n + 1) cs x e (omega arith) k.1))
    (chosen (ltb 14 n) g.1))
    (chosen (ltb 9 (value_of c)) f.1))
    (chosen (eqb c 46) q)
  where
    positive : (n : ℕ) → (n ≡ 0 → ⊥) → 0 < n
    positive zero h = absurd (h refl)
    positive (suc n) h = omega arith

taken-typed : (l : List ℕ) (n d : ℕ) → whole_from 0 0 l ≡ Some (n, d) → Typed l n d
taken-typed l n d q =
    ⊎_elim
    (λ t. subst (λ (x : ℕ). Typed l x d) (sym t.number) (subst (λ (x : ℕ). Typed l (digits_value 0 l) x) (sym t.scale) (whole l t.all (omega (arith, t.some)) (omega (arith, t.few)))))
    (λ t.
    subst (λ (x : ℕ). Typed l x d) (sym t.number)
    (subst (λ (x : ℕ). Typed l (digits_value 0 (t.w ++ t.p)) x) (sym t.scale)
    (subst (λ (x : List ℕ). Typed x (digits_value 0 (t.w ++ t.p)) (10 ^ length t.p)) (sym t.is) (pointed t.w t.p t.first t.last (omega (arith, t.some)) t.more (omega (arith, t.few))))))
    (is_whole 0 0 l n d (omega arith) q)

pub decimal-exactly : (l : List ℕ) (n d : ℕ) → (whole_from 0 0 l ≡ Some (n, d)) ↔ Typed l n d
decimal-exactly l n d = (taken-typed l n d, typed-taken l n d)

-- ---- a typed decimal is the f64 nearest to it, and one with `-` in front is that below zero
pub typed-nearest : (l : List ℕ) (n d : ℕ) → Typed l n d → typed_of l ≡ Some (round binary64 false n d)
unfolding typed_of
typed-nearest l n d t = ap nearest_to (typed-taken l n d t)

-- a decimal has 1 to 16 octets, and its first is a digit
opens : (l : List ℕ) (n d : ℕ) → Typed l n d → (0 < length l) × (length l ≤ 16) × (get_or l 0 0 ≡ 45 → ⊥)
opens l n d (whole [] a z h) = absurd (omega arith)
opens l n d (whole (c ∷ cs) a z h) = (z, omega arith, not-sign c a.0)
opens l n d (pointed [] p a b z y h) = absurd (omega arith)
opens l n d (pointed (c ∷ cs) p a b z y h) = (omega arith, omega (arith, length-append cs (46 ∷ p)), not-sign c a.0)

pub real-nearest : (l : List ℕ) (n d : ℕ) → Typed l n d → real_of_lem l ≡ Some (round binary64 false n d)
unfolding real_of_lem
real-nearest l n d t =
    let o = opens l n d t in
    let z : length l ≡ 0 → ⊥ = λ e. omega arith in
    let k : length l ≡ 18 → ⊥ = λ e. omega arith in
    rw (ne_eqb _ _ z, ne_eqb _ _ o.2, ne_eqb _ _ k) (typed-nearest l n d t)

pub real-below-zero : (l : List ℕ) (n d : ℕ) → Typed l n d → real_of_lem (45 ∷ l) ≡ Some (neg (round binary64 false n d))
unfolding real_of_lem
real-below-zero l n d t = let z : suc (length l) ≡ 0 → ⊥ = λ e. omega arith in rw (ne_eqb _ _ z) (ap below_zero (typed-nearest l n d t))

-- ---- and `nearest` means that no f64 is nearer
number_small : (v n : ℕ) (w : List ℕ) → v < 10 ^ n → AllDecimal w → digits_value v w < 10 ^ (n + length w)
unfolding digits_value
number_small v n [] h a = rw (add-zero n) h
number_small v n (c ∷ cs) h a =
    let e : n + 1 + length cs ≡ n + suc (length cs) = omega arith in
    subst (λ (k : ℕ). digits_value (10 * v + value_of c) cs < 10 ^ k) e (number_small (10 * v + value_of c) (n + 1) cs (ten-more v n (value_of c) h a.0) a.1)

both-decimal : (w p : List ℕ) → AllDecimal w → AllDecimal p → AllDecimal (w ++ p)
both-decimal [] p a b = b
both-decimal (c ∷ cs) p a b = (a.0, both-decimal cs p a.1 b)

small-number : (w : List ℕ) → AllDecimal w → length w ≤ 15 → digits_value 0 w ≤ 2 ^ 53
small-number w a h = let l = number_small 0 0 w (lit< tt) a in omega (arith, ten-15 (0 + length w) (omega arith))

sizes : (l : List ℕ) (n d : ℕ) → Typed l n d → (n ≤ 2 ^ 53) × (0 < d)
sizes l n d (whole w a z h) = (small-number w a h, lit< tt)
sizes l n d (pointed w p a b z y h) = (
  small-number (w ++ p) (both-decimal w p a b) (omega (arith, length-append w p)),
  pow-le-pow_right {n = 10} (lit< tt) {i = 0} {j = length p} (omega arith),
)

-- a typed decimal is a number than which no f64 is nearer to what was typed
pub typed-best : (l : List ℕ) (n d : ℕ) → Typed l n d → (x : Float) × (real_of_lem l ≡ Some x) × Nearest x n d
typed-best l n d t = let s = sizes l n d t in (round binary64 false n d, real-nearest l n d t, quotient-nearest n d s.1 s.0)
