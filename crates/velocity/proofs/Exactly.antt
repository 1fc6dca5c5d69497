-- The codes in the paper's words: bearing N ≤ b < N+1; speed within half of N, a half going up;
-- everything from half below the top takes the top.
use mathlib.Core.Path.{◌≡◌, refl, sym, ap, ◌∙◌, subst}
use mathlib.Core.Bool.{true, false}
use mathlib.Core.Logic.{◌⊎◌, inl, inr, ⊎_elim, ◌↔◌}
use Prim.Native.Nat.{ℕ, zero, suc, ◌+◌, ◌*◌, ◌/◌, ◌≤◌, ◌<◌, min}
use native.Mathlib.Nat.{zero-lt-suc, zero-mul, le-div_iff_mul-le, div-lt_iff_lt-mul, min-eq_left, min-eq_right, mul-pos}
use native.Mathlib.Omega.{arith}
use native.Mathlib.Decide.{dec_lt}
use borrow.Author.Tests.{lt-ltb, le-ltb, ltb-true}
use lib.Dec.{ltb, lit<}
use lib.IntN.{pos}
use lib.Ieee.{Float, nan, inf, fin, up, down, lt}
use lib.Ieee.Fits.{up_pos, down_pos}
use Rattle.octets.specs.Answer.{accepted, refused}
use Rattle.octets.proofs.Answer.{accepted-same, refused-accepted, refused-same}
use Rattle.octets.proofs.Choice.{chosen}
use Rattle.velocity.specs.declared.Mark.{Mark}
use Rattle.velocity.specs.declared.Velocity.{Velocity}
use Rattle.velocity.specs.declared.Velocity.TheVariants.{Horizontal as Along, WithVertical as AlongAndUp}
use Rattle.velocity.specs.declared.Codes.{Codes}
use Rattle.velocity.specs.declared.Codes.TheVariants.{Horizontal, WithVertical}
use Rattle.velocity.specs.Velocity.{exactly, none, measured, bearing_of, speed_of, flat_of, codes_of}
use Rattle.velocity.specs.Rules.{Bearing, Speed, Fraction, BearingIs, SpeedIs, CodedAs, Wrong, Past, RefusedFor}

-- the whole part of a fraction
whole_part : (a c n : ℕ) → 0 < c → n * c ≤ a → a < (n + 1) * c → a / c ≡ n
whole_part a c n z l h =
    let p : n ≤ a / c = (le-div_iff_mul-le z).1 l in
    let q : a / c < n + 1 = (div-lt_iff_lt-mul z).1 h in
    omega (arith, p, q)

part-whole : (a c n : ℕ) → 0 < c → a / c ≡ n → (n * c ≤ a) × (a < (n + 1) * c)
part-whole a c n z e =
    let p : n ≤ a / c = omega (arith, e) in
    let q : a / c < n + 1 = omega (arith, e) in
    ((le-div_iff_mul-le z).0 p, (div-lt_iff_lt-mul z).0 q)

pub bearing-exactly : (a c n : ℕ) → 0 < c → (bearing_of (exactly a c) ≡ accepted n) ↔ Bearing a c n
unfolding bearing_of
bearing-exactly a c n z = (
  λ e. ⊎_elim
      (λ t. let w = part-whole a c n z (accepted-same t.1) in record { least = w.0; most = w.1; circle = ltb-true _ _ t.0 })
      (λ f. absurd (refused-accepted f.1))
      (chosen (ltb a (360 * c)) e),
  λ b. simp (lt-ltb _ _ b.circle) (ap accepted (whole_part a c n z b.least b.most)),
)

pub speed-exactly : (top a c n : ℕ) → 0 < c → (speed_of top (exactly a c) ≡ accepted n) ↔ Speed top a c n
unfolding speed_of
speed-exactly top a c n z = (λ e. there (dec_lt ((2 * a + c) / (2 * c)) top) (accepted-same e), back)
  where
    zz : 0 < 2 * c
    zz = mul-pos (lit< tt) z

    there : Dec ((2 * a + c) / (2 * c) < top) → min ((2 * a + c) / (2 * c)) top ≡ n → Speed top a c n
    there (yes h) e =
        let m : min ((2 * a + c) / (2 * c)) top ≡ (2 * a + c) / (2 * c) = min-eq_left (omega (arith, h)) in
        let q : (2 * a + c) / (2 * c) ≡ n = sym m ∙ e in
        let w = part-whole (2 * a + c) (2 * c) n zz q in
        inl (omega (arith, h, q), w.0, w.1)
    there (no h) e =
        let l : top ≤ (2 * a + c) / (2 * c) = omega (arith, h) in
        let m : min ((2 * a + c) / (2 * c)) top ≡ top = min-eq_right l in
        inr (sym e ∙ m, (le-div_iff_mul-le zz).0 l)

    back : Speed top a c n → accepted (min ((2 * a + c) / (2 * c)) top) ≡ accepted n
    back =
        ⊎_elim
        (λ x. let q = whole_part (2 * a + c) (2 * c) n zz x.1 x.2 in ap accepted (ap (λ (k : ℕ). min k top) q ∙ min-eq_left (omega (arith, x.0))))
        (λ x. ap accepted (min-eq_right ((le-div_iff_mul-le zz).1 x.1) ∙ sym x.0))

-- ---- which values have a fraction
none-wrong : (x : Float) → measured x ≡ none → Wrong x
unfolding measured lt
none-wrong nan p = inl refl
none-wrong (inf s) p = inr (inl (s, refl))
none-wrong (fin false m e) p = let z : ◌≡◌ {A = ℕ} 0 1 = cc in absurd (omega arith)
none-wrong (fin true zero e) p = let z : ◌≡◌ {A = ℕ} 0 1 = cc in absurd (omega arith)
none-wrong (fin true (suc m) e) p = inr (inr (lt-ltb 0 (suc m * up e * 1 + 0 * down e) (omega (arith, mul-pos (zero-lt-suc m) (up_pos e)))))

below_none : (x : Float) → lt x (fin false 0 (pos 0)) ≡ true → measured x ≡ none
unfolding measured lt
below_none nan p = refl
below_none (inf s) p = refl
below_none (fin false m e) p = absurd (omega (arith, ltb-true (m * up e * 1) (0 * down e) p, zero-mul (down e)))
below_none (fin true zero e) p = absurd (omega (arith, ltb-true 0 (0 * up e * 1 + 0 * down e) p, zero-mul (down e), zero-mul (up e)))
below_none (fin true (suc m) e) p = refl

wrong-none : (x : Float) → Wrong x → measured x ≡ none
unfolding measured
wrong-none x (inl e) = rw e refl
wrong-none x (inr (inl (s, e))) = rw e refl
wrong-none x (inr (inr p)) = below_none x p

-- 26 of a value alone: minus zero has a fraction
pub wrong-exactly : (x : Float) → (measured x ≡ none) ↔ Wrong x
wrong-exactly x = (none-wrong x, wrong-none x)

known : (x : Float) → ((a : ℕ) × (c : ℕ) × Fraction x a c) ⊎ (measured x ≡ none)
unfolding measured
known nan = inr refl
known (inf s) = inr refl
known (fin false m e) = inl (m * up e, down e, record { is = refl; under = down_pos e })
known (fin true zero e) = inl (0, 1, record { is = refl; under = lit< tt })
known (fin true (suc m) e) = inr refl

speed-told : (top : ℕ) (x : Float) → ((n : ℕ) × (speed_of top (measured x) ≡ accepted n) × SpeedIs top x n) ⊎ ((speed_of top (measured x) ≡ refused 26 0) × Wrong x)
unfolding speed_of
speed-told top x = elim (known x) [
  | inl f ↦
      let e : speed_of top (measured x) ≡ accepted (min ((2 * f.0 + f.1) / (2 * f.1)) top) = ap (speed_of top) f.2.is in
      inl (
        min ((2 * f.0 + f.1) / (2 * f.1)) top,
        e,
        record { over = f.0; by = f.1; value = f.2; code = (speed-exactly top f.0 f.1 _ f.2.under).0 refl },
      )
  | inr e ↦ inr (ap (speed_of top) e, none-wrong x e)
]

bearing-told : (x : Float) → ((n : ℕ) × (bearing_of (measured x) ≡ accepted n) × BearingIs x n) ⊎ ((bearing_of (measured x) ≡ refused 26 0) × (Wrong x ⊎ Past x))
unfolding bearing_of
bearing-told x = elim (known x) [
  | inl f ↦ elim (dec_lt f.0 (360 * f.1)) [
    | yes h ↦
        let e : bearing_of (exactly f.0 f.1) ≡ accepted (f.0 / f.1) = simp (lt-ltb _ _ h) in
        inl (f.0 / f.1, ap bearing_of f.2.is ∙ e, record { over = f.0; by = f.1; value = f.2; code = (bearing-exactly f.0 f.1 _ f.2.under).0 e })
    | no h ↦
        let l : 360 * f.1 ≤ f.0 = omega (arith, h) in
        let e : bearing_of (exactly f.0 f.1) ≡ refused 26 0 = simp (le-ltb _ _ l) in
        inr (ap bearing_of f.2.is ∙ e, inr (record { over = f.0; by = f.1; value = f.2; past = l }))
  ]
  | inr e ↦ inr (ap bearing_of e, inl (none-wrong x e))
]

bearing-of : (x : Float) (n : ℕ) → BearingIs x n → bearing_of (measured x) ≡ accepted n
bearing-of x n b = ap bearing_of b.value.is ∙ (bearing-exactly b.over b.by n b.value.under).1 b.code

speed-of : (top : ℕ) (x : Float) (n : ℕ) → SpeedIs top x n → speed_of top (measured x) ≡ accepted n
speed-of top x n b = ap (speed_of top) b.value.is ∙ (speed-exactly top b.over b.by n b.value.under).1 b.code

bearing-refuses : (x : Float) → Wrong x ⊎ Past x → bearing_of (measured x) ≡ refused 26 0
unfolding bearing_of
bearing-refuses x (inl w) = ap bearing_of (wrong-none x w)
bearing-refuses x (inr p) = let l = p.past in ap bearing_of p.value.is ∙ simp (le-ltb _ _ l)

speed-refuses : (top : ℕ) (x : Float) → Wrong x → speed_of top (measured x) ≡ refused 26 0
unfolding speed_of
speed-refuses top x w = ap (speed_of top) (wrong-none x w)

-- ---- the codes of a velocity
pub along : (b s : Float) {n k : ℕ} → bearing_of (measured b) ≡ accepted n → speed_of 65535 (measured s) ≡ accepted k → codes_of (Along b s) ≡ accepted (Horizontal n k)
unfolding codes_of flat_of
along b s p q = rw (p, q) refl

pub along-up : (b s u : Float) (mark : Mark) {n k j : ℕ} → bearing_of (measured b) ≡ accepted n → speed_of 65535 (measured s) ≡ accepted k → speed_of 255 (measured u) ≡ accepted j
    → codes_of (AlongAndUp b s u mark) ≡ accepted (WithVertical n k j mark)
unfolding codes_of flat_of
along-up b s u mark p q r = rw (p, q, r) refl

flat-refuses : (b s : Float) → (Wrong b ⊎ Past b) ⊎ Wrong s → flat_of b s ≡ refused 26 0
unfolding flat_of
flat-refuses b s (inl w) = rw (bearing-refuses b w) refl
flat-refuses b s (inr w) = elim (bearing-told b) [
  | inl f ↦ rw (f.1, speed-refuses 65535 s w) refl
  | inr f ↦ rw f.0 refl
]

refuses : (v : Velocity) → RefusedFor v → codes_of v ≡ refused 26 0
unfolding codes_of flat_of
refuses (Along b s) w = rw (flat-refuses b s w) refl
refuses (AlongAndUp b s u mark) (inl w) = rw (flat-refuses b s (inl w)) refl
refuses (AlongAndUp b s u mark) (inr (inl w)) = rw (flat-refuses b s (inr w)) refl
refuses (AlongAndUp b s u mark) (inr (inr w)) = elim (bearing-told b) [
  | inr f ↦ rw f.0 refl
  | inl f ↦ elim (speed-told 65535 s) [
    | inr g ↦ rw (f.1, g.0) refl
    | inl g ↦ rw (f.1, g.1, speed-refuses 255 u w) refl
  ]
]

pub code-told : (v : Velocity) → ((c : Codes) × (codes_of v ≡ accepted c) × CodedAs v c) ⊎ ((codes_of v ≡ refused 26 0) × RefusedFor v)
code-told (Along b s) = elim (bearing-told b) [
  | inr f ↦ inr (refuses (Along b s) (inl f.1), inl f.1)
  | inl f ↦ elim (speed-told 65535 s) [
    | inr g ↦ inr (refuses (Along b s) (inr g.1), inr g.1)
    | inl g ↦ inl (Horizontal f.0 g.0, along b s f.1 g.1, (f.2, g.2))
  ]
]
code-told (AlongAndUp b s u mark) = elim (bearing-told b) [
  | inr f ↦ inr (refuses (AlongAndUp b s u mark) (inl f.1), inl f.1)
  | inl f ↦ elim (speed-told 65535 s) [
    | inr g ↦ inr (refuses (AlongAndUp b s u mark) (inr (inl g.1)), inr (inl g.1))
    | inl g ↦ elim (speed-told 255 u) [
      | inr h ↦ inr (refuses (AlongAndUp b s u mark) (inr (inr h.1)), inr (inr h.1))
      | inl h ↦ inl (WithVertical f.0 g.0 h.0 mark, along-up b s u mark f.1 g.1 h.1, (f.2, g.2, h.2, refl))
    ]
  ]
]

coded-of : (v : Velocity) (c : Codes) → CodedAs v c → codes_of v ≡ accepted c
coded-of (Along b s) (Horizontal n k) w = along b s (bearing-of b n w.0) (speed-of 65535 s k w.1)
coded-of (Along b s) (WithVertical n k j mark) w = absurd w
coded-of (AlongAndUp b s u mark) (Horizontal n k) w = absurd w
coded-of (AlongAndUp b s u mark) (WithVertical n k j mark') w =
    along-up b s u mark (bearing-of b n w.0) (speed-of 65535 s k w.1) (speed-of 255 u j w.2) ∙ ap (λ m. accepted (WithVertical n k j m)) w.3

-- the codes are those of the paper, and no others
pub codes-exactly : (v : Velocity) (c : Codes) → (codes_of v ≡ accepted c) ↔ CodedAs v c
codes-exactly v c = (
  λ e. elim (code-told v) [
    | inl f ↦ subst (CodedAs v) (accepted-same (sym f.1 ∙ e)) f.2
    | inr f ↦ absurd (refused-accepted (sym f.0 ∙ e))
  ],
  coded-of v c,
)

-- 26 exactly when
pub refused-exactly : (v : Velocity) → (codes_of v ≡ refused 26 0) ↔ RefusedFor v
refused-exactly v = (
  λ e. elim (code-told v) [
    | inl f ↦ absurd (refused-accepted (sym e ∙ f.1))
    | inr f ↦ f.1
  ],
  refuses v,
)

-- and no other refusal
pub only-26 : (v : Velocity) (n at : ℕ) → codes_of v ≡ refused n at → (n ≡ 26) × (at ≡ 0)
only-26 v n at e = elim (code-told v) [
  | inl f ↦ absurd (refused-accepted (sym e ∙ f.1))
  | inr f ↦ refused-same (sym e ∙ f.0)
]
