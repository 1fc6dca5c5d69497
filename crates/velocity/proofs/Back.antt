-- Reading back, and coding what is read.
use Rattle.std.specs.Prelude.{Result, Ok, Err}
use Rattle.octets.specs.Told.{told}
use Rattle.octets.proofs.Told.{told-injective, refusal-one}
use Rattle.octets.specs.declared.Refusal.{Refusal}
use Rattle.octets.specs.declared.Refusal.{Refusal}
use mathlib.Core.Path.{◌≡◌, refl, sym, ap, ◌∙◌, subst}
use mathlib.Core.Bool.{true, false}
use mathlib.Core.Logic.{inl, inr, ◌↔◌}
use Prim.Native.Nat.{ℕ, ◌+◌, ◌*◌, ◌≤◌, ◌<◌}
use native.Mathlib.Nat.{le_refl, le_trans, lt_of_le_of_lt, mul-one, mul_assoc, mul_comm, mul_left_comm, add-mul, mul-le-mul_right, mul-lt-mul_of_pos_right, lt_of_mul-lt-mul_right}
use native.Mathlib.Omega.{arith}
use native.Mathlib.Decide.{dec_lt}
use borrow.Author.Tests.{lt-ltb, le-ltb, ltb-false}
use lib.Dec.{ltb, lit≤}
use lib.Ieee.{Float, nan, inf, fin, binary64, up, down, round, of_int}
use lib.Ieee.Exact.{HasValue}
use lib.Ieee.Back.{round_whole}
use lib.Ieee.Fits.{down_pos}
use Rattle.octets.specs.Answer.{accepted, refused}
use Rattle.octets.proofs.Answer.{accepted-same, refused-same, refused-accepted, past-test}
use Rattle.velocity.specs.declared.Mark.{Mark}
use Rattle.velocity.specs.declared.Velocity.{Velocity}
use Rattle.velocity.specs.declared.Velocity.TheVariants.{Horizontal as Along, WithVertical as AlongAndUp}
use Rattle.velocity.specs.declared.Codes.{Codes}
use Rattle.velocity.specs.declared.Codes.TheVariants.{Horizontal, WithVertical}
use Rattle.velocity.specs.declared.Known.{Known}
use Rattle.velocity.specs.declared.Known.TheVariants.{Horizontal as Read, WithVertical as ReadUp}
use Rattle.velocity.specs.Velocity.{exactly, measured, bearing_of, speed_of, codes_of, whole_of, course_of_lem, known_of, Stands, alone, beside}
use Rattle.velocity.specs.Told.{known_told}
use Rattle.velocity.specs.Rules.{Speed, BearingIs, SpeedIs, CodedAs, Itself, Held, bearing_code_lem, ReadBack, again, NearBy, Half, flatly, fully}
use Rattle.velocity.proofs.Exactly.{bearing-exactly, speed-exactly, codes-exactly, along, along-up}

-- ---- a whole number as an f64 is that number
value-itself : (y : Float) (n : ℕ) → HasValue y false n 1 → Itself y n
unfolding measured
value-itself nan n v = absurd v
value-itself (inf s) n v = absurd v
value-itself (fin true m e) n v = let q : ◌≡◌ {A = ℕ} 0 1 = cc v.0 in absurd (omega arith)
value-itself (fin false m e) n v = record { by = down e; value = record { is = ap (λ (a : ℕ). exactly a (down e)) (sym (mul-one (m * up e)) ∙ v.1); under = down_pos e } }

pub itself : (n : ℕ) → n ≤ 65535 → Itself (whole_of n) n
unfolding of_int
itself n h = value-itself (round binary64 false n 1) n (round_whole binary64 false n (le_trans h (lit≤ tt)))

whole-bearing : (n : ℕ) → n ≤ 359 → bearing_of (measured (whole_of n)) ≡ accepted n
whole-bearing n h =
    let w = itself n (omega arith) in
    let z = w.value.under in
    let l : n < n + 1 = omega arith in
    let r : n < 360 = omega arith in
    ap bearing_of w.value.is
    ∙ (bearing-exactly (n * w.by) w.by n z).1 (record { least = le_refl (n * w.by); most = mul-lt-mul_of_pos_right l z; circle = mul-lt-mul_of_pos_right r z })

steps : (n c : ℕ) → 0 < c → (n * (2 * c) ≤ 2 * (n * c) + c) × (2 * (n * c) + c < (n + 1) * (2 * c))
steps n c z = (omega (arith, mul_left_comm n 2 c), omega (arith, mul_left_comm n 2 c, add-mul n 1 (2 * c)))

whole-speed : (top n : ℕ) → n ≤ 65535 → n ≤ top → speed_of top (measured (whole_of n)) ≡ accepted n
whole-speed top n b h =
    let w = itself n b in
    let z = w.value.under in
    let t = steps n w.by z in
    ap (speed_of top) w.value.is
    ∙ (speed-exactly top (n * w.by) w.by n z).1 (elim (dec_lt n top) [
      | yes l ↦ inl (l, t.0, t.1)
      | no l ↦ let e : n ≡ top = omega arith in inr (e, subst (λ (k : ℕ). k * (2 * w.by) ≤ 2 * (n * w.by) + w.by) e t.0)
    ])

-- ---- what codes stand for
-- codes are read exactly where the bearing is at most 359, and else refused with 26
pub codes-read : (c : Codes) → ((k : Stands) × (known_of c ≡ accepted k)) ↔ (bearing_code_lem c ≤ 359)
unfolding known_of
codes-read (Horizontal b s) = (λ r. ltb-false 359 b (past-test 26 0 (ltb 359 b) r.1).0, λ h. (alone (course_of_lem b s), simp (le-ltb 359 b h)))
codes-read (WithVertical b s u mark) = (λ r. ltb-false 359 b (past-test 26 0 (ltb 359 b) r.1).0, λ h. (beside (course_of_lem b s) (whole_of u) mark, simp (le-ltb 359 b h)))

pub unread-exactly : (c : Codes) → (known_of c ≡ refused 26 0) ↔ (359 < bearing_code_lem c)
unfolding known_of
unread-exactly c = (
  λ e. elim (dec_lt 359 (bearing_code_lem c)) [
    | yes l ↦ l
    | no l ↦ let h : bearing_code_lem c ≤ 359 = omega arith in absurd (refused-accepted (sym e ∙ ((codes-read c).1 h).1))
  ],
  back c,
)
  where
    back : (c : Codes) → 359 < bearing_code_lem c → known_of c ≡ refused 26 0
    back (Horizontal b s) h = simp (lt-ltb 359 b h)
    back (WithVertical b s u mark) h = simp (lt-ltb 359 b h)

-- what is read is N itself; the mark is kept
pub read-itself : (c : Codes) (k : Stands) → Held c → known_of c ≡ accepted k → ReadBack c k
unfolding known_of
read-itself (Horizontal b s) k h e =
    let t = past-test 26 0 (ltb 359 b) e in
    let l = ltb-false 359 b t.0 in
    subst (ReadBack (Horizontal b s)) (accepted-same t.1) (itself b (omega arith), itself s h)
read-itself (WithVertical b s u mark) k h e =
    let t = past-test 26 0 (ltb 359 b) e in
    let l = ltb-false 359 b t.0 in
    subst (ReadBack (WithVertical b s u mark)) (accepted-same t.1) (itself b (omega arith), itself s h.0, itself u (omega arith), refl)

-- coding what is read gives the codes again
pub codes-again : (c : Codes) (k : Stands) → Held c → known_of c ≡ accepted k → codes_of (again k) ≡ accepted c
unfolding known_of
codes-again (Horizontal b s) k h e =
    let t = past-test 26 0 (ltb 359 b) e in
    let l = ltb-false 359 b t.0 in
    subst (λ (x : Stands). codes_of (again x) ≡ accepted (Horizontal b s)) (accepted-same t.1) (along (whole_of b) (whole_of s) (whole-bearing b l) (whole-speed 65535 s h h))
codes-again (WithVertical b s u mark) k h e =
    let t = past-test 26 0 (ltb 359 b) e in
    let l = ltb-false 359 b t.0 in
    subst (λ (x : Stands). codes_of (again x) ≡ accepted (WithVertical b s u mark)) (accepted-same t.1)
    (along-up (whole_of b) (whole_of s) (whole_of u) mark (whole-bearing b l) (whole-speed 65535 s h.0 h.0) (whole-speed 255 u (omega arith) h.1))

-- ---- what was coded is read back
bearing-small : (x : Float) (n : ℕ) → BearingIs x n → n ≤ 359
bearing-small x n w = let l = lt_of_mul-lt-mul_right w.by {m = n} {n = 360} (lt_of_le_of_lt w.code.least w.code.circle) in omega arith

speed-small : (top a c n : ℕ) → Speed top a c n → n ≤ top
speed-small top a c n (inl s) = omega arith
speed-small top a c n (inr s) = omega arith

-- codes that were given are held by u16 and u8, and their bearing is at most 359
coded-held : (v : Velocity) (c : Codes) → CodedAs v c → Held c × (bearing_code_lem c ≤ 359)
coded-held (Along b s) (Horizontal n k) w = (speed-small 65535 _ _ k w.1.code, bearing-small b n w.0)
coded-held (Along b s) (WithVertical n k j mark) w = absurd w
coded-held (AlongAndUp b s u mark) (Horizontal n k) w = absurd w
coded-held (AlongAndUp b s u mark) (WithVertical n k j mark') w = ((speed-small 65535 _ _ k w.1.code, speed-small 255 _ _ j w.2.code), bearing-small b n w.0)

pub record Back (c : Codes) : Type 0 where
  pub stands : Stands
  pub reads : known_of c ≡ accepted stands
  pub whole : ReadBack c stands
  pub same : codes_of (again stands) ≡ accepted c

pub reads-back : (v : Velocity) (c : Codes) → codes_of v ≡ accepted c → Back c
reads-back v c e =
    let h = coded-held v c ((codes-exactly v c).0 e) in
    let r = (codes-read c).1 h.1 in
    record { stands = r.0; reads = r.1; whole = read-itself c r.0 h.0 r.1; same = codes-again c r.0 h.0 r.1 }

-- ---- within one half of what was measured
near : (top : ℕ) (x y : Float) (n : ℕ) → n < top → SpeedIs top x n → Itself y n → NearBy x y
near top x y n l w i = go w.code
  where
    go : Speed top w.over w.by n → NearBy x y
    go (inr s) = absurd (omega arith)
    go (inl s) =
        let p1 : n * (2 * w.by) * i.by ≤ (2 * w.over + w.by) * i.by = mul-le-mul_right i.by s.1 in
        let p2 : (2 * w.over + w.by) * i.by < (n + 1) * (2 * w.by) * i.by = mul-lt-mul_of_pos_right s.2 i.value.under in
        let e1 : n * (2 * w.by) * i.by ≡ 2 * (n * i.by * w.by) = simp (mul_assoc, mul_comm, mul_left_comm) in
        let e2 : (2 * w.over + w.by) * i.by ≡ 2 * (w.over * i.by) + w.by * i.by = add-mul (2 * w.over) w.by i.by ∙ ap (λ (k : ℕ). k + w.by * i.by) (mul_assoc 2 w.over i.by) in
        let e3 : (n + 1) * (2 * w.by) * i.by ≡ n * (2 * w.by) * i.by + 2 * w.by * i.by =
        ap (λ (k : ℕ). k * i.by) (add-mul n 1 (2 * w.by)) ∙ add-mul (n * (2 * w.by)) (1 * (2 * w.by)) i.by ∙ ap (λ (k : ℕ). n * (2 * w.by) * i.by + k * i.by) (omega arith) in
        let e4 : 2 * w.by * i.by ≡ 2 * (w.by * i.by) = mul_assoc 2 w.by i.by in
        record { a = w.over; c = w.by; p = n * i.by; q = i.by; one = w.value; other = i.value; above = omega arith; below = omega arith }

half : (v : Velocity) (c : Codes) (k : Stands) → CodedAs v c → ReadBack c k → Half v c k
half (Along b s) (Horizontal n k) (alone x) w r = flatly (λ l. near 65535 s x.speed k l w.1 r.1)
half (Along b s) (Horizontal n k) (beside x u' mark) w r = absurd r
half (Along b s) (WithVertical n k j mark) y w r = absurd w
half (AlongAndUp b s u mark) (Horizontal n k) y w r = absurd w
half (AlongAndUp b s u mark) (WithVertical n k j mark') (alone x) w r = absurd r
half (AlongAndUp b s u mark) (WithVertical n k j mark') (beside x u' mark'') w r =
    subst (λ (m : Mark). Half (AlongAndUp b s u m) (WithVertical n k j mark') (beside x u' mark'')) (sym w.3)
    (subst (λ (m : Mark). Half (AlongAndUp b s u mark') (WithVertical n k j mark') (beside x u' m)) r.3
    (fully (λ l. near 65535 s x.speed k l w.1 r.1) (λ l. near 255 u u' j l w.2 r.2)))

pub within-half : (v : Velocity) (c : Codes) (k : Stands) → codes_of v ≡ accepted c → known_of c ≡ accepted k → Half v c k
within-half v c k e r =
    let w = (codes-exactly v c).0 e in
    half v c k w (read-itself c k (coded-held v c w).0 r)

-- ---- the contracts allow one answer
told-known : (r s : Result Known Refusal) → known_told r ≡ known_told s → r ≡ s
told-known (Ok (Read c)) (Ok (Read d)) e = cc
told-known (Ok (Read c)) (Ok (ReadUp d x mark)) e = let z : ◌≡◌ {A = ℕ} 0 1 = cc in absurd (omega arith)
told-known (Ok (Read c)) (Err why) e = absurd (refused-accepted (sym e))
told-known (Ok (ReadUp c x mark)) (Ok (Read d)) e = let z : ◌≡◌ {A = ℕ} 0 1 = cc in absurd (omega arith)
told-known (Ok (ReadUp c x mark)) (Ok (ReadUp d y mark')) e = cc
told-known (Ok (ReadUp c x mark)) (Err why) e = absurd (refused-accepted (sym e))
told-known (Err why) (Ok (Read d)) e = absurd (refused-accepted e)
told-known (Err why) (Ok (ReadUp d x mark)) e = absurd (refused-accepted e)
told-known (Err a) (Err b) e = let s = refused-same e in ap Err (refusal-one a b s.0 s.1)

pub code-determined : (v : Velocity) (r s : Result Codes Refusal) → told r ≡ codes_of v → told s ≡ codes_of v → r ≡ s
code-determined v r s p q = told-injective r s (p ∙ sym q)

pub known-determined : (c : Codes) (r s : Result Known Refusal) → known_told r ≡ known_of c → known_told s ≡ known_of c → r ≡ s
known-determined c r s p q = told-known r s (p ∙ sym q)
