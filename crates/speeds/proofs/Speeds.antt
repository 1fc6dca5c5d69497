-- Velocities at the boundary: refused exactly when, what a refusal keeps, and
-- that the contracts allow one outcome.
use Prim.Native.Nat.{ℕ, ◌*◌, ◌≤◌, ◌<◌}
use mathlib.Core.Path.{◌≡◌, refl, sym, ◌∙◌, ap}
use mathlib.Core.Bool.{Bool, true, false}
use mathlib.Core.List.{List, ◌∷◌}
use mathlib.Core.Logic.{◌⊎◌, inl, inr, ◌↔◌}
use native.Mathlib.Omega.{arith}
use borrow.Author.Tests.{lt-ltb, ltb-true, ltb-false}
use lib.Dec.{ltb}
use lib.Ieee.{Float}
use lib.ListN.{length, drop}
use Rattle.octets.specs.Choice.{when◌then◌else◌}
use Rattle.octets.specs.Answer.{Answer, accepted, refused, ◌then◌}
use Rattle.octets.specs.Filled.{Done, done, room_for}
use Rattle.octets.specs.Faults.{Judges}
use Rattle.octets.proofs.Answer.{accepted-same, refused-accepted, then-accepted, past-test}
use Rattle.octets.proofs.Faults.{judges-done, judges-if, judges-then}
use Rattle.octets.proofs.Filled.{done-kept, judges-filled}
use Rattle.velocity.specs.declared.Mark.{Mark}
use Rattle.velocity.specs.declared.Velocity.{Velocity}
use Rattle.velocity.specs.declared.Velocity.TheVariants.{Horizontal as Along, WithVertical as AlongAndUp}
use Rattle.velocity.specs.declared.Codes.{Codes}
use Rattle.velocity.specs.declared.Codes.TheVariants.{Horizontal, WithVertical}
use Rattle.velocity.specs.declared.Course.{Course}
use Rattle.velocity.specs.Velocity.{Flat, flat_of, speed_of, measured, codes_of, course_of_lem}
use Rattle.velocity.specs.Rules.{CodedAs}
use Rattle.velocity.specs.Faults.{velocity_faults}
use Rattle.velocity.proofs.Exactly.{codes-exactly}
use Rattle.velocity.proofs.Judged.{code-judges}
use Rattle.speeds.specs.Velocities.{numbers_in, code_gives, codes_count, code_gives_faults, Valued, valued, course_at, values_by, values_gives}

-- ---- coding
-- as many codes as the velocity has values
counted : (v : Velocity) (c : Codes) → CodedAs v c → length (numbers_in c) ≡ codes_count v
counted (Along b s) (Horizontal n k) w = refl
counted (Along b s) (WithVertical n k j m) w = absurd w
counted (AlongAndUp b s u m) (Horizontal n k) w = absurd w
counted (AlongAndUp b s u m) (WithVertical n k j m') w = refl

codes-count : (v : Velocity) (c : Codes) → codes_of v ≡ accepted c → length (numbers_in c) ≡ codes_count v
codes-count v c e = counted v c ((codes-exactly v c).0 e)

-- 26, then 13
pub code-gives-judges : (v : Velocity) (codes : List ℕ) → Judges (code_gives v codes).answer (code_gives_faults v codes)
unfolding code_gives
code-gives-judges v codes =
    judges-filled codes (codes_of v then λ c. room_for codes (length (numbers_in c), numbers_in c)) (code_gives_faults v codes)
    (judges-then (codes_of v) (λ c. room_for codes (length (numbers_in c), numbers_in c)) (velocity_faults v) _ (code-judges v)
    (λ c e.
    let k = codes-count v c e in
    judges-if (ltb (length codes) (length (numbers_in c))) (λ t. let l = ltb-true (length codes) (length (numbers_in c)) t in omega arith) (λ t h. let l = ltb-false (length codes) (length (numbers_in c)) t in omega arith) (λ t. judges-done _)))

-- a refusal keeps the lent numbers
pub code-gives-keeps : (v : Velocity) (codes : List ℕ) (n at : ℕ) → (code_gives v codes).answer ≡ refused n at → (code_gives v codes).left ≡ codes
unfolding code_gives
code-gives-keeps v codes n at e = done-kept codes (codes_of v then λ c. room_for codes (length (numbers_in c), numbers_in c)) e

-- what was accepted, before the buffer is filled
answered : (codes : List ℕ) (x : Answer (ℕ × List ℕ)) (n : ℕ) → (done codes x).answer ≡ accepted n → (l : List ℕ) × (x ≡ accepted (n, l))
answered codes (accepted y) n e = (y.1, ap (λ (k : ℕ). accepted (k, y.1)) (accepted-same e))
answered codes (refused m at) n e = absurd (refused-accepted e)

few : (c : Codes) → length (numbers_in c) ≤ 3
few (Horizontal b s) = omega arith
few (WithVertical b s u m) = omega arith

-- two or three codes
pub code-gives-small : (v : Velocity) (codes : List ℕ) (n : ℕ) → (code_gives v codes).answer ≡ accepted n → n ≤ 65535
unfolding code_gives
code-gives-small v codes n e =
    let r = answered codes (codes_of v then λ c. room_for codes (length (numbers_in c), numbers_in c)) n e in
    let t = then-accepted (codes_of v) (λ c. room_for codes (length (numbers_in c), numbers_in c)) r.1 in
    let u = past-test 13 0 (ltb (length codes) (length (numbers_in t.0))) t.2 in
    let q = ap (λ (y : ℕ × List ℕ). y.0) (accepted-same u.1) in
    omega (arith, few t.0, q)

-- the mark makes no difference to the numbers
pub mark-apart : (b s u : Float) (m k : Mark) (codes : List ℕ) → code_gives (AlongAndUp b s u m) codes ≡ code_gives (AlongAndUp b s u k) codes
unfolding code_gives codes_of
mark-apart b s u m k codes = go (flat_of b s) (speed_of 255 (measured u))
  where
    gives : Mark → Answer Flat → Answer ℕ → Done ℕ
    gives m x y = done codes ((x then λ f. (y then λ j. accepted (WithVertical f.bearing f.speed j m))) then λ c. room_for codes (length (numbers_in c), numbers_in c))

    go : (x : Answer Flat) (y : Answer ℕ) → gives m x y ≡ gives k x y
    go (accepted f) (accepted j) = refl
    go (accepted f) (refused n at) = refl
    go (refused n at) y = refl

-- ---- reading back
-- any two outcomes are equal
pub values-determined : (g : Valued) (v w : ℕ) (k l : List Float) → valued v k ≡ g → valued w l ≡ g → (v ≡ w) × (k ≡ l)
values-determined g v w k l p q = let e = p ∙ sym q in (ap (λ (x : Valued). x.value) e, ap (λ (x : Valued). x.left) e)

-- each way in which it ends
module _ (b s : ℕ) (values : List Float) where
  pub read-no-bearing : 359 < b → valued 1703936 values ≡ values_gives b s values
  read-no-bearing h = rw (lt-ltb _ _ h) refl

  pub read-no-speed : 65535 < s → valued 1703936 values ≡ values_gives b s values
  read-no-speed h = go (ltb 359 b)
    where
      go : (t : Bool) → valued 1703936 values ≡ values_by values (when t then refused 26 0 else when ltb 65535 s then refused 26 0 else accepted (course_of_lem b s))
      go true = refl
      go false = rw (lt-ltb _ _ h) refl

-- 26 exactly for a bearing above 359 and a speed above 65535
pub values-refused : (b s : ℕ) (values : List Float) → ((values_gives b s values).value ≡ 65536 * 26) ↔ ((359 < b) ⊎ (65535 < s))
values-refused b s values = (λ e. go (ltb 359 b) (ltb 65535 s) refl refl e, back)
  where
    back : (359 < b) ⊎ (65535 < s) → (values_gives b s values).value ≡ 65536 * 26
    back (inl h) = sym (ap (λ (x : Valued). x.value) (read-no-bearing b s values h))
    back (inr h) = sym (ap (λ (x : Valued). x.value) (read-no-speed b s values h))

    room : (t : Bool) → (when t then valued (65536 * 13) values else valued 2 ((course_of_lem b s).bearing ∷ (course_of_lem b s).speed ∷ drop 2 values)).value ≡ 65536 * 26 → (359 < b) ⊎ (65535 < s)
    room true e = absurd (omega arith)
    room false e = absurd (omega arith)

    go : (t u : Bool) → ltb 359 b ≡ t → ltb 65535 s ≡ u → (values_by values (when t then refused 26 0 else when u then refused 26 0 else accepted (course_of_lem b s))).value ≡ 65536 * 26 → (359 < b) ⊎ (65535 < s)
    go true u p q e = inl (ltb-true 359 b p)
    go false true p q e = inr (ltb-true 65535 s q)
    go false false p q e = room (ltb (length values) 2) e

-- a number from 65536 on says that the call was refused, and then the lent values are as they were
pub values-refuses : (b s : ℕ) (values : List Float) (r : ℕ) (left : List Float) → valued r left ≡ values_gives b s values → 65536 ≤ r → left ≡ values
values-refuses b s values r left e h = ap (λ (x : Valued). x.left) e ∙ go (course_at b s) (omega (arith, ap (λ (x : Valued). x.value) e))
  where
    room : (c : Course) (t : Bool) → 65536 ≤ (when t then valued (65536 * 13) values else valued 2 (c.bearing ∷ c.speed ∷ drop 2 values)).value → (when t then valued (65536 * 13) values else valued 2 (c.bearing ∷ c.speed ∷ drop 2 values)).left ≡ values
    room c true l = refl
    room c false l = absurd (omega arith)

    go : (x : Answer Course) → 65536 ≤ (values_by values x).value → (values_by values x).left ≡ values
    go (accepted c) l = room c (ltb (length values) 2) l
    go (refused n at) l = refl
