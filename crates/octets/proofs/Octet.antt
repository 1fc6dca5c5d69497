-- A stretch of octets, by its octets.
use Prim.Native.Nat.{ℕ, zero, suc, ◌+◌, ◌-◌, ◌≤◌, ◌<◌}
use mathlib.Core.Path.{◌≡◌, refl, sym, ◌∙◌, ap, subst}
use mathlib.Core.List.{List, [], ◌∷◌, ◌++◌}
use native.Mathlib.Omega.{arith}
use native.Mathlib.Decide.{dec_lt}
use lib.ListN.{length, drop, replicate, length-drop, length-append, get_or-append, get_or-eq_default}
use lib.Seq.{length-take-le, get_or-take, get_or-drop, get_or-append-add, take_all, ext_get_or}
use Rattle.octets.specs.Octet.{octet, octets, AllOctets}

pub length-octets : (m : List ℕ) (i n : ℕ) → i + n ≤ length m → length (octets m i n) ≡ n
length-octets m i n h = length-take-le n (drop i m) (omega (arith, length-drop i m))

pub octets-octet : (m : List ℕ) (i n j : ℕ) → j < n → octet (octets m i n) j ≡ octet m (i + j)
octets-octet m i n j h = get_or-take n (drop i m) j 0 h ∙ get_or-drop i m j 0

-- two messages that agree on a stretch, octet for octet, have the same stretch there
pub octets-agree : (m m' : List ℕ) (i n : ℕ) → i + n ≤ length m → i + n ≤ length m' → ((j : ℕ) → i ≤ j → j < i + n → octet m' j ≡ octet m j) → octets m' i n ≡ octets m i n
octets-agree m m' i n h h' e =
    let l' = length-octets m' i n h' in
    ext_get_or 0 (octets m' i n) (octets m i n) (l' ∙ sym (length-octets m i n h))
    (λ j b.
    let c : j < n = omega arith in
    octets-octet m' i n j c ∙ e (i + j) (omega arith) (omega arith) ∙ sym (octets-octet m i n j c))

-- a list that stands in a message from octet u on
pub record Within (m : List ℕ) (u : ℕ) (r : List ℕ) : Type 0 where
  pub same : (i : ℕ) → i < length r → octet m (u + i) ≡ octet r i
  pub inside : u + length r ≤ length m

pub within-octets : {m : List ℕ} {u : ℕ} {r : List ℕ} → Within m u r → (i n : ℕ) → i + n ≤ length r → octets m (u + i) n ≡ octets r i n
within-octets {m} {u} {r} x i n h =
    let a : u + i + n ≤ length m = omega (arith, x.inside) in
    let l = length-octets m (u + i) n a in
    ext_get_or 0 (octets m (u + i) n) (octets r i n) (l ∙ sym (length-octets r i n h))
    (λ j b.
    let c : j < n = omega arith in
    let e : u + i + j ≡ u + (i + j) = omega arith in
    octets-octet m (u + i) n j c ∙ ap (octet m) e ∙ x.same (i + j) (omega arith) ∙ sym (octets-octet r i n j c))

pub within_all : {m : List ℕ} {u : ℕ} {r : List ℕ} → Within m u r → octets m u (length r) ≡ r
within_all {m} {u} {r} x =
    let e : u + 0 ≡ u = omega arith in
    ap (λ k. octets m k (length r)) (sym e) ∙ within-octets x 0 (length r) (omega arith) ∙ take_all (length r) r (omega arith)

-- where two lists stand that are joined
pub within-left : {m : List ℕ} {u : ℕ} (a b : List ℕ) → Within m u (a ++ b) → Within m u a
within-left a b x = record {
  same = λ i h. x.same i (omega (arith, length-append a b)) ∙ get_or-append a b 0 i h;
  inside = omega (arith, x.inside, length-append a b);
}

pub within-right : {m : List ℕ} {u : ℕ} (a b : List ℕ) → Within m u (a ++ b) → Within m (u + length a) b
within-right {m} {u} a b x = record {
  same = λ i h. let e : u + length a + i ≡ u + (length a + i) = omega arith in ap (octet m) e ∙ x.same (length a + i) (omega (arith, length-append a b)) ∙ get_or-append-add a b i 0;
  inside = omega (arith, x.inside, length-append a b);
}

pub within-at : {m : List ℕ} {u : ℕ} {r : List ℕ} (v : ℕ) → u ≡ v → Within m u r → Within m v r
within-at {m} {u} {r} v e x = subst (λ (k : ℕ). Within m k r) e x

pub within-self : (m : List ℕ) → Within m 0 m
within-self m = record { same = λ i h. let e : 0 + i ≡ i = omega arith in ap (octet m) e; inside = omega arith }

pub within-head : {m : List ℕ} {u y : ℕ} {ys : List ℕ} → Within m u (y ∷ ys) → octet m u ≡ y
within-head {m} {u} x = let e : u + 0 ≡ u = omega arith in ap (octet m) (sym e) ∙ x.same 0 (omega arith)

pub within-join : {m : List ℕ} {u : ℕ} (a b : List ℕ) → Within m u a → Within m (u + length a) b → Within m u (a ++ b)
within-join {m} {u} a b x y = record { same = λ i h. at i h (dec_lt i (length a)); inside = omega (arith, y.inside, length-append a b) }
  where
    at : (i : ℕ) → i < length (a ++ b) → Dec (i < length a) → octet m (u + i) ≡ octet (a ++ b) i
    at i h (yes l) = x.same i l ∙ sym (get_or-append a b 0 i l)
    at i h (no l) =
        let j : length a + (i - length a) ≡ i = omega arith in
        let k : u + length a + (i - length a) ≡ u + i = omega arith in
        ap (octet m) (sym k) ∙ y.same (i - length a) (omega (arith, length-append a b)) ∙ sym (get_or-append-add a b (i - length a) 0) ∙ ap (octet (a ++ b)) j

pub within-nothing : {m : List ℕ} {u : ℕ} → u ≤ length m → Within m u []
within-nothing h = record { same = λ i l. absurd (omega arith); inside = omega arith }

pub within-one : {m : List ℕ} {u y : ℕ} → u < length m → octet m u ≡ y → Within m u (y ∷ [])
within-one {m} {u} {y} h e = record { same = λ i l. (let z : i ≡ 0 = omega arith in let k : u + i ≡ u = omega arith in ap (octet m) k ∙ e ∙ ap (octet (y ∷ [])) (sym z)); inside = omega arith }

-- a stretch of a message stands in it
pub within-stretch : (m : List ℕ) (u n : ℕ) → u + n ≤ length m → Within m u (octets m u n)
within-stretch m u n h =
    let l = length-octets m u n h in
    record { same = λ i b. sym (octets-octet m u n i (omega arith)); inside = omega arith }

-- what stands in a message from its start to its end is the message
pub within-whole : {m r : List ℕ} → Within m 0 r → length m ≡ length r → m ≡ r
within-whole {m} {r} x e = sym (take_all (length r) m (omega arith)) ∙ within_all x

-- ---- of octets, the front and the rest are octets
pub octets-left : (a b : List ℕ) {xs : List ℕ} → a ++ b ≡ xs → AllOctets xs → AllOctets a
octets-left a b e o i = go (dec_lt i (length a))
  where
    go : Dec (i < length a) → octet a i < 256
    go (yes h) = subst (λ (x : ℕ). x < 256) (ap (λ (l : List ℕ). octet l i) (sym e) ∙ get_or-append a b 0 i h) (o i)
    go (no h) = omega (arith, get_or-eq_default a 0 {n = i} (omega arith))

pub octets-right : (a b : List ℕ) {xs : List ℕ} → a ++ b ≡ xs → AllOctets xs → AllOctets b
octets-right a b e o i = subst (λ (x : ℕ). x < 256) (ap (λ (l : List ℕ). octet l (length a + i)) (sym e) ∙ get_or-append-add a b i 0) (o (length a + i))

-- of zeros, each is 0
pub zero-at : (n i : ℕ) → octet (replicate n 0) i ≡ 0
zero-at zero i = refl
zero-at (suc n) zero = refl
zero-at (suc n) (suc i) = zero-at n i
