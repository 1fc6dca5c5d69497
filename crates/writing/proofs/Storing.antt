-- Pieces stored one after the other are their join.
use Prim.Native.Nat.{ℕ, suc, ◌+◌, ◌≤◌, ◌<◌}
use mathlib.Core.Path.{◌≡◌, refl, sym, ◌∙◌, ap}
use mathlib.Core.List.{List, [], ◌∷◌, ◌++◌}
use native.Mathlib.Omega.{arith}
use native.Mathlib.Numerals.{add-one}
use lib.ListN.{length, get_or, take, set, length-append}
use lib.Seq.{sets, length-sets, take-suc, take_all, length-take-le}
use mathlib.Core.Bool.{Bool, true, false}
use Rattle.writing.specs.Write.{closed_run_lem}
use lib.Dec.{ltb}
use Rattle.layout.specs.declared.Shape.{Shape}
use Rattle.measuring.specs.declared.Pointers.{Pointers}
use Rattle.measuring.specs.Measure.{beyond_of}
use Rattle.writing.specs.Inside.{pointer_pieces, Near, Stored, pointer_if, part_if}

sets-at : (l : List ℕ) {i j : ℕ} (b : List ℕ) → i ≡ j → sets l i b ≡ sets l j b
sets-at l b e = ap (λ k. sets l k b) e

pub sets-append : (a : List ℕ) (l : List ℕ) (i : ℕ) (b : List ℕ) → sets (sets l i a) (i + length a) b ≡ sets l i (a ++ b)
sets-append [] l i b = let e : i + 0 ≡ i = omega arith in sets-at l b e
sets-append (x ∷ a) l i b = let e : i + suc (length a) ≡ suc i + length a = omega arith in sets-at (sets (set l i x) (suc i) a) b e ∙ sets-append a (set l i x) (suc i) b

pub stored-nothing : (l : List ℕ) (at : ℕ) → Stored l at [] at l
stored-nothing l at = record { place = omega arith; made = refl }

pub stored_one : (l : List ℕ) (at b : ℕ) → Stored l at (b ∷ []) (at + 1) (set l at b)
stored_one l at b = record { place = refl; made = refl }

pub stored-length : {l : List ℕ} {at : ℕ} {ys : List ℕ} {r : ℕ} {k : List ℕ} → Stored l at ys r k → length k ≡ length l
stored-length {l} {at} {ys} p = ap length p.made ∙ length-sets l at ys

pub stored-join : {l k n : List ℕ} {at a b : ℕ} {ys zs : List ℕ} → Stored l at ys a k → Stored k a zs b n → Stored l at (ys ++ zs) b n
stored-join {l} {k} {n} {at} {a} {b} {ys} {zs} p q = record {
  place = omega (arith, p.place, q.place, length-append ys zs);
  made = q.made ∙ ap (λ z. sets z a zs) p.made ∙ sets-at (sets l at ys) zs p.place ∙ sets-append ys l at zs;
}

-- room for the next piece, after one
pub room_after : {l k : List ℕ} {at a : ℕ} {ys : List ℕ} (zs : List ℕ) → Stored l at ys a k → at + length (ys ++ zs) ≤ length l → a + length zs ≤ length k
room_after {ys = ys} zs p h = omega (arith, p.place, length-append ys zs, stored-length p)

pub room-first : (ys zs : List ℕ) (at n : ℕ) → at + length (ys ++ zs) ≤ n → at + length ys ≤ n
room-first ys zs at n h = omega (arith, length-append ys zs)

-- a turn of the copying loop
pub stored-turn : (l k src : List ℕ) (at j : ℕ) → j < length src → Stored l at (take j src) (at + j) k → Stored l at (take (j + 1) src) (at + (j + 1)) (set k (at + j) (get_or src j 0))
stored-turn l k src at j h p =
    let e : take (j + 1) src ≡ take j src ++ (get_or src j 0 ∷ []) = ap (λ x. take x src) (add-one j) ∙ take-suc src j 0 h in
    let r = stored-join p (stored_one k (at + j) (get_or src j 0)) in
    let n : length (take (j + 1) src) ≡ j + 1 = length-take-le (j + 1) src (omega arith) in
    record { place = omega arith; made = r.made ∙ ap (sets l at) (sym e) }

pub stored-all : (l k src : List ℕ) (at j : ℕ) → j ≤ length src → length src ≤ j → Stored l at (take j src) (at + j) k → Stored l at src (at + j) k
stored-all l k src at j a b p = record { place = omega arith; made = p.made ∙ ap (sets l at) (take_all j src b) }

-- a piece that may not be wanted
pub stored-pointer : {l k : List ℕ} {at r p : ℕ} (w : Bool) → w ≡ true → Stored l at (p ∷ []) r k → Stored l at (pointer_if w p) r k
stored-pointer w e x = rw e x

pub stored-no-pointer : (l : List ℕ) (at p : ℕ) (w : Bool) → w ≡ false → Stored l at (pointer_if w p) at l
stored-no-pointer l at p w e = rw e (stored-nothing l at)

pub stored-part : {l k : List ℕ} {at r : ℕ} {c : List ℕ} (w : Bool) → w ≡ true → Stored l at (length c ∷ c) r k → Stored l at (part_if w c) r k
stored-part w e x = rw e x

pub stored-no-part : (l : List ℕ) (at : ℕ) (c : List ℕ) (w : Bool) → w ≡ false → Stored l at (part_if w c) at l
stored-no-part l at c w e = rw e (stored-nothing l at)

pub stored-no-run : (l run : List ℕ) (at : ℕ) → length run ≡ 0 → Stored l at (closed_run_lem run) at l
unfolding closed_run_lem
stored-no-run l [] at e = stored-nothing l at
stored-no-run l (x ∷ xs) at e = absurd (omega arith)

pub closed_run : (run : List ℕ) → (length run ≡ 0 → ⊥) → closed_run_lem run ≡ run ++ (0 ∷ [])
unfolding closed_run_lem
closed_run [] h = absurd (h refl)
closed_run (x ∷ xs) h = refl

-- the pointers, one after the other: a caller hands over what its calls ensure
module _ (s : Shape) (x : Pointers) (at : ℕ) (l : List ℕ) (room : at + length (pointer_pieces s x) ≤ length l) (near : Near s x) where
  one : List ℕ
  one = pointer_if (ltb 0 s.vars) x.first

  two : List ℕ
  two = pointer_if (ltb 1 s.vars) x.second

  three : List ℕ
  three = pointer_if (ltb 2 s.vars) x.third

  four : List ℕ
  four = pointer_if s.opt x.last

  pub pointers-room₁ : (at + length (pointer_if (ltb 0 s.vars) x.first) ≤ length l) × (beyond_of (ltb 0 s.vars) x.first ≡ false)
  unfolding one two three four
  pointers-room₁ = (room-first one (two ++ (three ++ four)) at (length l) room, near.first)

  pub pointers-room₂ : {k : List ℕ} {p : ℕ} → Stored l at (pointer_if (ltb 0 s.vars) x.first) p k → (p + length (pointer_if (ltb 1 s.vars) x.second) ≤ length k) × (beyond_of (ltb 1 s.vars) x.second ≡ false)
  unfolding one two three four
  pointers-room₂ {k} {p} y = (room-first two (three ++ four) p (length k) (room_after (two ++ (three ++ four)) y room), near.second)

  pub pointers-room₃ : {k m : List ℕ} {p q : ℕ} → Stored l at (pointer_if (ltb 0 s.vars) x.first) p k → Stored k p (pointer_if (ltb 1 s.vars) x.second) q m
      → (q + length (pointer_if (ltb 2 s.vars) x.third) ≤ length m) × (beyond_of (ltb 2 s.vars) x.third ≡ false)
  unfolding one two three four
  pointers-room₃ {k} {m} {p} {q} y z = (room-first three four q (length m) (room_after (three ++ four) z (room_after (two ++ (three ++ four)) y room)), near.third)

  pub pointers-room₄ : {k m n : List ℕ} {p q t : ℕ} → Stored l at (pointer_if (ltb 0 s.vars) x.first) p k → Stored k p (pointer_if (ltb 1 s.vars) x.second) q m
      → Stored m q (pointer_if (ltb 2 s.vars) x.third) t n → (t + length (pointer_if s.opt x.last) ≤ length n) × (beyond_of s.opt x.last ≡ false)
  unfolding one two three four
  pointers-room₄ y z w = (room_after four w (room_after (three ++ four) z (room_after (two ++ (three ++ four)) y room)), near.last)
