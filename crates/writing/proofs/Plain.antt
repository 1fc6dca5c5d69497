-- The compact form in plain numbers says the same as the compact form, for what fits the shape.
use Prim.Native.Nat.{ℕ, zero, suc, ◌+◌, ◌≤◌, ◌<◌}
use mathlib.Core.Path.{◌≡◌, refl, sym, ◌∙◌, ap}
use mathlib.Core.Bool.{Bool, true, false}
use mathlib.Core.List.{List, [], ◌∷◌, ◌++◌, append_assoc, append-nil}
use mathlib.Core.Logic.{⊎_elim, ◌↔◌}
use native.Mathlib.Omega.{arith}
use borrow.Author.Tests.{lt-ltb, le-ltb, eq-eqb, ltb-false, eqb-true}
use lib.Dec.{ltb, eqb}
use lib.ListN.{length, take, length-append}
use lib.Seq.{take-nil}
use Rattle.octets.specs.Choice.{when◌then◌else◌}
use Rattle.octets.proofs.Choice.{chosen}
use Rattle.layout.specs.declared.Shape.{Shape}
use Rattle.layout.specs.Container.{bit}
use Rattle.measuring.specs.Measure.{lacks_of, unfit_of, count_of, gap, reach, pointers_of_lem, too_long_lem, too_far_lem, unheld, run_size_lem, size_of, frame_of}
use Rattle.measuring.proofs.Near.{neither}
use Rattle.writing.specs.Write.{Order, lengths_of, contents_in, pointers, ahead, variables, run_pointer, closed_run_lem, gap_of, form_of, order_octets, marks, exceeds, Fits}
use Rattle.writing.specs.Inside.{pointer_if, part_if, head_pieces, part_pieces, pieces}

empty_of : (c : List ℕ) → length c ≤ 0 → c ≡ []
empty_of [] h = refl
empty_of (x ∷ xs) h = absurd (omega arith)

lacks-not : (n k : ℕ) (c : List ℕ) → lacks_of n k c ≡ false → n ≤ k → c ≡ []
lacks-not n k c h l = empty_of c (ltb-false 0 (length c) (simp (le-ltb _ _ l) at h))

not-lacks : (n k : ℕ) (c : List ℕ) → (n ≤ k → c ≡ []) → lacks_of n k c ≡ false
not-lacks n k c h = go (ltb k n) refl
  where
    go : (t : Bool) → ltb k n ≡ t → (when t then false else ltb 0 (length c)) ≡ false
    go true e = refl
    go false e = ap (λ l. ltb 0 (length l)) (h (ltb-false _ _ e))

run-last : (o : Bool) (r : List ℕ) → (o ≡ false → r ≡ []) → (t : Bool) → o ≡ t → (when t then false else ltb 0 (length r)) ≡ false
run-last o r h true e = refl
run-last o r h false e = ap (λ l. ltb 0 (length l)) (h e)

-- 10 is not given exactly where the order fits the shape
pub fits-exactly : (s : Shape) (o : Order) → (unfit_of s o.fixed o.first o.second o.third o.run ≡ false) ↔ Fits s o
unfolding unfit_of
fits-exactly s o = (there, back)
  where
    there : unfit_of s o.fixed o.first o.second o.third o.run ≡ false → Fits s o
    there h =
        let few = neither (ltb 3 s.vars) _ h in
        ⊎_elim
        (λ t.
        let a = neither (lacks_of s.vars 0 o.first) _ t.1 in
        let b = neither (lacks_of s.vars 1 o.second) _ a.1 in
        let c = neither (lacks_of s.vars 2 o.third) _ b.1 in
        record {
          few = ltb-false _ _ few.0;
          fixed = eqb-true _ _ t.0;
          first = lacks-not s.vars 0 o.first a.0;
          second = lacks-not s.vars 1 o.second b.0;
          third = lacks-not s.vars 2 o.third c.0;
          run = λ e. empty_of o.run (ltb-false 0 (length o.run) (simp e at c.1));
        })
        (λ f. absurd (let e = f.1 in let z : ◌≡◌ {A = ℕ} 0 1 = cc in omega arith))
        (chosen (eqb (length o.fixed) s.fixed) few.1)

    back : Fits s o → unfit_of s o.fixed o.first o.second o.third o.run ≡ false
    back f =
        let last : (t : Bool) → s.opt ≡ t → (when t then false else ltb 0 (length o.run)) ≡ false = (λ t e. run-last s.opt o.run f.run t e) in
        simp (le-ltb _ _ f.few, eq-eqb _ _ f.fixed, not-lacks s.vars 0 o.first f.first, not-lacks s.vars 1 o.second f.second, not-lacks s.vars 2 o.third f.third)
        (last s.opt refl)

-- how many variable parts there are: 0, 1, 2, or three
pub data Count : ℕ → Type 0 where
  none : Count 0
  one : Count 1
  two : Count 2
  more : (n : ℕ) → Count (suc (suc (suc n)))

pub counted : (n : ℕ) → Count n
counted zero = none
counted (suc zero) = one
counted (suc (suc zero)) = two
counted (suc (suc (suc n))) = more n

three₀ : (n : ℕ) → ltb 0 (suc (suc (suc n))) ≡ true
three₀ n = let h : 0 < suc (suc (suc n)) = omega arith in lt-ltb _ _ h

three₁ : (n : ℕ) → ltb 1 (suc (suc (suc n))) ≡ true
three₁ n = let h : 1 < suc (suc (suc n)) = omega arith in lt-ltb _ _ h

three₂ : (n : ℕ) → ltb 2 (suc (suc (suc n))) ≡ true
three₂ n = let h : 2 < suc (suc (suc n)) = omega arith in lt-ltb _ _ h

three₃ : (n : ℕ) → ltb (suc (suc (suc n))) 3 ≡ false
three₃ n = let h : 3 ≤ suc (suc (suc n)) = omega arith in le-ltb _ _ h

run-pointer : (o : Bool) (g : ℕ) (r : List ℕ) → run_pointer o g r ≡ pointer_if o (reach (length r) g)
unfolding run_pointer
run-pointer false g r = refl
run-pointer true g [] = refl
run-pointer true g (x ∷ xs) = let h : 0 < suc (length xs) = omega arith in simp (lt-ltb _ _ h)

-- of n variable parts with contents a, b and c, those that are not wanted empty
module _ (o : Bool) (a b c r : List ℕ) where
  run_at : (g h : ℕ) → g ≡ h → run_pointer o g r ≡ pointer_if o (reach (length r) h)
  run_at g h e = run-pointer o g r ∙ ap (λ x. pointer_if o (reach (length r) x)) e

  pub plain-pointers : (n : ℕ) → Count n → (n ≤ 0 → a ≡ []) → (n ≤ 1 → b ≡ []) → (n ≤ 2 → c ≡ [])
      → pointers (gap_of o (take n (a ∷ b ∷ c ∷ []))) (take n (a ∷ b ∷ c ∷ [])) ++ run_pointer o (ahead (gap_of o (take n (a ∷ b ∷ c ∷ []))) (take n (a ∷ b ∷ c ∷ []))) r
      ≡ pointer_if (ltb 0 n) (count_of n + bit o)
      ++ (pointer_if (ltb 1 n) (count_of n + bit o + length a) ++ (pointer_if (ltb 2 n) (count_of n + bit o + length a + length b) ++ pointer_if o (reach (length r) (count_of n + bit o + length a + length b + length c))))
  unfolding pointers ahead
  plain-pointers n none ha hb hc = rw (ha (omega arith), hb (omega arith), hc (omega arith)) (run_at (0 + bit o) (0 + bit o + 0 + 0 + 0) (omega arith))
  plain-pointers n one ha hb hc = rw (hb (omega arith), hc (omega arith)) (ap (λ l. (1 + bit o) ∷ l) (run_at (1 + bit o + length a) (1 + bit o + length a + 0 + 0) (omega arith)))
  plain-pointers n two ha hb hc = rw (hc (omega arith)) (ap (λ l. (2 + bit o) ∷ (2 + bit o + length a) ∷ l) (run_at (2 + bit o + length a + length b) (2 + bit o + length a + length b + 0) (omega arith)))
  plain-pointers n (more k) ha hb hc =
      simp (take-nil {A = List ℕ} k, three₀ k, three₁ k, three₂ k, three₃ k)
      (ap (λ l. (3 + bit o) ∷ (3 + bit o + length a) ∷ (3 + bit o + length a + length b) ∷ l) (run-pointer o (3 + bit o + length a + length b + length c) r))

  pub plain-parts : (n : ℕ) → Count n → variables (take n (a ∷ b ∷ c ∷ [])) ++ closed_run_lem r ≡ part_pieces n a b c r
  unfolding variables
  plain-parts n none = refl
  plain-parts n one = ap (λ l. (length a ∷ l) ++ closed_run_lem r) (append-nil a)
  plain-parts n two = append_assoc (length a ∷ a) ((length b ∷ b) ++ []) (closed_run_lem r) ∙ ap (λ l. (length a ∷ a) ++ ((length b ∷ l) ++ closed_run_lem r)) (append-nil b)
  plain-parts n (more k) =
      simp (take-nil {A = List ℕ} k, three₀ k, three₁ k, three₂ k)
      (append_assoc (length a ∷ a) ((length b ∷ b) ++ ((length c ∷ c) ++ [])) (closed_run_lem r)
      ∙ ap (λ l. (length a ∷ a) ++ l) (append_assoc (length b ∷ b) ((length c ∷ c) ++ []) (closed_run_lem r) ∙ ap (λ l. (length b ∷ b) ++ ((length c ∷ l) ++ closed_run_lem r)) (append-nil c)))

-- the pieces as they are stored are the compact form
pub plain-octets : (s : Shape) (o : Order) → Fits s o → pieces s (frame_of s (lengths_of o)) o.head o.kind o.fixed o.first o.second o.third o.run ≡ order_octets s o
unfolding form_of
plain-octets s o f =
    let n = counted s.vars in
    let p = plain-pointers s.opt o.first o.second o.third o.run s.vars (counted s.vars) f.first f.second f.third in
    let q = plain-parts s.opt o.first o.second o.third o.run s.vars (counted s.vars) in
    let ps = pointers (gap_of s.opt (contents_in s o)) (contents_in s o) in
    let rp = run_pointer s.opt (ahead (gap_of s.opt (contents_in s o)) (contents_in s o)) o.run in
    let vs = variables (contents_in s o) ++ closed_run_lem o.run in
    ap (λ l. head_pieces o.head o.kind o.fixed ++ l) ((λ i. sym p i ++ sym q i) ∙ append_assoc ps rp vs)
    ∙ append_assoc o.head (o.kind ∷ o.fixed) (ps ++ (rp ++ vs))

-- ---- how many octets there are
closed-length : (r : List ℕ) → length (closed_run_lem r) ≡ run_size_lem (length r)
unfolding closed_run_lem
closed-length [] = refl
closed-length (x ∷ xs) = let h : 0 < suc (length xs) = omega arith in simp (lt-ltb _ _ h) (omega (arith, length-append xs (0 ∷ [])))

pointer-length : (w : Bool) (p : ℕ) → length (pointer_if w p) ≡ bit w
pointer-length true p = refl
pointer-length false p = refl

part_length : (w : Bool) (c : List ℕ) → (w ≡ false → c ≡ []) → length (part_if w c) ≡ bit w + length c
part_length true c h = omega arith
part_length false c h = let e = ap length (h refl) in omega arith

count_bits : (n : ℕ) → Count n → bit (ltb 0 n) + bit (ltb 1 n) + bit (ltb 2 n) ≡ count_of n
count_bits n none = refl
count_bits n one = refl
count_bits n two = refl
count_bits n (more k) = simp (three₀ k, three₁ k, three₂ k, three₃ k)

pub plain_size : (s : Shape) (o : Order) → Fits s o
    → length (pieces s (frame_of s (lengths_of o)) o.head o.kind o.fixed o.first o.second o.third o.run) ≡ size_of s (lengths_of o)
plain_size s o f =
    let n = s.vars in
    let la = length o.first in
    let lb = length o.second in
    let lc = length o.third in
    let lr = length o.run in
    let g = gap s in
    let w₁ = pointer_if (ltb 0 n) g in
    let w₂ = pointer_if (ltb 1 n) (g + la) in
    let w₃ = pointer_if (ltb 2 n) (g + la + lb) in
    let w₄ = pointer_if s.opt (reach lr (g + la + lb + lc)) in
    let p₁ = part_if (ltb 0 n) o.first in
    let p₂ = part_if (ltb 1 n) o.second in
    let p₃ = part_if (ltb 2 n) o.third in
    let p₄ = closed_run_lem o.run in
    let hs = head_pieces o.head o.kind o.fixed in
    omega (
      arith,
      length-append hs ((w₁ ++ (w₂ ++ (w₃ ++ w₄))) ++ (p₁ ++ (p₂ ++ (p₃ ++ p₄)))),
      length-append o.head ((o.kind ∷ []) ++ o.fixed),
      length-append (w₁ ++ (w₂ ++ (w₃ ++ w₄))) (p₁ ++ (p₂ ++ (p₃ ++ p₄))),
      length-append w₁ (w₂ ++ (w₃ ++ w₄)),
      length-append w₂ (w₃ ++ w₄),
      length-append w₃ w₄,
      length-append p₁ (p₂ ++ (p₃ ++ p₄)),
      length-append p₂ (p₃ ++ p₄),
      length-append p₃ p₄,
      pointer-length (ltb 0 n) g,
      pointer-length (ltb 1 n) (g + la),
      pointer-length (ltb 2 n) (g + la + lb),
      pointer-length s.opt (reach lr (g + la + lb + lc)),
      part_length (ltb 0 n) o.first (λ e. f.first (ltb-false _ _ e)),
      part_length (ltb 1 n) o.second (λ e. f.second (ltb-false _ _ e)),
      part_length (ltb 2 n) o.third (λ e. f.third (ltb-false _ _ e)),
      closed-length o.run,
      count_bits n (counted n),
      f.fixed,
    )

-- ---- 12 in plain numbers
last-exceeds : (o : Bool) (r : List ℕ) (g : ℕ) → (o ≡ false → r ≡ []) → exceeds (pointer_if o (reach (length r) g)) ≡ ltb 255 (reach (length r) g)
unfolding exceeds
last-exceeds false r g h = rw (h refl) refl
last-exceeds true r g h = both (ltb 255 (reach (length r) g))
  where
    both : (t : Bool) → (when t then true else false) ≡ t
    both true = refl
    both false = refl

first-within : (o : Bool) (k : ℕ) (x : Bool) → k ≤ 3 → (when ltb 255 (k + bit o) then true else x) ≡ x
first-within true k x h = let l : k + 1 ≤ 255 = omega arith in simp (le-ltb _ _ l)
first-within false k x h = let l : k + 0 ≤ 255 = omega arith in simp (le-ltb _ _ l)

-- one of three, or a fourth
three-or : (t u v w : Bool) → (when t then true else when u then true else when v then true else w) ≡ (when (when t then true else when u then true else v) then true else w)
three-or true u v w = refl
three-or false true v w = refl
three-or false false v w = refl

module _ (o : Bool) (a b c r : List ℕ) (hr : o ≡ false → r ≡ []) where
  last : (g h : ℕ) → g ≡ h → exceeds (run_pointer o g r) ≡ ltb 255 (reach (length r) h)
  last g h e = ap exceeds (run-pointer o g r) ∙ last-exceeds o r g hr ∙ ap (λ x. ltb 255 (reach (length r) x)) e

  plain-marks : (n : ℕ) → Count n → (n ≤ 0 → a ≡ []) → (n ≤ 1 → b ≡ []) → (n ≤ 2 → c ≡ [])
      → exceeds (marks o (take n (a ∷ b ∷ c ∷ [])) r)
      ≡ (when ltb 255 (length a) then true else when ltb 255 (length b) then true else when ltb 255 (length c) then true else too_far_lem n (record {
        first = count_of n + bit o;
        second = count_of n + bit o + length a;
        third = count_of n + bit o + length a + length b;
        last = reach (length r) (count_of n + bit o + length a + length b + length c);
      }))
  unfolding marks pointers ahead exceeds too_far_lem
  plain-marks n none ha hb hc = rw (ha (omega arith), hb (omega arith), hc (omega arith)) (last (0 + bit o) (0 + bit o + 0 + 0 + 0) (omega arith))
  plain-marks n one ha hb hc =
      rw (hb (omega arith), hc (omega arith))
      (ap (λ x. when ltb 255 (length a) then true else x) (first-within o 1 (exceeds (run_pointer o (1 + bit o + length a) r)) (omega arith) ∙ last (1 + bit o + length a) (1 + bit o + length a + 0 + 0) (omega arith)))
  plain-marks n two ha hb hc =
      rw (hc (omega arith))
      (ap (λ x. when ltb 255 (length a) then true else when ltb 255 (length b) then true else x)
      (first-within o 2 (when ltb 255 (2 + bit o + length a) then true else exceeds (run_pointer o (2 + bit o + length a + length b) r)) (omega arith)
      ∙ ap (λ x. when ltb 255 (2 + bit o + length a) then true else x) (last (2 + bit o + length a + length b) (2 + bit o + length a + length b + 0) (omega arith))))
  plain-marks n (more k) ha hb hc =
      simp (take-nil {A = List ℕ} k, three₁ k, three₂ k, three₃ k)
      (ap (λ x. when ltb 255 (length a) then true else when ltb 255 (length b) then true else when ltb 255 (length c) then true else x)
      (first-within o 3 (when ltb 255 (3 + bit o + length a) then true else when ltb 255 (3 + bit o + length a + length b) then true else exceeds (run_pointer o (3 + bit o + length a + length b + length c) r)) (omega arith)
      ∙ ap (λ x. when ltb 255 (3 + bit o + length a) then true else when ltb 255 (3 + bit o + length a + length b) then true else x) (last (3 + bit o + length a + length b + length c) (3 + bit o + length a + length b + length c) refl)))

pub plain-exceeds : (s : Shape) (o : Order) → Fits s o → exceeds (marks s.opt (contents_in s o) o.run) ≡ unheld s (lengths_of o)
unfolding unheld too_long_lem
plain-exceeds s o f =
    plain-marks s.opt o.first o.second o.third o.run f.run s.vars (counted s.vars) f.first f.second f.third
    ∙ three-or (ltb 255 (length o.first)) (ltb 255 (length o.second)) (ltb 255 (length o.third)) (too_far_lem s.vars (pointers_of_lem s (lengths_of o)))
