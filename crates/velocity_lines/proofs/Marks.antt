-- `up` and `down` are the marks, and no other word is one.
use Rattle.std.specs.Prelude.{Option, Some, None}
use Rattle.std.proofs.Common.{◌≡◌, ℕ, Bool, true, false, eqb, ◌↔◌, List, [], ◌∷◌, length, get_or, refl, ap, ◌∙◌, ⊎_elim, arith, eqb-true}
use Rattle.octets.specs.Choice.{when◌then◌else◌}
use Rattle.octets.proofs.Choice.{chosen}
use Rattle.words.specs.Said.{said}
use Rattle.velocity.specs.declared.Mark.{Mark}
use Rattle.velocity.specs.declared.Mark.TheVariants.{Upward, Downward}
use Rattle.velocity_lines.specs.Velocities.{typed_mark}

no-mark : {m : Mark} → None ≡ Some m → ⊥
no-mark e = cc

same-mark : {m k : Mark} → Some m ≡ Some k → m ≡ k
same-mark e = cc

-- the word of a mark
abbrev word_of : Mark → List ℕ
word_of Upward = said "up"
word_of Downward = said "down"

two : (w : List ℕ) → length w ≡ 2 → w ≡ get_or w 0 0 ∷ get_or w 1 0 ∷ []
two [] e = absurd (omega arith)
two (a ∷ []) e = absurd (omega arith)
two (a ∷ b ∷ []) e = refl
two (a ∷ b ∷ c ∷ l) e = absurd (omega arith)

four : (w : List ℕ) → length w ≡ 4 → w ≡ get_or w 0 0 ∷ get_or w 1 0 ∷ get_or w 2 0 ∷ get_or w 3 0 ∷ []
four [] e = absurd (omega arith)
four (a ∷ []) e = absurd (omega arith)
four (a ∷ b ∷ []) e = absurd (omega arith)
four (a ∷ b ∷ c ∷ []) e = absurd (omega arith)
four (a ∷ b ∷ c ∷ d ∷ []) e = refl
four (a ∷ b ∷ c ∷ d ∷ x ∷ l) e = absurd (omega arith)

-- past a test that has to hold
past : {m : Mark} (t : Bool) {x : Option Mark} → (when t then x else None) ≡ Some m → (t ≡ true) × (x ≡ Some m)
past true e = (refl, e)
past false e = absurd (no-mark e)

marked : (w : List ℕ) (m : Mark) → typed_mark w ≡ Some m → w ≡ word_of m
unfolding typed_mark
marked w m e =
    ⊎_elim
    (λ f.
    let a = past (eqb (get_or w 0 0) 117) f.1 in
    let b = past (eqb (get_or w 1 0) 112) a.1 in
    let p = eqb-true (get_or w 0 0) 117 a.0 in
    let q = eqb-true (get_or w 1 0) 112 b.0 in
    two w (eqb-true (length w) 2 f.0) ∙ rw (p, q) refl ∙ ap word_of (same-mark b.1))
    (λ f. ⊎_elim
    (λ g.
    let a = past (eqb (get_or w 0 0) 100) g.1 in
    let b = past (eqb (get_or w 1 0) 111) a.1 in
    let c = past (eqb (get_or w 2 0) 119) b.1 in
    let d = past (eqb (get_or w 3 0) 110) c.1 in
    let p = eqb-true (get_or w 0 0) 100 a.0 in
    let q = eqb-true (get_or w 1 0) 111 b.0 in
    let r = eqb-true (get_or w 2 0) 119 c.0 in
    let s = eqb-true (get_or w 3 0) 110 d.0 in
    four w (eqb-true (length w) 4 g.0) ∙ rw (p, q, r, s) refl ∙ ap word_of (same-mark d.1))
    (λ g. absurd (no-mark g.1))
    (chosen (eqb (length w) 4) f.1))
    (chosen (eqb (length w) 2) e)

pub mark-exactly : (w : List ℕ) (m : Mark) → (typed_mark w ≡ Some m) ↔ (w ≡ word_of m)
unfolding typed_mark
mark-exactly w m = (marked w m, λ e. ap typed_mark e ∙ there m)
  where
    there : (m : Mark) → typed_mark (word_of m) ≡ Some m
    there Upward = refl
    there Downward = refl
