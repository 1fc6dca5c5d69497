-- What is written of octets is octets.
use Prim.Native.Nat.{ℕ, zero, suc, ◌<◌}
use mathlib.Core.Path.{◌≡◌, refl, subst, sym}
use mathlib.Core.Bool.{Bool, true, false}
use mathlib.Core.List.{List, [], ◌∷◌, ◌++◌, map}
use native.Mathlib.Omega.{arith}
use borrow.Author.Tests.{ltb-false}
use lib.Dec.{ltb}
use lib.ListN.{length, take, drop}
use Rattle.octets.specs.Octet.{AllOctets}
use Rattle.octets.specs.Choice.{when◌then◌else◌}
use Rattle.octets.specs.Answer.{accepted}
use Rattle.parts.specs.declared.Span.{Span}
use Rattle.layout.specs.declared.Shape.{Shape}
use Rattle.parts.specs.Spans.{span_size, part_of}
use Rattle.measuring.proofs.Near.{neither}
use Rattle.writing.specs.Write.{Order, contents_in, pointers, ahead, variables, run_pointer, closed_run_lem, gap_of, form_of, marks, exceeds, written_of}
use Rattle.writing.proofs.Taken.{written-taken}

pub all_nil : AllOctets []
all_nil i = omega arith

pub all_cons : (x : ℕ) (l : List ℕ) → x < 256 → AllOctets l → AllOctets (x ∷ l)
all_cons x l h a zero = h
all_cons x l h a (suc i) = a i

all_append : (a b : List ℕ) → AllOctets a → AllOctets b → AllOctets (a ++ b)
all_append [] b x y i = y i
all_append (c ∷ a) b x y zero = x 0
all_append (c ∷ a) b x y (suc i) = all_append a b (λ j. x (suc j)) y i

-- a part of a message of octets is octets
all_take : (n : ℕ) (l : List ℕ) → AllOctets l → AllOctets (take n l)
all_take zero [] a i = all_nil i
all_take zero (x ∷ l) a i = all_nil i
all_take (suc n) [] a i = all_nil i
all_take (suc n) (x ∷ l) a i = all_cons x (take n l) (a 0) (all_take n l (λ j. a (suc j))) i

all_drop : (n : ℕ) (l : List ℕ) → AllOctets l → AllOctets (drop n l)
all_drop zero [] a i = a i
all_drop zero (x ∷ l) a i = a i
all_drop (suc n) [] a i = a i
all_drop (suc n) (x ∷ l) a i = all_drop n l (λ j. a (suc j)) i

pub part-octets : (m : List ℕ) (s : Span) → AllOctets m → AllOctets (part_of m s)
part-octets m s a = all_take (span_size s) (drop s.from m) (all_drop s.from m a)

-- numbers of which none exceeds 255 are octets
held-octets : (l : List ℕ) → exceeds l ≡ false → AllOctets l
unfolding exceeds
held-octets [] h i = all_nil i
held-octets (x ∷ xs) h i =
    let y = neither (ltb 255 x) (exceeds xs) h in
    all_cons x xs (let k = ltb-false 255 x y.0 in omega arith) (held-octets xs y.1) i

held-split : (a b : List ℕ) → exceeds (a ++ b) ≡ false → (exceeds a ≡ false) × (exceeds b ≡ false)
unfolding exceeds
held-split [] b h = (refl, h)
held-split (x ∷ a) b h = go (ltb 255 x) h (held-split a b)
  where
    go : (t : Bool) → (when t then true else exceeds (a ++ b)) ≡ false → (exceeds (a ++ b) ≡ false → (exceeds a ≡ false) × (exceeds b ≡ false)) → ((when t then true else exceeds a) ≡ false) × (exceeds b ≡ false)
    go true h ih = absurd (let z : ◌≡◌ {A = ℕ} 0 1 = cc in omega arith)
    go false h ih = ih h

-- contents of octets
Each : List (List ℕ) → Type 0
Each [] = Unit {0}
Each (c ∷ cs) = AllOctets c × Each cs

each_take : (n : ℕ) (vs : List (List ℕ)) → Each vs → Each (take n vs)
unfolding Each
each_take zero [] e = tt
each_take zero (c ∷ cs) e = tt
each_take (suc n) [] e = tt
each_take (suc n) (c ∷ cs) e = (e.0, each_take n cs e.1)

variables-octets : (vs : List (List ℕ)) → Each vs → exceeds (map length vs) ≡ false → AllOctets (variables vs)
unfolding Each exceeds variables
variables-octets [] e h i = all_nil i
variables-octets (c ∷ cs) e h i =
    let y = neither (ltb 255 (length c)) (exceeds (map length cs)) h in
    all_append (length c ∷ c) (variables cs) (all_cons (length c) c (let k = ltb-false 255 (length c) y.0 in omega arith) e.0) (variables-octets cs e.1 y.1) i

closed-octets : (r : List ℕ) → AllOctets r → AllOctets (closed_run_lem r)
unfolding closed_run_lem
closed-octets [] a i = all_nil i
closed-octets (x ∷ xs) a i = all_append (x ∷ xs) (0 ∷ []) a (all_cons 0 [] (omega arith) all_nil) i

pub written-octets : (s : Shape) (most : ℕ) (o : Order) (n : ℕ) (ys : List ℕ) → AllOctets o.head → o.kind < 256 → AllOctets o.fixed → AllOctets o.first → AllOctets o.second → AllOctets o.third → AllOctets o.run
    → written_of s most o ≡ accepted (n, ys) → AllOctets ys
unfolding Each form_of marks
written-octets s most o n ys head kind fixed first second third run e =
    let t = written-taken s most o n ys e in
    let vs = contents_in s o in
    let h₁ = held-split (map length vs) _ t.held in
    let h₂ = held-split (pointers (gap_of s.opt vs) vs) _ h₁.1 in
    subst AllOctets (sym t.octets)
    (all_append o.head _ head
    (all_append (o.kind ∷ o.fixed) _ (all_cons o.kind o.fixed kind fixed)
    (all_append (pointers (gap_of s.opt vs) vs) _ (held-octets _ h₂.0)
    (all_append (run_pointer s.opt (ahead (gap_of s.opt vs) vs) o.run) _ (held-octets _ h₂.1)
    (all_append (variables vs) (closed_run_lem o.run) (variables-octets vs (each_take s.vars _ (first, (second, (third, tt)))) h₁.0) (closed-octets o.run run))))))
