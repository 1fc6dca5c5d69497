-- A message in compact form, of octets, holds its own lengths and pointers: none exceeds 255.
use Prim.Native.Nat.{ℕ, suc, ◌+◌, ◌≤◌, ◌<◌}
use mathlib.Core.Path.{◌≡◌, refl, sym, ◌∙◌, subst}
use mathlib.Core.Bool.{Bool, true, false}
use mathlib.Core.List.{List, [], ◌∷◌, ◌++◌, map}
use native.Mathlib.Omega.{arith}
use borrow.Author.Tests.{le-ltb}
use lib.Dec.{ltb}
use lib.ListN.{length}
use Rattle.octets.specs.Octet.{AllOctets}
use Rattle.octets.specs.Choice.{when◌then◌else◌}
use Rattle.octets.proofs.Octet.{Within, within-right, within-head}
use Rattle.layout.specs.declared.Shape.{Shape}
use Rattle.parts.specs.declared.Parts.{Parts}
use Rattle.runs.specs.Params.{Param}
use Rattle.writing.specs.Write.{contents_in, variables, marks, exceeds}
use Rattle.writing.specs.Compact.{Compact, said_by}
use Rattle.parts.specs.Spans.{part_of}
use Rattle.writing.proofs.Placed.{Pieces, pieced}
use Rattle.writing.proofs.Again.{compact-is}

one-within : (x : ℕ) (t : Bool) → x < 256 → (when ltb 255 x then true else t) ≡ t
one-within x t h = let l : x ≤ 255 = omega arith in simp (le-ltb _ _ l)

within_held : (m : List ℕ) (u : ℕ) (r : List ℕ) → AllOctets m → Within m u r → exceeds r ≡ false
unfolding exceeds
within_held m u [] o w = refl
within_held m u (x ∷ xs) o w = one-within x (exceeds xs) (subst (λ (k : ℕ). k < 256) (within-head w) (o u)) ∙ within_held m (u + 1) xs o (within-right (x ∷ []) xs w)

lengths-held : (m : List ℕ) (u : ℕ) (vs : List (List ℕ)) → AllOctets m → Within m u (variables vs) → exceeds (map length vs) ≡ false
unfolding exceeds variables
lengths-held m u [] o w = refl
lengths-held m u (c ∷ cs) o w =
    one-within (length c) (exceeds (map length cs)) (subst (λ (k : ℕ). k < 256) (within-head w) (o u))
    ∙ lengths-held m (u + suc (length c)) cs o (within-right (length c ∷ c) (variables cs) w)

exceeds-append : (a b : List ℕ) → exceeds a ≡ false → exceeds (a ++ b) ≡ exceeds b
unfolding exceeds
exceeds-append [] b h = refl
exceeds-append (x ∷ a) b h = go (ltb 255 x) h (exceeds-append a b)
  where
    go : (t : Bool) → (when t then true else exceeds a) ≡ false → (exceeds a ≡ false → exceeds (a ++ b) ≡ exceeds b) → (when t then true else exceeds (a ++ b)) ≡ exceeds b
    go true h ih = absurd (let z : ◌≡◌ {A = ℕ} 0 1 = cc in omega arith)
    go false h ih = ih h

pub compact-held : (m : List ℕ) (w : ℕ) (s : Shape) (p : Parts) (qs : List Param) → AllOctets m → Compact m w s p qs → exceeds (marks s.opt (contents_in s (said_by m w p)) (part_of m p.optional)) ≡ false
unfolding marks
compact-held m w s p qs o x =
    let d = said_by m w p in
    let e = compact-is m w s p qs x in
    let y : Pieces m s.opt d.head d.kind d.fixed (contents_in s (said_by m w p)) d.run =
    subst (λ (k : List ℕ). Pieces k s.opt d.head d.kind d.fixed (contents_in s (said_by m w p)) d.run) (sym e) (pieced s.opt d.head d.kind d.fixed (contents_in s (said_by m w p)) d.run) in
    exceeds-append _ _ (lengths-held m _ (contents_in s (said_by m w p)) o y.contents)
    ∙ exceeds-append _ _ (within_held m _ _ o y.pointing)
    ∙ within_held m _ _ o y.lasts
