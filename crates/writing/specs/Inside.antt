-- What only the code's own contracts use: each piece of the compact form as
-- it is stored, one after the other.
-- That the pieces together are the compact form of Write.antt is proved in proofs/Plain.antt.
use Rattle.std.specs.Prelude.{ℕ, ◌+◌, ◌≡◌, Bool, true, false, List, [], ◌∷◌, ◌++◌, length, ltb}
use Rattle.std.proofs.lemmas.List.Edits.{sets}
use Rattle.layout.specs.declared.Shape.{Shape}
use Rattle.measuring.specs.declared.Pointers.{Pointers}
use Rattle.measuring.specs.declared.Frame.{Frame}
use Rattle.measuring.specs.Measure.{beyond_of}
use Rattle.writing.specs.Write.{closed_run_lem}

-- a pointer, where it is wanted
abbrev pub pointer_if : Bool → ℕ → List ℕ
pointer_if true p = p ∷ []
pointer_if false p = []

-- a variable parameter, where it is wanted
abbrev pub part_if : Bool → List ℕ → List ℕ
part_if true c = length c ∷ c
part_if false c = []

-- the pointers that the shape has
abbrev pub pointer_pieces : Shape → Pointers → List ℕ
pointer_pieces s p =
    pointer_if (ltb 0 s.vars) p.first
    ++ (pointer_if (ltb 1 s.vars) p.second
    ++ (pointer_if (ltb 2 s.vars) p.third
    ++ pointer_if s.opt p.last))

-- the variable parameters of n that a shape has, and the optional part
abbrev pub part_pieces : ℕ → List ℕ → List ℕ → List ℕ → List ℕ → List ℕ
part_pieces n a b c r =
    part_if (ltb 0 n) a ++ (part_if (ltb 1 n) b ++ (part_if (ltb 2 n) c ++ closed_run_lem r))

-- the header, the type and the fixed octets
abbrev pub head_pieces : List ℕ → ℕ → List ℕ → List ℕ
head_pieces h k f = h ++ ((k ∷ []) ++ f)

-- all of them
abbrev pub pieces : Shape → Frame → List ℕ → ℕ → List ℕ → List ℕ → List ℕ → List ℕ → List ℕ → List ℕ
pieces s x h k f a b c r =
    head_pieces h k f ++ (pointer_pieces s x.pointers ++ part_pieces s.vars a b c r)

-- the pointers that the shape has are 255 at the most
pub record Near (s : Shape) (p : Pointers) : Type 0 where
  pub first : beyond_of (ltb 0 s.vars) p.first ≡ false
  pub second : beyond_of (ltb 1 s.vars) p.second ≡ false
  pub third : beyond_of (ltb 2 s.vars) p.third ≡ false
  pub last : beyond_of s.opt p.last ≡ false

-- from l to k the octets ys were stored from `at` on, and r is the place past them
pub record Stored (l : List ℕ) (at : ℕ) (ys : List ℕ) (r : ℕ) (k : List ℕ) : Type 0 where
  pub place : r ≡ at + length ys
  pub made : k ≡ sets l at ys
