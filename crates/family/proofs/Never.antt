-- Nothing of a family is refused with 9: no fault has that number.
use Prim.Native.Nat.{ℕ}
use mathlib.Core.Path.{◌≡◌, refl}
use mathlib.Core.List.{List, [], ◌∷◌, ◌++◌}
use native.Mathlib.Omega.{arith}
use Rattle.std.specs.Prelude.{Option, Some, None}
use Rattle.octets.specs.Answer.{refused}
use Rattle.octets.specs.Faults.{fault}
use Rattle.octets.specs.Filled.{room_fault}
use Rattle.octets.proofs.Places.{Each, each_append, refusal-so}
use Rattle.layout.specs.Container.{kind_at}
use Rattle.layout.specs.Faults.{row_faults, message_faults}
use Rattle.layout.specs.declared.Shape.{Shape}
use Rattle.writing.specs.Write.{Order}
use Rattle.family.specs.Family.{Family, read_in, family_write_in, family_write_of, rewrite_in, rewrite_of, family_compact_of}
use Rattle.family.specs.Faults.{family_faults, shape_faults, family_writer_faults, family_write_faults, CannotHold, TooLong, rewrite_faults}
use Rattle.family.proofs.Judged.{rewrite-judges, read-judges, write-judges}

-- the number is another
abbrev Other : ℕ → ℕ → Type 0
Other n at = n ≡ 9 → ⊥

row-never : (m : List ℕ) (w : ℕ) (r : Option Shape) → Each Other (row_faults m w r)
row-never m w None = tt
row-never m w (Some s) = (
  λ at h e. omega arith,
  (
    λ at h e. omega arith,
    (
      λ at h e. omega arith,
      (
        λ at h e. omega arith,
        (
          λ at h e. omega arith,
          (
            λ at h e. omega arith,
            (
              λ at h e. omega arith,
              (
                λ at h e. omega arith,
                (λ at h e. omega arith, (λ at h e. omega arith, (λ at h e. omega arith, (λ at h e. omega arith, (λ at h e. omega arith, (λ at h e. omega arith, (λ at h e. omega arith, tt))))))),
              ),
            ),
          ),
        ),
      ),
    ),
  ),
)

message-never : (m : List ℕ) (w most : ℕ) (r : Option Shape) → Each Other (message_faults m w most r)
message-never m w most r = (λ at h e. omega arith, (λ at h e. omega arith, (λ at h e. omega arith, row-never m w r)))

shape-never : (r : Option Shape) (most : ℕ) (o : Order) → Each Other (shape_faults r most o)
shape-never None most o = tt
shape-never (Some s) most o = (λ at h e. omega arith, (λ at h e. omega arith, (λ at h e. omega arith, (λ at h e. omega arith, tt))))

-- reading and writing again, with any row and any header
pub rewrite-nine : (m : List ℕ) (w most : ℕ) (r : Option Shape) (head buffer : List ℕ) (at : ℕ) → (rewrite_of m w most r head buffer).answer ≡ refused 9 at → ⊥
rewrite-nine m w most r head buffer at e =
    refusal-so Other _ (rewrite_faults m w most r head buffer) (rewrite-judges m w most r head buffer)
    (each_append Other (message_faults m w most r ++ (fault 12 0 (CannotHold m w most r) ∷ fault 2 0 (TooLong m w most r head) ∷ [])) (room_fault (rewrite_in m w most r head) buffer ∷ [])
    (each_append Other (message_faults m w most r) (fault 12 0 (CannotHold m w most r) ∷ fault 2 0 (TooLong m w most r head) ∷ []) (message-never m w most r) (λ at h e. omega arith, (λ at h e. omega arith, tt)))
    (λ at h e. omega arith, tt)) 9 at e refl

module _ (F : Family) where
  -- the reader
  pub read-nine : (m : List ℕ) (at : ℕ) → read_in F m ≡ refused 9 at → ⊥
  read-nine m at e = refusal-so Other (read_in F m) (family_faults F m) (read-judges F m) (message-never m F.width F.most (F.row (kind_at m F.width))) 9 at e refl

  -- the writer
  pub write-nine : (o : Order) (buffer : List ℕ) (at : ℕ) → (family_write_of F o buffer).answer ≡ refused 9 at → ⊥
  write-nine o buffer at e =
      refusal-so Other _ (family_write_faults F o buffer) (write-judges F o buffer)
      (each_append Other (family_writer_faults F o) (room_fault (family_write_in F o) buffer ∷ []) (λ at h e. omega arith, shape-never (F.row o.kind) F.most o) (λ at h e. omega arith, tt)) 9 at e refl

  -- reading and writing again
  pub compact-nine : (head m buffer : List ℕ) (at : ℕ) → (family_compact_of F head m buffer).answer ≡ refused 9 at → ⊥
  unfolding rewrite_of
  compact-nine head m buffer at = rewrite-nine m F.width F.most (F.row (kind_at m F.width)) head buffer at
