-- UDT and refusal 12: its third pointer reaches over the first two contents, so
-- these may have 252 octets together (as 126 and 126), which put 255 into the
-- pointer; 253 (as 127 and 126) are too far.
use Prim.Native.Nat.{ℕ, ◌+◌, ◌≤◌, ◌<◌}
use mathlib.Core.Path.{◌≡◌, refl, sym, ◌∙◌, ap}
use mathlib.Core.Bool.{false}
use mathlib.Core.List.{List, [], ◌∷◌}
use mathlib.Core.Logic.{◌⊎◌, inl, inr, ⊎_elim, ◌↔◌}
use native.Mathlib.Omega.{arith}
use borrow.Author.Tests.{le-ltb}
use lib.ListN.{length, get_or-append}
use Rattle.std.specs.Prelude.{Some}
use Rattle.octets.specs.Octet.{octet}
use Rattle.octets.specs.Answer.{accepted, refused}
use Rattle.octets.specs.Filled.{filled, leaving}
use Rattle.octets.proofs.Choice.{decided}
use Rattle.octets.proofs.Octet.{within-at}
use Rattle.layout.specs.declared.Shape.{Shape}
use Rattle.runs.proofs.Exactly.{is-run-exactly}
use Rattle.writing.specs.Write.{Order, order_octets, contents_in, pointers, marks, exceeds, written_of, Fits}
use Rattle.writing.specs.Faults.{Exceeds}
use Rattle.writing.proofs.Plain.{fits-exactly, plain-octets, plain_size}
use Rattle.writing.proofs.Placed.{pieced}
use Rattle.writing.proofs.Judged.{exceeds-exactly}
use Rattle.sccp.specs.Table.{sccp_shape_of}
use Rattle.sccp.specs.Write.{sccp_order_of, sccp_write_in, sccp_write_of}

-- the shape row of UDT
abbrev pub udt : Shape
udt = record { fixed = 1; vars = 3; opt = false }

pub udt-row : sccp_shape_of 0x09 ≡ Some udt
unfolding sccp_shape_of
udt-row = refl

-- UDT with an octet of class and three contents
module _ (fixed first second third : List ℕ) (one : length fixed ≡ 1) where
  abbrev ask : Order
  ask = sccp_order_of 0x09 fixed first second third []

  udt-fits : Fits udt ask
  udt-fits = record { few = omega arith; fixed = one; first = λ h. absurd (omega arith); second = λ h. absurd (omega arith); third = λ h. absurd (omega arith); run = λ h. refl }

  -- 12 exactly where the first two contents have more than 252 octets
  -- together, or the third has more than 255
  pub udt-twelve : Exceeds udt ask ↔ ((252 < length first + length second) ⊎ (255 < length third))
  udt-twelve = (
    ⊎_elim (λ x. inl (omega arith)) (⊎_elim (λ x. inl (omega arith)) (⊎_elim (λ x. inr x) (⊎_elim (λ x. inl (omega (arith, x.1))) (⊎_elim (λ x. inl (omega (arith, x.1))) (λ x. absurd (omega (arith, x.0))))))),
    ⊎_elim (λ x. inr (inr (inr (inr (inl (omega arith, omega arith)))))) (λ x. inr (inr (inl x))),
  )

  -- type, class, three pointers, three length octets and the contents
  udt-size : length (order_octets udt ask) ≡ 8 + length first + length second + length third
  udt-size = let q = ap length (sym (plain-octets udt ask udt-fits)) ∙ plain_size udt ask udt-fits in omega arith

  -- the third pointer stands at octet 4
  udt-pointer : octet (order_octets udt ask) 4 ≡ 3 + length first + length second
  unfolding pointers
  udt-pointer = (within-at 2 (omega arith) (pieced false [] 0x09 fixed (first ∷ second ∷ third ∷ []) []).pointing).same 2 (omega arith)

  udt-written : sccp_write_in 0x09 fixed first second third [] ≡ written_of udt 268 ask
  unfolding sccp_write_in
  udt-written = rw udt-row refl

  udt-holds : (Exceeds udt ask → ⊥) → exceeds (marks false (contents_in udt ask) []) ≡ false
  udt-holds near = ⊎_elim (λ t. absurd (near ((exceeds-exactly udt ask udt-fits).0 t))) (λ t. t) (decided (exceeds (marks false (contents_in udt ask) [])))

  udt-taken : (Exceeds udt ask → ⊥) → length (order_octets udt ask) ≤ 268 → sccp_write_in 0x09 fixed first second third [] ≡ accepted (length (order_octets udt ask), order_octets udt ask)
  unfolding written_of
  udt-taken near short =
      let u = (fits-exactly udt ask).1 udt-fits in
      let w = (is-run-exactly []).1 ([], refl) in
      udt-written ∙ rw (u, w, udt-holds near, le-ltb _ _ short) refl

  udt-too-far : Exceeds udt ask → sccp_write_in 0x09 fixed first second third [] ≡ refused 12 0
  unfolding written_of
  udt-too-far far =
      let u = (fits-exactly udt ask).1 udt-fits in
      let w = (is-run-exactly []).1 ([], refl) in
      let x = (exceeds-exactly udt ask udt-fits).1 far in
      udt-written ∙ rw (u, w, x) refl

  module _ (buffer : List ℕ) where
    -- 252 octets in the first two: where 268 octets hold the message and the buffer has room for
    -- it, the third pointer is 255
    pub udt-252 : length first + length second ≡ 252 → length third ≤ 8 → 260 + length third ≤ length buffer
        → (left : List ℕ) × (sccp_write_of 0x09 fixed first second third [] buffer ≡ leaving (accepted (260 + length third)) left) × (octet left 4 ≡ 255)
    unfolding sccp_write_of
    udt-252 e few room =
        let n : length (order_octets udt ask) ≡ 260 + length third = omega (arith, udt-size) in
        let a = udt-taken (λ x. ⊎_elim (λ y. omega arith) (λ y. omega arith) (udt-twelve.0 x)) (omega arith) in
        let h : length (order_octets udt ask) ≤ length buffer = omega arith in (
          filled (order_octets udt ask) buffer,
          rw (a, le-ltb _ _ h) (λ i. leaving (accepted (n i)) (filled (order_octets udt ask) buffer)),
          get_or-append (order_octets udt ask) _ 0 4 (omega arith) ∙ udt-pointer ∙ (let q : 3 + length first + length second ≡ 255 = omega arith in q),
        )

    -- 253 octets in the first two: 12
    pub udt-253 : length first + length second ≡ 253 → sccp_write_of 0x09 fixed first second third [] buffer ≡ leaving (refused 12 0) buffer
    unfolding sccp_write_of
    udt-253 e = rw (udt-too-far (udt-twelve.1 (inl (omega arith)))) refl

-- in plain numbers: 126 and 126 octets before the third are fine, 127 and 126 are 12
module _ (fixed first second third buffer : List ℕ) (one : length fixed ≡ 1) where
  pub udt-126-126 : length first ≡ 126 → length second ≡ 126 → length third ≤ 8 → 260 + length third ≤ length buffer
      → (left : List ℕ) × (sccp_write_of 0x09 fixed first second third [] buffer ≡ leaving (accepted (260 + length third)) left) × (octet left 4 ≡ 255)
  udt-126-126 a b = udt-252 fixed first second third one buffer (omega arith)

  pub udt-127-126 : length first ≡ 127 → length second ≡ 126 → sccp_write_of 0x09 fixed first second third [] buffer ≡ leaving (refused 12 0) buffer
  udt-127-126 a b = udt-253 fixed first second third one buffer (omega arith)
