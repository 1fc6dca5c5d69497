-- REL and refusal 12: 253 octets of contents and a run put 255 into the last pointer, 254 with a
-- run are too far, 254 with no run are fine. And 13 is decided before the first store.
use Prim.Native.Nat.{ℕ, ◌+◌, ◌≤◌, ◌<◌}
use mathlib.Core.Path.{◌≡◌, refl, sym, ◌∙◌, ap}
use mathlib.Core.Bool.{true, false}
use mathlib.Core.List.{List, [], ◌∷◌}
use mathlib.Core.Logic.{◌⊎◌, inl, inr, ⊎_elim}
use native.Mathlib.Omega.{arith}
use borrow.Author.Tests.{lt-ltb, le-ltb}
use lib.ListN.{length, get_or-append}
use Rattle.std.specs.Prelude.{Some}
use Rattle.octets.specs.Octet.{octet}
use Rattle.octets.specs.Answer.{accepted, refused}
use Rattle.octets.specs.Filled.{Done, filled, leaving}
use Rattle.octets.proofs.Choice.{decided}
use Rattle.octets.proofs.Octet.{Within, within-head}
use Rattle.layout.specs.declared.Shape.{Shape}
use Rattle.runs.specs.Run.{is_run_lem, stop_from, stops, step_at_lem}
use Rattle.runs.specs.Params.{Param, Params}
use Rattle.runs.proofs.Exactly.{is-run-exactly}
use Rattle.measuring.specs.Measure.{unfit_of, run_size_lem}
use Rattle.writing.specs.Write.{Order, order_octets, contents_in, gap_of, form_of, pointers, ahead, variables, run_pointer, closed_run_lem, marks, exceeds, written_of, Fits}
use Rattle.writing.specs.Faults.{Exceeds}
use Rattle.writing.proofs.Plain.{fits-exactly, plain-octets, plain_size}
use Rattle.writing.proofs.Placed.{pieced}
use Rattle.writing.proofs.Judged.{exceeds-exactly}
use Rattle.isup.specs.Types.{REL}
use Rattle.isup.specs.Table.{shape_of}
use Rattle.isup.specs.Write.{head_of, order_of, write_in, write_of}

-- the shape row of REL
abbrev pub rel : Shape
rel = record { fixed = 0; vars = 1; opt = true }

pub rel-row : shape_of REL ≡ Some rel
unfolding shape_of
rel-row = refl

-- REL to a circuit, with contents c and a run r that is whole parameters to its very end
module _ (circuit : ℕ) (low : circuit ≤ 4095) (c r : List ℕ) (qs : List Param) (whole : Params r 0 qs (length r)) where
  abbrev ask : Order
  ask = order_of circuit REL [] c [] r

  rel-fits : Fits rel ask
  rel-fits = record { few = omega arith; fixed = refl; first = λ z. absurd (omega arith); second = λ z. refl; third = λ z. refl; run = λ z. absurd (let k : ◌≡◌ {A = ℕ} 0 1 = cc in omega arith) }

  -- header, type, two pointers, the length octet and the contents; then the run and its closing 0
  rel-size : length (order_octets rel ask) ≡ 6 + length c + run_size_lem (length r)
  rel-size = let q = ap length (sym (plain-octets rel ask rel-fits)) ∙ plain_size rel ask rel-fits in omega arith

  -- the last pointer reaches over itself, the length octet and the contents
  rel-exceeds : Exceeds rel ask → (255 < length c) ⊎ ((0 < length r) × (253 < length c))
  rel-exceeds =
      ⊎_elim (λ x. inl x) (⊎_elim (λ x. absurd (omega arith)) (⊎_elim (λ x. absurd (omega arith)) (⊎_elim (λ x. absurd (omega (arith, x.0))) (⊎_elim (λ x. absurd (omega (arith, x.0))) (λ x. inr (x.0, omega (arith, x.1)))))))

  written-rel : write_in circuit REL [] c [] r ≡ written_of rel 268 ask
  unfolding write_in
  written-rel = rw (le-ltb _ _ low, rel-row) refl

  rel-holds : (Exceeds rel ask → ⊥) → exceeds (marks true (contents_in rel ask) r) ≡ false
  rel-holds near = ⊎_elim (λ t. absurd (near ((exceeds-exactly rel ask rel-fits).0 t))) (λ t. t) (decided (exceeds (marks true (contents_in rel ask) r)))

  rel-taken : (Exceeds rel ask → ⊥) → length (order_octets rel ask) ≤ 268 → write_in circuit REL [] c [] r ≡ accepted (length (order_octets rel ask), order_octets rel ask)
  unfolding written_of
  rel-taken near short =
      let u = (fits-exactly rel ask).1 rel-fits in
      let w = (is-run-exactly r).1 (qs, whole) in
      written-rel ∙ rw (u, w, rel-holds near, le-ltb _ _ short) refl

  rel-too-long : (Exceeds rel ask → ⊥) → 268 < length (order_octets rel ask) → write_in circuit REL [] c [] r ≡ refused 2 0
  unfolding written_of
  rel-too-long near long =
      let u = (fits-exactly rel ask).1 rel-fits in
      let w = (is-run-exactly r).1 (qs, whole) in
      written-rel ∙ rw (u, w, rel-holds near, lt-ltb _ _ long) refl

  rel-too-far : Exceeds rel ask → write_in circuit REL [] c [] r ≡ refused 12 0
  unfolding written_of
  rel-too-far far =
      let u = (fits-exactly rel ask).1 rel-fits in
      let w = (is-run-exactly r).1 (qs, whole) in
      let x = (exceeds-exactly rel ask rel-fits).1 far in
      written-rel ∙ rw (u, w, x) refl

  rel-pointer : 0 < length r → octet (order_octets rel ask) 4 ≡ 2 + length c
  unfolding ahead run_pointer
  rel-pointer h = last r h (pieced true (head_of circuit) REL [] (c ∷ []) r).lasts
    where
      last : (r' : List ℕ) → 0 < length r' → Within (order_octets rel ask) 4 (run_pointer true (ahead (gap_of true (c ∷ [])) (c ∷ [])) r') → octet (order_octets rel ask) 4 ≡ 2 + length c
      last [] h w = absurd (omega arith)
      last (x ∷ xs) h w = within-head w

  module _ (buffer : List ℕ) where
    -- 253 octets and a run: where 268 octets hold the message and the buffer has
    -- room for it, the last pointer is 255
    pub rel-253 : length c ≡ 253 → 0 < length r → length r ≤ 8 → 260 + length r ≤ length buffer
        → (left : List ℕ) × (write_of circuit REL [] c [] r buffer ≡ leaving (accepted (260 + length r)) left) × (octet left 4 ≡ 255)
    unfolding write_of
    rel-253 e some few room =
        let ys = order_octets rel ask in
        let z : run_size_lem (length r) ≡ length r + 1 = simp (lt-ltb _ _ some) in
        let n : length (order_octets rel ask) ≡ 260 + length r = omega (arith, rel-size) in
        let a = rel-taken (λ x. ⊎_elim (λ y. omega arith) (λ y. omega (arith, y.1)) (rel-exceeds x)) (omega arith) in
        let h : length (order_octets rel ask) ≤ length buffer = omega arith in (
          filled (order_octets rel ask) buffer,
          rw (a, le-ltb _ _ h) (λ i. leaving (accepted (n i)) (filled (order_octets rel ask) buffer)),
          get_or-append (order_octets rel ask) _ 0 4 (omega arith) ∙ rel-pointer some ∙ (let q : 2 + length c ≡ 255 = omega arith in q),
        )

    -- a longer run makes more than 268 octets
    pub rel-253-long : length c ≡ 253 → 9 ≤ length r → write_of circuit REL [] c [] r buffer ≡ leaving (refused 2 0) buffer
    unfolding write_of
    rel-253-long e many =
        let some : 0 < length r = omega arith in
        let z : run_size_lem (length r) ≡ length r + 1 = simp (lt-ltb _ _ some) in
        rw (rel-too-long (λ x. ⊎_elim (λ y. omega arith) (λ y. omega (arith, y.1)) (rel-exceeds x)) (omega (arith, rel-size))) refl

    -- 254 octets and a run: 12
    pub rel-254 : length c ≡ 254 → 0 < length r → write_of circuit REL [] c [] r buffer ≡ leaving (refused 12 0) buffer
    unfolding write_of
    rel-254 e some = rw (rel-too-far (inr (inr (inr (inr (inr (some, omega arith))))))) refl

-- 254 octets with no run are fine: 260 octets, where the buffer has room for them
pub rel-254-alone : (circuit : ℕ) → circuit ≤ 4095 → (c buffer : List ℕ) → length c ≡ 254 → 260 ≤ length buffer → (left : List ℕ) × (write_of circuit REL [] c [] [] buffer ≡ leaving (accepted 260) left)
unfolding write_of
rel-254-alone circuit low c buffer e room =
    let o = order_of circuit REL [] c [] [] in
    let n : length (order_octets rel o) ≡ 260 = omega (arith, rel-size circuit low c [] [] refl) in
    let a = rel-taken circuit low c [] [] refl (λ x. ⊎_elim (λ y. omega arith) (λ y. omega (arith, y.0)) (rel-exceeds circuit low c [] [] refl x)) (omega arith) in
    let h : length (order_octets rel o) ≤ length buffer = omega arith in
    (filled (order_octets rel o) buffer, rw (a, le-ltb _ _ h) (λ i. leaving (accepted (n i)) (filled (order_octets rel o) buffer)))

-- an ANM of 4 octets and room for 3: the buffer keeps what it held
pub thirteen-first : write_of 1 9 [] [] [] [] (7 ∷ 7 ∷ 7 ∷ []) ≡ leaving (refused 13 0) (7 ∷ 7 ∷ 7 ∷ [])
unfolding write_of write_in shape_of written_of unfit_of is_run_lem stop_from stops step_at_lem marks exceeds form_of pointers ahead variables run_pointer closed_run_lem
thirteen-first = refl

-- so a writer that stores first and then finds no room is wrong
pub thirteen-after : write_of 1 9 [] [] [] [] (7 ∷ 7 ∷ 7 ∷ []) ≡ leaving (refused 13 0) (1 ∷ 0 ∷ 9 ∷ []) → ⊥
thirteen-after e = let q : ◌≡◌ {A = ℕ} 7 1 = ap (λ (d : Done ℕ). octet d.left 0) (sym thirteen-first ∙ e) in omega arith
