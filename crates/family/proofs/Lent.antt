-- What writing, and reading and writing again, leave in the lent buffer, over any family.
use Prim.Native.Nat.{ℕ, ◌≤◌}
use mathlib.Core.Path.{◌≡◌, refl, sym, ◌∙◌, ap}
use mathlib.Core.Bool.{Bool, true, false}
use mathlib.Core.List.{List}
use mathlib.Core.Logic.{◌⊎◌, inl, inr, ⊎_elim, ◌↔◌}
use native.Mathlib.Omega.{arith}
use borrow.Author.Tests.{le-ltb}
use lib.Dec.{ltb}
use lib.ListN.{length, take, drop}
use lib.Seq.{drop_at}
use Rattle.octets.specs.Octet.{octets, AllOctets}
use Rattle.octets.specs.Choice.{when◌then◌else◌}
use Rattle.octets.specs.Answer.{Answer, accepted, refused, ◌then◌}
use Rattle.octets.specs.Filled.{done, filled, leaving, room_for}
use Rattle.octets.proofs.Answer.{refused-accepted, refused-same}
use Rattle.octets.proofs.Filled.{room-accepted, take-filled}
use Rattle.parts.specs.declared.Parts.{Parts}
use Rattle.writing.specs.Write.{Order, order_octets}
use Rattle.writing.specs.Compact.{said_with, said_by}
use Rattle.writing.proofs.Shorter.{no_longer}
use Rattle.family.specs.Family.{Family, read_in, family_write_in, family_write_of, family_compact_in, family_compact_of}
use Rattle.family.specs.Forms.{FamilyFormed, FamilyCompact, FamilySays}
use Rattle.family.proofs.Family.{write-reads-back-in, compact-or-twelve-in, compact-says-same-in, compact-octets, compact-unchanged-in, compact-gives-it}

-- what is accepted with room stands at the buffer's front, and the rest is kept
pub front : (buffer : List ℕ) (x : Answer (ℕ × List ℕ)) (n : ℕ) (left : List ℕ) → ((ys : List ℕ) → x ≡ accepted (n, ys) → n ≡ length ys) → done buffer (x then room_for buffer) ≡ leaving (accepted n) left
    → (x ≡ accepted (n, take n left)) × (n ≤ length buffer) × (drop n left ≡ drop n buffer)
front buffer x n left c e =
    let r = room-accepted buffer x e in
    let k = c r.0 r.1 in
    let q : take n left ≡ r.0 = ap (take n) r.3 ∙ take-filled r.0 buffer n (c r.0 r.1) in
    (r.1 ∙ ap (λ (l : List ℕ). accepted (n, l)) (sym q), omega (arith, r.2), ap (drop n) r.3 ∙ drop_at r.0 _ n (sym k) ∙ ap (λ (j : ℕ). drop j buffer) (sym k))

-- with room for it, what is accepted is done
roomy : (buffer : List ℕ) (x : Answer (ℕ × List ℕ)) (n : ℕ) (ys : List ℕ) → x ≡ accepted (n, ys) → length ys ≤ length buffer → done buffer (x then room_for buffer) ≡ leaving (accepted n) (filled ys buffer)
roomy buffer x n ys e h = rw (e, le-ltb _ _ h) refl

-- and is not refused with 12, whatever the room
never-twelve : (buffer : List ℕ) (y : ℕ × List ℕ) → (done buffer (room_for buffer y)).answer ≡ refused 12 0 → ⊥
never-twelve buffer y = go (ltb (length buffer) (length y.1))
  where
    go : (t : Bool) → (done buffer (when t then refused 13 0 else accepted y)).answer ≡ refused 12 0 → ⊥
    go true e = let q = (refused-same e).0 in omega arith
    go false e = refused-accepted (sym e)

module _ (F : Family) where
  -- ---- writing, with a header of the family's width
  module _ (o : Order) (h : length o.head ≡ F.width) (buffer : List ℕ) (n : ℕ) (left : List ℕ) (e : family_write_of F o buffer ≡ leaving (accepted n) left) where
    write-front : (family_write_in F o ≡ accepted (n, take n left)) × (n ≤ length buffer) × (drop n left ≡ drop n buffer)
    write-front = front buffer (family_write_in F o) n left (λ ys q. (write-reads-back-in F o n ys h q).0) e

    -- the n octets that were left read; they are in the compact form and say
    -- what was given, octet for octet
    pub write-reads-back : (p : Parts) × (read_in F (take n left) ≡ accepted p) × FamilyCompact F (take n left) p × (said_by (take n left) F.width p ≡ o)
    write-reads-back = (write-reads-back-in F o n (take n left) h write-front.0).1

    -- the rest of the buffer is kept
    pub write-keeps-rest : (n ≤ length buffer) × (drop n left ≡ drop n buffer)
    write-keeps-rest = (write-front.1, write-front.2)

  -- ---- reading and writing again, of a message of octets, with a header of the family's width
  module _ (m : List ℕ) (o : AllOctets m) (p : Parts) (f : FamilyFormed F m p) (head : List ℕ) (h : length head ≡ F.width) (buffer : List ℕ) where
    module _ (n : ℕ) (left : List ℕ) (e : family_compact_of F head m buffer ≡ leaving (accepted n) left) where
      compact-front : (family_compact_in F head m ≡ accepted (n, take n left)) × (n ≤ length buffer) × (drop n left ≡ drop n buffer)
      compact-front = front buffer (family_compact_in F head m) n left (λ ys q. (compact-says-same-in F m o p f head h n ys q).0) e

      -- the n octets that were left are in the compact form and say the same
      pub compact-says-same : FamilySays F head m p (take n left)
      compact-says-same = (compact-says-same-in F m o p f head h n (take n left) compact-front.0).1

      -- the rest of the buffer is kept
      pub compact-keeps-rest : (n ≤ length buffer) × (drop n left ≡ drop n buffer)
      compact-keeps-rest = (compact-front.1, compact-front.2)

    -- with a buffer as long as the message: 12, or a message in compact form that says the same
    pub compact-or-twelve : length m ≤ length buffer
        → (family_compact_of F head m buffer ≡ leaving (refused 12 0) buffer) ⊎ ((n : ℕ) × (left : List ℕ) × (family_compact_of F head m buffer ≡ leaving (accepted n) left) × FamilySays F head m p (take n left))
    compact-or-twelve k =
        let ys = order_octets f.shape (said_with head m F.width p) in
        ⊎_elim
        (λ y. inl (ap (λ (z : Answer (ℕ × List ℕ)). done buffer (z then room_for buffer)) y.1))
        (λ y.
        let e = roomy buffer (family_compact_in F head m) (length ys) ys y.1 (omega (arith, no_longer m F.width f.shape p f.params head h f.laid)) in
        inr (length ys, filled ys buffer, e, compact-says-same (length ys) (filled ys buffer) e))
        (compact-or-twelve-in F m o p f head h)

    -- 12 exactly where no message in compact form says the same
    pub twelve-exactly : AllOctets head → ((family_compact_of F head m buffer).answer ≡ refused 12 0) ↔ ((ys : List ℕ) → AllOctets ys → FamilySays F head m p ys → ⊥)
    twelve-exactly a = (
      λ e ys q s. never-twelve buffer (length ys, ys) (sym (ap (λ (z : Answer (ℕ × List ℕ)). (done buffer (z then room_for buffer)).answer) (compact-gives-it F m o p f head h ys q s)) ∙ e),
      λ no.
          ⊎_elim (λ y. ap (λ (z : Answer (ℕ × List ℕ)). (done buffer (z then room_for buffer)).answer) y.1)
          (λ y. absurd (no _ (compact-octets F m o p f head h a _ _ y.1) (compact-says-same-in F m o p f head h _ _ y.1).1))
          (compact-or-twelve-in F m o p f head h),
    )

  -- a message that is in compact form already comes back as it is, with its own header
  pub compact-unchanged : (m : List ℕ) (p : Parts) (buffer : List ℕ) → AllOctets m → FamilyCompact F m p → length m ≤ length buffer → family_compact_of F (octets m 0 F.width) m buffer ≡ leaving (accepted (length m)) (filled m buffer)
  compact-unchanged m p buffer o c h = roomy buffer (family_compact_in F (octets m 0 F.width) m) (length m) m (compact-unchanged-in F m p o c) h
