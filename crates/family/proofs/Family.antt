-- Over any family: accepted exactly when well formed; what is written reads back; reading and
-- writing again gives the one compact form or 12.
use Prim.Native.Nat.{ℕ, ◌≤◌}
use mathlib.Core.Path.{◌≡◌, refl, sym, ◌∙◌, ap, subst}
use mathlib.Core.Bool.{true, false}
use mathlib.Core.List.{List}
use mathlib.Core.Logic.{◌⊎◌, inl, inr, ⊎_elim, ◌↔◌}
use native.Mathlib.Omega.{arith}
use borrow.Author.Tests.{le-ltb}
use lib.Dec.{ltb}
use lib.ListN.{length}
use Rattle.std.specs.Prelude.{Option, Some, None}
use Rattle.octets.specs.Octet.{octet, octets, AllOctets}
use Rattle.octets.specs.Answer.{accepted, refused}
use Rattle.octets.proofs.Answer.{refused-accepted, accepted-same, past-test}
use Rattle.octets.proofs.Octet.{length-octets}
use Rattle.layout.specs.declared.Shape.{Shape}
use Rattle.parts.specs.declared.Parts.{Parts}
use Rattle.layout.specs.Container.{kind_at}
use Rattle.layout.specs.Gaps.{Agrees}
use Rattle.layout.specs.Laid.{LaidOut}
use Rattle.parts.specs.Spans.{part_of}
use Rattle.layout.proofs.Exactly.{parts-exactly, laid-params-unique}
use Rattle.layout.proofs.Gaps.{gaps-ignored}
use Rattle.runs.specs.Params.{Param, Params}
use Rattle.runs.proofs.Exactly.{is-run-exactly}
use Rattle.writing.specs.Write.{Order, order_octets, written_of, exceeds, marks, contents_in, Fits}
use Rattle.writing.specs.Compact.{Compact, said_with, said_by}
use Rattle.writing.proofs.Taken.{Taken, written-taken}
use Rattle.writing.proofs.Back.{placed, written-laid, written-compact, written-says}
use Rattle.writing.proofs.Again.{compact-is}
use Rattle.writing.proofs.Held.{compact-held}
use Rattle.writing.proofs.Octets.{part-octets, written-octets}
use Rattle.writing.proofs.Shorter.{again-or-twelve}
use Rattle.family.specs.Family.{Family, read_in, of_shape, family_write_in, again_in, family_compact_in}
use Rattle.family.specs.Forms.{FamilyFormed, FamilyCompact, FamilySays}

-- one row has one shape
pub shape_one : {s t : Shape} → Some s ≡ Some t → s ≡ t
shape_one e = cc

module _ (F : Family) where
  -- accepted exactly when well formed
  pub read-exactly : (m : List ℕ) (p : Parts) → (read_in F m ≡ accepted p) ↔ FamilyFormed F m p
  read-exactly m p = parts-exactly m F.width F.most (F.row (kind_at m F.width)) p

  -- in one way only
  pub well-formed-unique : (m : List ℕ) (p q : Parts) → FamilyFormed F m p → FamilyFormed F m q → p ≡ q
  well-formed-unique m p q f g = accepted-same (sym ((read-exactly m p).1 f) ∙ (read-exactly m q).1 g)

  pub shape_same : (m : List ℕ) (p q : Parts) (f : FamilyFormed F m p) (g : FamilyFormed F m q) → f.shape ≡ g.shape
  shape_same m p q f g = shape_one (sym f.listed ∙ g.listed)

  pub params-one : (m : List ℕ) (p q : Parts) (f : FamilyFormed F m p) (g : FamilyFormed F m q) → f.params ≡ g.params
  params-one m p q f g =
      laid-params-unique m F.width g.shape p q f.params g.params (subst (λ (s : Shape). LaidOut m F.width s p f.params) (shape_same m p q f g) f.laid) g.laid

  -- gaps and octets after the last part are ignored: a message that agrees on the type, the fixed
  -- part, the pointers and the parts reads the same
  pub gaps-read-same : (m m' : List ℕ) (p : Parts) (f : FamilyFormed F m p) → length m' ≤ F.most → Agrees f.laid m' → (octet m' F.width ≡ octet m F.width) × (read_in F m' ≡ read_in F m)
  gaps-read-same m m' p f l g =
      let k = g F.width (inl (omega arith, omega arith)) in (
        k.1,
        (read-exactly m' p).1
            (record { shape = f.shape; params = f.params; least = k.0; most = l; listed = ap F.row k.1 ∙ f.listed; laid = gaps-ignored f.laid m' g })
            ∙ sym ((read-exactly m p).1 f),
      )

  -- ---- what writing accepts
  row-says : (r : Option Shape) (o : Order) (y : ℕ × List ℕ) → of_shape r F.most o ≡ accepted y → (s : Shape) × (r ≡ Some s) × (written_of s F.most o ≡ accepted y)
  row-says (Some s) o y e = (s, refl, e)
  row-says None o y e = absurd (refused-accepted e)

  write-says : (o : Order) (n : ℕ) (ys : List ℕ) → family_write_in F o ≡ accepted (n, ys) → (s : Shape) × (F.row o.kind ≡ Some s) × Taken s F.most o n ys
  write-says o n ys e =
      let b = past-test 3 0 (ltb 255 o.kind) e in
      let r = row-says (F.row o.kind) o (n, ys) b.1 in
      (r.0, r.1, written-taken r.0 F.most o n ys r.2)

  -- what is written is no longer than the longest message
  pub written_small : (o : Order) (n : ℕ) (ys : List ℕ) → family_write_in F o ≡ accepted (n, ys) → n ≤ F.most
  written_small o n ys e = let t = (write-says o n ys e).2 in omega (arith, t.short, t.count, ap length t.octets)

  -- so is what is written of one row
  pub shape-small : (r : Option Shape) (o : Order) (n : ℕ) (ys : List ℕ) → of_shape r F.most o ≡ accepted (n, ys) → n ≤ F.most
  shape-small r o n ys e = let k = row-says r o (n, ys) e in let t = written-taken k.0 F.most o n ys k.2 in omega (arith, t.short, t.count, ap length t.octets)

  -- what is written reads; it is in the compact form and says what was given,
  -- header included, octet for octet
  pub write-reads-back-in : (o : Order) (n : ℕ) (ys : List ℕ) → length o.head ≡ F.width → family_write_in F o ≡ accepted (n, ys)
      → (n ≡ length ys) × ((p : Parts) × (read_in F ys ≡ accepted p) × FamilyCompact F ys p × (said_by ys F.width p ≡ o))
  write-reads-back-in o n ys h e =
      let a = write-says o n ys e in
      (a.2.count, subst (λ (m : List ℕ). (p : Parts) × (read_in F m ≡ accepted p) × FamilyCompact F m p × (said_by m F.width p ≡ o)) (sym a.2.octets) (go a.0 a.1 a.2.fits ((is-run-exactly o.run).0 a.2.whole) a.2.short))
    where
      go : (s : Shape) → F.row o.kind ≡ Some s → (f : Fits s o) → (qs : List Param) × Params o.run 0 qs (length o.run) → length (order_octets s o) ≤ F.most
          → (p : Parts) × (read_in F (order_octets s o) ≡ accepted p) × FamilyCompact F (order_octets s o) p × (said_by (order_octets s o) F.width p ≡ o)
      go s listed f r short =
          let p = placed s o f in
          let sy : said_by (order_octets s o) F.width (placed s o f) ≡ o = subst (λ (w : ℕ). said_by (order_octets s o) w (placed s o f) ≡ o) h (written-says s o f) in
          let ki : octet (order_octets s o) F.width ≡ o.kind = ap (λ (z : Order). z.kind) sy in
          let l : LaidOut (order_octets s o) F.width s (placed s o f) r.0 = subst (λ (w : ℕ). LaidOut (order_octets s o) w s (placed s o f) r.0) h (written-laid s o f r.0 r.1) in
          let c : Compact (order_octets s o) F.width s (placed s o f) r.0 = subst (λ (w : ℕ). Compact (order_octets s o) w s (placed s o f) r.0) h (written-compact s o f r.0 r.1) in
          let w : FamilyFormed F (order_octets s o) (placed s o f) =
          record { shape = s; params = r.0; least = omega (arith, l.whole); most = short; listed = ap F.row ki ∙ listed; laid = l } in (
            placed s o f,
            (read-exactly (order_octets s o) (placed s o f)).1 w,
            record { formed = w; tight = c },
            sy,
          )

  -- ---- a message of octets, well formed, and a header of the family's width
  module _ (m : List ℕ) (o : AllOctets m) (p : Parts) (f : FamilyFormed F m p) (head : List ℕ) (h : length head ≡ F.width) where
    -- the reader accepts, so the writer is left
    compact-again : family_compact_in F head m ≡ again_in m F.width F.most (F.row (kind_at m F.width)) head p
    compact-again = rw ((read-exactly m p).1 f) refl

    compact-written : family_compact_in F head m ≡ written_of f.shape F.most (said_with head m F.width p)
    compact-written = compact-again ∙ rw f.listed refl

    -- it is what the writer makes of what the message says
    pub compact-writes : family_compact_in F head m ≡ family_write_in F (said_with head m F.width p)
    compact-writes = let k : octet m F.width ≤ 255 = omega (arith, o F.width) in compact-again ∙ rw (le-ltb _ _ k) refl

    -- the compact form, or 12 where it cannot hold a length or a pointer, and nothing else
    pub compact-or-twelve-in : ((exceeds (marks f.shape.opt (contents_in f.shape (said_by m F.width p)) (part_of m p.optional)) ≡ true) × (family_compact_in F head m ≡ refused 12 0))
        ⊎ ((exceeds (marks f.shape.opt (contents_in f.shape (said_by m F.width p)) (part_of m p.optional)) ≡ false)
        × (family_compact_in F head m ≡ accepted (length (order_octets f.shape (said_with head m F.width p)), order_octets f.shape (said_with head m F.width p))))
    compact-or-twelve-in =
        ⊎_elim (λ y. inl (y.0, compact-written ∙ y.1)) (λ y. inr (y.0, compact-written ∙ y.1))
        (again-or-twelve m F.width F.most f.shape p f.params head h f.laid f.most)

    -- what it gives is in the compact form, and says the same, with that header
    pub compact-says-same-in : (n : ℕ) (ys : List ℕ) → family_compact_in F head m ≡ accepted (n, ys) → (n ≡ length ys) × FamilySays F head m p ys
    compact-says-same-in n ys e = let b = write-reads-back-in (said_with head m F.width p) n ys h (sym compact-writes ∙ e) in (b.0, (b.1.0, b.1.2, b.1.3))

    -- of octets it makes octets
    pub compact-octets : AllOctets head → (n : ℕ) (ys : List ℕ) → family_compact_in F head m ≡ accepted (n, ys) → AllOctets ys
    compact-octets a n ys e =
        written-octets f.shape F.most (said_with head m F.width p) n ys a (o F.width) (part-octets m p.fixed o) (part-octets m p.first o) (part-octets m p.second o) (part-octets m p.third o) (part-octets m p.optional o)
        (sym compact-written ∙ e)

  -- a message in compact form comes back as it is, with its own header
  pub compact-unchanged-in : (m : List ℕ) (p : Parts) → AllOctets m → FamilyCompact F m p → family_compact_in F (octets m 0 F.width) m ≡ accepted (length m, m)
  compact-unchanged-in m p o c =
      let h : length (octets m 0 F.width) ≡ F.width = length-octets m 0 F.width (omega (arith, c.formed.least)) in
      let q : order_octets c.formed.shape (said_by m F.width p) ≡ m = sym (compact-is m F.width c.formed.shape p c.formed.params c.tight) in
      ⊎_elim
      (λ y. absurd (let e = compact-held m F.width c.formed.shape p c.formed.params o c.tight in let z : ◌≡◌ {A = ℕ} 0 1 = cc in omega arith))
      (λ y. y.1 ∙ (λ i. accepted (length (q i), q i)))
      (compact-or-twelve-in m o p c.formed (octets m 0 F.width) h)

  -- where a message in compact form says the same, that is what is given
  pub compact-gives-it : (m : List ℕ) → AllOctets m → (p : Parts) → FamilyFormed F m p → (head : List ℕ) → length head ≡ F.width → (ys : List ℕ) → AllOctets ys → FamilySays F head m p ys → family_compact_in F head m ≡ accepted (length ys, ys)
  compact-gives-it m o p f head h ys a s =
      let k : length (octets ys 0 F.width) ≡ F.width = length-octets ys 0 F.width (omega (arith, s.1.formed.least)) in
      compact-writes m o p f head h ∙ ap (family_write_in F) (sym s.2) ∙ sym (compact-writes ys a s.0 s.1.formed (octets ys 0 F.width) k) ∙ compact-unchanged-in ys s.0 a s.1

  -- two messages in compact form that say the same, their headers included, are the same octets
  pub compact-form-one : (m m' : List ℕ) (p p' : Parts) → AllOctets m → AllOctets m' → FamilyCompact F m p → FamilyCompact F m' p' → said_by m F.width p ≡ said_by m' F.width p' → m ≡ m'
  compact-form-one m m' p p' o o' c c' s =
      let h : length (octets m' 0 F.width) ≡ F.width = length-octets m' 0 F.width (omega (arith, c'.formed.least)) in
      let e = sym (compact-gives-it m' o' p' c'.formed (octets m' 0 F.width) h m o (p, c, s)) ∙ compact-unchanged-in m' p' o' c' in
      ap (λ (z : ℕ × List ℕ). z.1) (accepted-same e)
