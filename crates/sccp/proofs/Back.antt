-- What a message in compact form says, to SCCP and to the family alike; two
-- that say the same are the same octets.
use Prim.Native.Nat.{ℕ}
use mathlib.Core.Path.{◌≡◌, refl, sym, ◌∙◌, ap}
use mathlib.Core.List.{List, []}
use Rattle.octets.specs.Octet.{AllOctets}
use Rattle.octets.specs.Answer.{accepted}
use Rattle.parts.specs.declared.Parts.{Parts}
use Rattle.parts.specs.Spans.{part_of}
use Rattle.writing.specs.Write.{Order}
use Rattle.writing.specs.Compact.{said_by}
use Rattle.family.specs.Forms.{FamilyCompact as Tight, FamilySays as FamilySaysSame}
use Rattle.family.specs.Family.{family_write_in}
use Rattle.family.proofs.Family as family
use Rattle.sccp.specs.declared.Message.{Message}
use Rattle.sccp.specs.Table.{sccp}
use Rattle.sccp.specs.Read.{sccp_message, sccp_read_of}
use Rattle.sccp.specs.Write.{sccp_order_of, sccp_write_in, sccp_compact_in}
use Rattle.sccp.specs.WellFormed.{SccpFormed, SccpCompact, SccpSays, SccpSaysSame}
use Rattle.sccp.proofs.Exactly.{formed, framed, read-exactly}

-- in compact form is what the family says
abbrev pub tight : (m : List ℕ) (x : Message) → SccpCompact m x → Tight sccp m x.parts
tight m x c = record { formed = framed m x c.formed; tight = c.tight }

-- what a well-formed message says to the family: its type and parts
pub order-said : (m : List ℕ) (x : Message) → SccpFormed m x
    → said_by m 0 x.parts ≡ sccp_order_of x.kind (part_of m x.parts.fixed) (part_of m x.parts.first) (part_of m x.parts.second) (part_of m x.parts.third) (part_of m x.parts.optional)
order-said m x f = λ i. sccp_order_of (sym f.kind i) (part_of m x.parts.fixed) (part_of m x.parts.first) (part_of m x.parts.second) (part_of m x.parts.third) (part_of m x.parts.optional)

-- so reading and writing again is what the writer makes of what was read
pub compact-writes : (m : List ℕ) → AllOctets m → (x : Message) → SccpFormed m x
    → sccp_compact_in m ≡ sccp_write_in x.kind (part_of m x.parts.fixed) (part_of m x.parts.first) (part_of m x.parts.second) (part_of m x.parts.third) (part_of m x.parts.optional)
unfolding sccp_write_in sccp_compact_in
compact-writes m o x f = family.compact-writes sccp m o x.parts (framed m x f) [] refl ∙ ap (family_write_in sccp) (order-said m x f)

-- a message in compact form that says these says them to the family
saying : (ys : List ℕ) (y : Message) → SccpCompact ys y → (kind : ℕ) (fixed first second third run : List ℕ) → SccpSays ys y kind fixed first second third run
    → said_by ys 0 y.parts ≡ sccp_order_of kind fixed first second third run
saying ys y c kind fixed first second third run s = order-said ys y c.formed ∙ (λ i. sccp_order_of (s.kind i) (s.fixed i) (s.first i) (s.second i) (s.third i) (s.run i))

-- and one that says them to the family says them
pub said : (ys : List ℕ) (p : Parts) (kind : ℕ) (fixed first second third run : List ℕ) → Tight sccp ys p → said_by ys 0 p ≡ sccp_order_of kind fixed first second third run
    → (x : Message) × (sccp_read_of ys ≡ accepted x) × SccpCompact ys x × SccpSays ys x kind fixed first second third run
said ys p kind fixed first second third run c e =
    let w : SccpFormed ys (sccp_message ys p) = formed ys p c.formed in (
      sccp_message ys p,
      (read-exactly ys (sccp_message ys p)).1 w,
      record { formed = w; tight = c.tight },
      record {
        kind = ap (λ (z : Order). z.kind) e;
        fixed = ap (λ (z : Order). z.fixed) e;
        first = ap (λ (z : Order). z.first) e;
        second = ap (λ (z : Order). z.second) e;
        third = ap (λ (z : Order). z.third) e;
        run = ap (λ (z : Order). z.run) e;
      },
    )

module _ (m : List ℕ) (x : Message) (f : SccpFormed m x) where
  -- to say the same is to say it to the family
  pub same-said : (ys : List ℕ) → SccpSaysSame m x ys → FamilySaysSame sccp [] m x.parts ys
  same-said ys s = (s.0.parts, tight ys s.0 s.1, saying ys s.0 s.1 _ _ _ _ _ _ s.2 ∙ sym (order-said m x f))

  pub said_same : (ys : List ℕ) → FamilySaysSame sccp [] m x.parts ys → SccpSaysSame m x ys
  said_same ys s =
      let q = said ys s.0 x.kind (part_of m x.parts.fixed) (part_of m x.parts.first) (part_of m x.parts.second) (part_of m x.parts.third) (part_of m x.parts.optional) s.1 (s.2 ∙ order-said m x f) in
      (q.0, q.2, q.3)

-- two messages in compact form that say the same are the same octets
pub compact-form-one : (m m' : List ℕ) (x x' : Message) → AllOctets m → AllOctets m' → SccpCompact m x → SccpCompact m' x'
    → SccpSays m x x'.kind (part_of m' x'.parts.fixed) (part_of m' x'.parts.first) (part_of m' x'.parts.second) (part_of m' x'.parts.third) (part_of m' x'.parts.optional) → m ≡ m'
compact-form-one m m' x x' o o' c c' s =
    family.compact-form-one sccp m m' x.parts x'.parts o o' (tight m x c) (tight m' x' c') (saying m x c _ _ _ _ _ _ s ∙ sym (order-said m' x' c'.formed))
