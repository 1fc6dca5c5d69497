-- What a message in compact form says, to BICC and to the family alike; two
-- that say the same are the same octets.
use Prim.Native.Nat.{ℕ, ◌<◌}
use mathlib.Core.Path.{◌≡◌, sym, ◌∙◌, ap}
use mathlib.Core.List.{List, []}
use native.Mathlib.Omega.{arith}
use lib.ListN.{length}
use Rattle.octets.specs.Octet.{octets, AllOctets}
use Rattle.octets.specs.Answer.{accepted}
use Rattle.octets.proofs.Octet.{length-octets}
use Rattle.parts.specs.declared.Parts.{Parts}
use Rattle.parts.specs.Spans.{part_of}
use Rattle.writing.specs.Write.{Order, order}
use Rattle.writing.specs.Compact.{said_by}
use Rattle.writing.proofs.Again.{said_fits}
use Rattle.family.specs.LowFirst.{code_in, code_octets}
use Rattle.family.specs.Forms.{FamilyCompact as Tight, FamilySays as FamilySaysSame}
use Rattle.family.specs.Family.{family_write_in}
use Rattle.family.proofs.LowFirst.{code-back, header-back}
use Rattle.family.proofs.Family as family
use Rattle.bicc.specs.declared.Message.{Message}
use Rattle.bicc.specs.Table.{bicc}
use Rattle.bicc.specs.Read.{call_message, call_read_of}
use Rattle.bicc.specs.Write.{call_order_of, call_write_in, call_compact_in}
use Rattle.bicc.specs.WellFormed.{CallFormed, CallCompact, CallSays, CallSaysSame}
use Rattle.bicc.proofs.Given.{code-four}
use Rattle.bicc.proofs.Types.{two}
use Rattle.bicc.proofs.Exactly.{formed, framed, read-exactly}

-- in compact form is what the family says
abbrev pub tight : (m : List ℕ) (x : Message) → CallCompact m x → Tight bicc m x.parts
tight m x c = record { formed = framed m x c.formed; tight = c.tight }

-- the header of a message that is not too short
pub head-length : (m : List ℕ) (x : Message) → CallFormed m x → length (octets m 0 4) ≡ 4
head-length m x f = length-octets m 0 4 (omega (arith, f.least))

-- a message of octets, well formed
module _ (m : List ℕ) (o : AllOctets m) (x : Message) (f : CallFormed m x) where
  -- four octets make a number of 32 bits
  pub code-small : x.code < 4294967296
  code-small = omega (arith, f.code, code-four m (omega (arith, f.least)), o 0, o 1, o 2, o 3)

  -- what it says to the family: its code, type and parts, and no third variable part
  pub order-said : said_by m 4 x.parts ≡ call_order_of x.code x.kind (part_of m x.parts.fixed) (part_of m x.parts.first) (part_of m x.parts.second) (part_of m x.parts.optional)
  order-said =
      let h : octets m 0 4 ≡ code_octets 4 x.code = sym (header-back 4 m o (omega (arith, f.least))) ∙ ap (code_octets 4) (sym f.code) in
      let t : part_of m x.parts.third ≡ [] = (said_fits m 4 f.shape x.parts f.params f.laid []).third (two x.kind f.shape f.listed) in
      λ i. order (h i) (sym f.kind i) (part_of m x.parts.fixed) (part_of m x.parts.first) (part_of m x.parts.second) (t i) (part_of m x.parts.optional)

  -- so reading and writing again is what the writer makes of what was read
  pub compact-writes : call_compact_in m ≡ call_write_in x.code x.kind (part_of m x.parts.fixed) (part_of m x.parts.first) (part_of m x.parts.second) (part_of m x.parts.optional)
  unfolding call_write_in call_compact_in
  compact-writes = family.compact-writes bicc m o x.parts (framed m x f) (octets m 0 4) (head-length m x f) ∙ ap (family_write_in bicc) order-said

-- a message in compact form that says these says them to the family
saying : (ys : List ℕ) (y : Message) → AllOctets ys → CallCompact ys y → (code kind : ℕ) (fixed first second run : List ℕ) → CallSays ys y code kind fixed first second run
    → said_by ys 4 y.parts ≡ call_order_of code kind fixed first second run
saying ys y o c code kind fixed first second run s = order-said ys o y c.formed ∙ (λ i. call_order_of (s.code i) (s.kind i) (s.fixed i) (s.first i) (s.second i) (s.run i))

-- and one that says them to the family says them
pub said : (ys : List ℕ) (p : Parts) (code kind : ℕ) (fixed first second run : List ℕ) → code < 4294967296 → Tight bicc ys p → said_by ys 4 p ≡ call_order_of code kind fixed first second run
    → (x : Message) × (call_read_of ys ≡ accepted x) × CallCompact ys x × CallSays ys x code kind fixed first second run
said ys p code kind fixed first second run h c e =
    let w : CallFormed ys (call_message ys p) = formed ys p c.formed in (
      call_message ys p,
      (read-exactly ys (call_message ys p)).1 w,
      record { formed = w; tight = c.tight },
      record {
        code = ap (λ (z : Order). code_in z.head) e ∙ code-back 4 code h;
        kind = ap (λ (z : Order). z.kind) e;
        fixed = ap (λ (z : Order). z.fixed) e;
        first = ap (λ (z : Order). z.first) e;
        second = ap (λ (z : Order). z.second) e;
        run = ap (λ (z : Order). z.run) e;
      },
    )

module _ (m : List ℕ) (o : AllOctets m) (x : Message) (f : CallFormed m x) where
  -- to say the same is to say it to the family
  pub same-said : (ys : List ℕ) → AllOctets ys → CallSaysSame m x ys → FamilySaysSame bicc (octets m 0 4) m x.parts ys
  same-said ys a s = (s.0.parts, tight ys s.0 s.1, saying ys s.0 a s.1 _ _ _ _ _ _ s.2 ∙ sym (order-said m o x f))

  pub said_same : (ys : List ℕ) → FamilySaysSame bicc (octets m 0 4) m x.parts ys → CallSaysSame m x ys
  said_same ys s =
      let q = said ys s.0 x.code x.kind (part_of m x.parts.fixed) (part_of m x.parts.first) (part_of m x.parts.second) (part_of m x.parts.optional) (code-small m o x f) s.1 (s.2 ∙ order-said m o x f) in
      (q.0, q.2, q.3)

-- two messages in compact form that say the same are the same octets
pub compact-form-one : (m m' : List ℕ) (x x' : Message) → AllOctets m → AllOctets m' → CallCompact m x → CallCompact m' x'
    → CallSays m x x'.code x'.kind (part_of m' x'.parts.fixed) (part_of m' x'.parts.first) (part_of m' x'.parts.second) (part_of m' x'.parts.optional) → m ≡ m'
compact-form-one m m' x x' o o' c c' s =
    family.compact-form-one bicc m m' x.parts x'.parts o o' (tight m x c) (tight m' x' c') (saying m x o c _ _ _ _ _ _ s ∙ sym (order-said m' o' x' c'.formed))
