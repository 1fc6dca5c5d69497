-- What is known of a message that reads, and of what it asks.
use Prim.Native.Nat.{ℕ, ◌+◌, ◌≤◌, ◌<◌}
use mathlib.Core.Path.{◌≡◌, refl, sym, ◌∙◌, ap, subst}
use mathlib.Core.Bool.{Bool, true, false}
use mathlib.Core.List.{List}
use mathlib.Core.Logic.{◌⊎◌, inl, inr, ⊎_elim}
use native.Mathlib.Omega.{arith}
use borrow.Author.Tests.{lt-ltb, le-ltb, ltb-false, eqb-true, eqb-false}
use lib.Dec.{ltb, eqb}
use lib.ListN.{length}
use Rattle.std.specs.Prelude.{Some}
use Rattle.octets.specs.Octet.{AllOctets}
use Rattle.octets.specs.Choice.{when◌then◌else◌}
use Rattle.octets.specs.Answer.{accepted, ◌then◌}
use Rattle.octets.proofs.Answer.{accepted-same, past-test, then-accepted, then_same}
use Rattle.parts.specs.declared.Span.{Span}
use Rattle.parts.specs.Spans.{span_size}
use Rattle.layout.specs.declared.Shape.{Shape}
use Rattle.parts.specs.declared.Parts.{Parts}
use Rattle.parts.specs.Overlap.{contents_of_lem, held}
use Rattle.isup.specs.declared.Message.{Message}
use Rattle.isup.specs.Table.{shape_of}
use Rattle.isup.specs.Read.{read_of}
use Rattle.isup.specs.WellFormed.{WellFormed}
use Rattle.isup.proofs.Exactly.{read-exactly}
use Rattle.rows.specs.declared.Act.{Act}
use Rattle.rows.specs.declared.Act.TheVariants.{Seize, Release, Reset, Block, Unblock, ResetGroup, BlockGroup, UnblockGroup, Query}
use Rattle.asks.specs.declared.Ask.{Ask}
use Rattle.isup.specs.Types.{CGB, CGU}
use Rattle.marks.specs.Marks.{marks_in_lem}
use Rattle.asks.specs.Types.{type_of, act_for}
use Rattle.asks.specs.Asks.{range_in, block_kind, width, group_status, broken_range, broken_group, broken, one_ask, range_ask, group_ask, indicator_in, ask_in_lem, reaching, asked_for, asked_in, ask_of, Sound}
use Rattle.asks.specs.Inside.{looked, Placed}
use Rattle.asks.proofs.Types.{for-type}

one-shape : (s : Shape) → Some (record { fixed = 1; vars = 1; opt = false }) ≡ Some s → s ≡ record { fixed = 1; vars = 1; opt = false }
one-shape s e = let z : record { fixed = 1; vars = 1; opt = false } ≡ s = cc in sym z

one-fixed : (s : Shape) → Some (record { fixed = 1; vars = 1; opt = false }) ≡ Some s → s.fixed ≡ 1
one-fixed s e = ap (λ (t : Shape). t.fixed) (one-shape s e)

module _ (m : List ℕ) (x : Message) (f : WellFormed m x) where
  -- the first contents are within the message
  pub contents-in : (x.parts.first.from ≤ x.parts.first.to) × (x.parts.first.to ≤ length m)
  unfolding held
  contents-in =
      let l = f.laid in
      let e : x.parts.first ≡ contents_of_lem l.a = ap (λ (p : Parts). p.first) l.holds in
      subst (λ (s : Span). (s.from ≤ s.to) × (s.to ≤ length m)) (sym e)
      (⊎_elim
      (λ v. rw (lt-ltb l.a.from l.a.to (omega (arith, v.1.ends))) (omega (arith, v.1.ends), v.1.inside))
      (λ z. rw z.1 (omega arith, omega arith))
      l.first)

  -- the fixed octet of CGB and CGU is within the message
  pub fixed_in : (x.kind ≡ CGB) ⊎ (x.kind ≡ CGU) → x.parts.fixed.from < length m
  unfolding held shape_of
  fixed_in k =
      let l = f.laid in
      let e : x.parts.fixed.from ≡ 3 = ap (λ (p : Parts). p.fixed.from) l.holds in
      let o : f.shape.fixed ≡ 1 = ⊎_elim (λ q. one-fixed f.shape (sym (ap shape_of q) ∙ f.listed)) (λ q. one-fixed f.shape (sym (ap shape_of q) ∙ f.listed)) k in
      omega (arith, l.whole)

  -- a circuit number has twelve bits
  pub circuit-in : AllOctets m → x.circuit ≤ 4095
  circuit-in o = omega (arith, f.circuit, o 0)

  -- so is all that the hub looks at
  pub placed : AllOctets m → Placed m x.kind x.circuit x.parts.fixed.from x.parts.first
  placed o = record {
    starts = contents-in.0;
    ends = contents-in.1;
    low = circuit-in o;
    indicated = fixed_in;
  }

-- nothing else of it is looked at
looked-for : (m : List ℕ) (x : Message) (act : Act) → asked_for m (looked x.kind x.circuit x.parts.fixed.from x.parts.first) act ≡ asked_for m x act
looked-for m x Seize = refl
looked-for m x Release = refl
looked-for m x Reset = refl
looked-for m x Block = refl
looked-for m x Unblock = refl
looked-for m x ResetGroup = refl
looked-for m x BlockGroup = refl
looked-for m x UnblockGroup = refl
looked-for m x Query = refl

pub looked-so : (m : List ℕ) (x : Message) → asked_in m (looked x.kind x.circuit x.parts.fixed.from x.parts.first) ≡ asked_in m x
unfolding asked_in
looked-so m x = then_same (act_for x.kind) refl (λ act e. looked-for m x act)

-- ---- what a message that reads asks, by the act that its type asks for
module _ (m : List ℕ) (x : Message) where
  pub asked_by : (act : Act) → x.kind ≡ type_of act → asked_for m x act ≡ asked_in m x
  unfolding asked_in
  asked_by act e = ap (λ z. z then asked_for m x) (sym (for-type x.kind act e))

  -- one circuit, which is never past 4095
  pub one-reaches : (act : Act) → x.circuit ≤ 4095 → accepted (one_ask act x.circuit) ≡ reaching (one_ask act x.circuit)
  one-reaches act h = rw (le-ltb 4095 (x.circuit + 0) (omega arith))

-- ---- contents that keep their rule
pub record WholeGroup (m : List ℕ) (indicator : ℕ) (contents : Span) : Type 0 where
  pub kinds : block_kind indicator ≤ 1
  pub range : range_in m contents ≡ 0 → ⊥
  pub exact : span_size contents ≡ 1 + width (range_in m contents)
  pub few : marks_in_lem (range_in m contents) (group_status m contents) ≤ 32

past : (t : Bool) {y : Bool} → (when t then true else y) ≡ false → (t ≡ false) × (y ≡ false)
past true e = let z : ◌≡◌ {A = ℕ} 0 1 = cc in absurd (omega arith)
past false e = (refl, e)

held-so : (t : Bool) {y : Bool} → (when t then y else true) ≡ false → (t ≡ true) × (y ≡ false)
held-so true e = (refl, e)
held-so false e = let z : ◌≡◌ {A = ℕ} 0 1 = cc in absurd (omega arith)

pub range-rule : (least : ℕ) (m : List ℕ) (contents : Span) → broken_range least m contents ≡ false → (span_size contents ≡ 1) × (least ≤ range_in m contents) × (range_in m contents ≤ 31)
unfolding broken_range
range-rule least m contents e =
    let a = held-so (eqb (span_size contents) 1) e in
    let b = past (ltb (range_in m contents) least) a.1 in
    (eqb-true _ _ a.0, ltb-false _ _ b.0, ltb-false _ _ b.1)

pub whole-group : (m : List ℕ) (indicator : ℕ) (contents : Span) → broken_group m indicator contents ≡ false → WholeGroup m indicator contents
unfolding broken_group
whole-group m indicator contents e =
    let a = past (ltb 1 (block_kind indicator)) e in
    let b = past (eqb (span_size contents) 0) a.1 in
    let c = past (eqb (range_in m contents) 0) b.1 in
    let d = held-so (eqb (span_size contents) (1 + width (range_in m contents))) c.1 in
    record {
      kinds = ltb-false _ _ a.0;
      range = eqb-false _ _ c.0;
      exact = eqb-true _ _ d.0;
      few = ltb-false _ _ d.1;
    }

-- ---- what is asked, where something is
pub record Asked (m : List ℕ) (x : Message) (a : Ask) : Type 0 where
  pub act : Act
  pub acts : act_for x.kind ≡ accepted act
  pub kept : broken act m x ≡ false
  pub is : ask_in_lem act m x ≡ a
  pub last : a.circuit + a.range ≤ 4095

pub asked_is : (m : List ℕ) (x : Message) (a : Ask) → asked_in m x ≡ accepted a → Asked m x a
unfolding asked_in
asked_is m x a e =
    let w = then-accepted (act_for x.kind) (asked_for m x) e in
    let b = past-test 14 0 (broken w.0 m x) w.2 in
    let c = past-test 18 0 (ltb 4095 ((ask_in_lem w.0 m x).circuit + (ask_in_lem w.0 m x).range)) b.1 in
    record {
      act = w.0;
      acts = w.1;
      kept = b.0;
      is = accepted-same c.1;
      last = subst (λ (y : Ask). y.circuit + y.range ≤ 4095) (accepted-same c.1) (ltb-false _ _ c.0);
    }

-- a message asks what it reads as asking
pub ask-read : (m : List ℕ) (a : Ask) → ask_of m ≡ accepted a → (x : Message) × (read_of m ≡ accepted x) × (asked_in m x ≡ accepted a)
unfolding ask_of
ask-read m a e = then-accepted (read_of m) (asked_in m) e

-- what a message asks, said of what it reads as
pub ask-as : (m : List ℕ) (x : Message) (a : Ask) → WellFormed m x → ask_of m ≡ accepted a → Asked m x a
unfolding ask_of
ask-as m x a f e = asked_is m x a (sym (ap (λ z. z then asked_in m) ((read-exactly m x).1 f)) ∙ e)

-- and no group passes circuit 4095
pub ask-last : (m : List ℕ) (a : Ask) → ask_of m ≡ accepted a → a.circuit + a.range ≤ 4095
ask-last m a e = let r = ask-read m a e in (asked_is m r.0 a r.2).last

-- ---- what is asked is sound
module _ (m : List ℕ) (x : Message) (f : WellFormed m x) (o : AllOctets m) where
  sound-one : (act : Act) → x.circuit + 0 ≤ 4095 → Sound m (one_ask act x.circuit)
  sound-one act h = record { last = h; few = omega arith; fewer = λ e. omega arith; kinds = omega arith; there = inl refl }

  sound-range : (act : Act) (least : ℕ) → broken_range least m x.parts.first ≡ false → x.circuit + range_in m x.parts.first ≤ 4095 → Sound m (range_ask m act x.circuit x.parts.first)
  sound-range act least b h = record {
    last = h;
    few = omega (arith, o x.parts.first.from);
    fewer = λ e. (range-rule least m x.parts.first b).2;
    kinds = omega arith;
    there = inl refl;
  }

  sound-group : (act : Act) → (act ≡ Query → ⊥) → broken_group m (indicator_in m x) x.parts.first ≡ false → x.circuit + range_in m x.parts.first ≤ 4095 → Sound m (group_ask m act x.circuit (indicator_in m x) x.parts.first)
  sound-group act n b h =
      let w = whole-group m (indicator_in m x) x.parts.first b in
      let i = contents-in m x f in
      record {
        last = h;
        few = omega (arith, o x.parts.first.from);
        fewer = λ e. absurd (n e);
        kinds = w.kinds;
        there = inr (omega (arith, w.exact, i.0, i.1));
      }

  sound-cases : (act : Act) → broken act m x ≡ false → (ask_in_lem act m x).circuit + (ask_in_lem act m x).range ≤ 4095 → Sound m (ask_in_lem act m x)
  sound-cases Seize b h = sound-one Seize h
  sound-cases Release b h = sound-one Release h
  sound-cases Reset b h = sound-one Reset h
  sound-cases Block b h = sound-one Block h
  sound-cases Unblock b h = sound-one Unblock h
  sound-cases ResetGroup b h = sound-range ResetGroup _ b h
  sound-cases BlockGroup b h = sound-group BlockGroup (λ e. let z : ◌≡◌ {A = ℕ} 0 1 = cc in omega arith) b h
  sound-cases UnblockGroup b h = sound-group UnblockGroup (λ e. let z : ◌≡◌ {A = ℕ} 0 1 = cc in omega arith) b h
  sound-cases Query b h = sound-range Query _ b h

  asked-sound : (a : Ask) → asked_in m x ≡ accepted a → Sound m a
  asked-sound a e =
      let w = asked_is m x a e in
      subst (λ (y : Ask). Sound m y) w.is
      (sound-cases w.act w.kept (subst (λ (y : Ask). y.circuit + y.range ≤ 4095) (sym w.is) w.last))

pub ask-sound : (m : List ℕ) (a : Ask) → AllOctets m → ask_of m ≡ accepted a → Sound m a
ask-sound m a o e = let r = ask-read m a e in asked-sound m r.0 ((read-exactly m r.0).0 r.1) o a r.2
