-- The marks that count: the circuits m to m+r that are marked, and nothing of the spare bits.
use Prim.Native.Nat.{ℕ, ◌+◌, ◌/◌, ◌%◌, ◌^◌, ◌≤◌}
use mathlib.Core.Path.{◌≡◌, sym, ◌∙◌, ap}
use mathlib.Core.Bool.{true}
use mathlib.Core.List.{List}
use mathlib.Core.Logic.{⊎_elim}
use native.Mathlib.Omega.{arith}
use borrow.Author.Tests.{ne_eqb, eqb-true, eqb-false, ltb-true, ltb-false}
use lib.Dec.{ltb, eqb}
use Rattle.octets.specs.Octet.{octet}
use Rattle.octets.specs.Choice.{when◌then◌else◌}
use Rattle.octets.specs.Answer.{◌then◌}
use Rattle.octets.specs.Sum.{total}
use Rattle.octets.proofs.Choice.{decided}
use Rattle.octets.proofs.Octet.{octets-octet}
use Rattle.octets.proofs.Sum.{total-same}
use Rattle.parts.specs.declared.Span.{Span}
use Rattle.parts.specs.Spans.{span_size}
use Rattle.isup.specs.declared.Message.{Message}
use Rattle.marks.specs.Marks.{status_bit, marks_in_lem}
use Rattle.marks.proofs.Counted.{kept-bit}
use Rattle.marks.proofs.Laws.{spare-uncounted}
use Rattle.rows.specs.declared.Act.{Act}
use Rattle.rows.specs.declared.Act.TheVariants.{BlockGroup, UnblockGroup}
use Rattle.asks.specs.Asks.{range_in, width, group_status, broken_group, indicator_in, group_ask, unbroken, asked_in, ask_of, bit_at, mark_of}
use Rattle.asks.specs.Spare.{SpareAlike}
use Rattle.asks.proofs.Types.{for-type}

-- a bit is 1 where it is 1, else 0
bit-said : (y : ℕ) → y % 2 ≡ (when eqb (y % 2) 1 then 1 else 0)
bit-said y = ⊎_elim (λ t. rw t (eqb-true (y % 2) 1 t)) (λ f. rw f (zero_bit (eqb-false (y % 2) 1 f))) (decided (eqb (y % 2) 1))
  where
    zero_bit : (y % 2 ≡ 1 → ⊥) → y % 2 ≡ 0
    zero_bit n = ⊎_elim (λ t. omega (arith, ltb-true (y % 2) 1 t)) (λ f. absurd (n (omega (arith, ltb-false (y % 2) 1 f)))) (decided (ltb (y % 2) 1))

-- bit n of the status octets is the message's
status-bit : (m : List ℕ) (contents : Span) (n : ℕ) → n ≤ range_in m contents → status_bit (group_status m contents) n ≡ octet m (contents.from + 1 + n / 8) / 2 ^ (n % 8) % 2
status-bit m contents n h =
    ap (λ (o : ℕ). o / 2 ^ (n % 8) % 2) (octets-octet m (contents.from + 1) (width (range_in m contents)) (n / 8) (omega arith))

-- what is counted is how many of the circuits m to m+r are marked
pub marks-counted : (m : List ℕ) (contents : Span) → marks_in_lem (range_in m contents) (group_status m contents) ≡ total (λ n. when mark_of m (contents.from + 1) n then 1 else 0) 0 (range_in m contents + 1)
unfolding marks_in_lem mark_of bit_at
marks-counted m contents =
    total-same (status_bit (group_status m contents)) (λ n. when mark_of m (contents.from + 1) n then 1 else 0) 0 0 (range_in m contents + 1)
    (λ k l. rw (ne_eqb (contents.from + 1) 0 (λ z. omega arith)) (status-bit m contents (0 + k) (omega arith) ∙ bit-said _))

-- ---- messages that differ in spare bits alone
module _ (m m' : List ℕ) (x : Message) (s : SpareAlike m m' x) where
  -- their bits 0 to r are the same
  pub bit-alike : (n : ℕ) → n ≤ range_in m x.parts.first → octet m' (x.parts.first.from + 1 + n / 8) / 2 ^ (n % 8) % 2 ≡ octet m (x.parts.first.from + 1 + n / 8) / 2 ^ (n % 8) % 2
  bit-alike n h =
      let r = range_in m x.parts.first in
      ⊎_elim
      (λ t. ap (λ (o : ℕ). o / 2 ^ (n % 8) % 2) (s.whole (n / 8) (ltb-true (n / 8) (r / 8) t)))
      (λ f.
      let e : n / 8 ≡ r / 8 = omega (arith, ltb-false (n / 8) (r / 8) f) in
      let q : n % 8 ≤ r % 8 = omega arith in
      rw e
      (sym (kept-bit (octet m' (x.parts.first.from + 1 + r / 8)) (n % 8) (r % 8) q)
      ∙ ap (λ (o : ℕ). o / 2 ^ (n % 8) % 2) s.last
      ∙ kept-bit (octet m (x.parts.first.from + 1 + r / 8)) (n % 8) (r % 8) q))
      (decided (ltb (n / 8) (r / 8)))

  -- so they mark the same circuits, and as many
  pub mark-alike : (n : ℕ) → n ≤ range_in m x.parts.first → mark_of m' (x.parts.first.from + 1) n ≡ mark_of m (x.parts.first.from + 1) n
  unfolding mark_of bit_at
  mark-alike n h = ap (λ (b : ℕ). when eqb (x.parts.first.from + 1) 0 then true else eqb b 1) (bit-alike n h)

  marks-alike : marks_in_lem (range_in m' x.parts.first) (group_status m' x.parts.first) ≡ marks_in_lem (range_in m x.parts.first) (group_status m x.parts.first)
  marks-alike =
      ap (λ (r : ℕ). marks_in_lem r (group_status m' x.parts.first)) s.ranges
      ∙ spare-uncounted (range_in m x.parts.first) (group_status m' x.parts.first) (group_status m x.parts.first)
      (λ n h. status-bit m' x.parts.first n (omega (arith, s.ranges)) ∙ bit-alike n h ∙ sym (status-bit m x.parts.first n h))

  broken-alike : broken_group m' (indicator_in m' x) x.parts.first ≡ broken_group m (indicator_in m x) x.parts.first
  unfolding broken_group
  broken-alike =
      let size = span_size x.parts.first in
      λ i.
      when ltb 1 (s.kinds i) then true
      else when eqb size 0 then true
      else when eqb (s.ranges i) 0 then true
      else when eqb size (1 + width (s.ranges i)) then ltb 32 (marks-alike i)
      else true

  asked-alike : (act : Act) → group_ask m' act x.circuit (indicator_in m' x) x.parts.first ≡ group_ask m act x.circuit (indicator_in m x) x.parts.first
  asked-alike act = λ i. record { act = act; circuit = x.circuit; range = s.ranges i; block = s.kinds i; status = x.parts.first.from + 1 }

  -- and they ask the same
  pub ask-alike : ask_of m' ≡ ask_of m
  unfolding ask_of asked_in
  ask-alike =
      rw (s.reads, s.reads')
      (⊎_elim
      (λ k. rw (for-type x.kind BlockGroup k) (λ i. unbroken (broken-alike i) (asked-alike BlockGroup i)))
      (λ k. rw (for-type x.kind UnblockGroup k) (λ i. unbroken (broken-alike i) (asked-alike UnblockGroup i)))
      s.group)
