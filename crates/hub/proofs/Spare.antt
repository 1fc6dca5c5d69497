-- Two messages that differ in spare bits alone are treated alike: the same
-- answer, the same rows, the same buffer.
use Prim.Native.Nat.{ℕ, ◌+◌, ◌-◌, ◌/◌, ◌≤◌}
use mathlib.Core.Path.{◌≡◌, refl, sym, ◌∙◌, ap}
use mathlib.Core.Bool.{Bool, true, false}
use mathlib.Core.List.{List}
use mathlib.Core.Logic.{⊎_elim}
use native.Mathlib.Omega.{arith}
use borrow.Author.Tests.{ne_eqb, ltb-true, ltb-false}
use lib.Dec.{ltb}
use lib.ListN.{length}
use Rattle.octets.specs.Octet.{octet, octets}
use Rattle.octets.specs.Choice.{when◌then◌else◌}
use Rattle.octets.specs.Answer.{Answer, accepted, refused, ◌then◌}
use Rattle.octets.specs.Filled.{filled}
use Rattle.octets.proofs.Answer.{accepted-same}
use Rattle.octets.proofs.Choice.{decided}
use Rattle.octets.proofs.Octet.{octets-octet}
use Rattle.octets.proofs.Applied.{applied-alike}
use Rattle.isup.specs.declared.Message.{Message}
use Rattle.isup.proofs.Exactly.{read-exactly}
use Rattle.rows.specs.declared.Act.{Act}
use Rattle.rows.specs.declared.Act.TheVariants.{BlockGroup, UnblockGroup}
use Rattle.rows.specs.Rows.{row_of}
use Rattle.asks.specs.declared.Ask.{Ask}
use Rattle.asks.specs.Asks.{range_in, width, ask_in_lem, ask_of, mark_of}
use Rattle.asks.specs.Spare.{SpareAlike}
use Rattle.asks.proofs.Types.{for-type}
use Rattle.asks.proofs.Reading.{ask-as}
use Rattle.asks.proofs.Marks.{mark-alike, ask-alike}
use Rattle.marks.specs.Marks.{cut_to, status_octet_lem}
use Rattle.replies.proofs.Spare.{answer-alike}
use Rattle.rights.specs.Tables.{Tables, sized}
use Rattle.hub.specs.Rows.{effect, rows_after}
use Rattle.hub.specs.Replies.{status_in, reply_of}
use Rattle.rights.specs.Permits.{permitted_of}
use Rattle.hub.specs.Acts.{roomed, judged_of, After, after, carried_out, act_of}
use Rattle.hub.proofs.Given.{grant-judged, fair}

-- of an ask whose status stands where the group's does and whose range is the group's
module _ (m m' : List ℕ) (x : Message) (s : SpareAlike m m' x) (a : Ask) (at : a.status ≡ x.parts.first.from + 1) (range : a.range ≡ range_in m x.parts.first) where
  octet-alike : (k : ℕ) → k ≤ a.range / 8 → status_octet_lem a.range (status_in m' a.status a.range) k ≡ status_octet_lem a.range (status_in m a.status a.range) k
  unfolding status_in status_octet_lem
  octet-alike k h =
      let r = range_in m x.parts.first in
      let p : (l : List ℕ) → octet (octets l (x.parts.first.from + 1) (width r)) k ≡ octet l (x.parts.first.from + 1 + k) = (λ l. octets-octet l (x.parts.first.from + 1) (width r) k (omega (arith, range))) in
      rw (at, range, ne_eqb (x.parts.first.from + 1) 0 (λ z. omega arith))
      (⊎_elim
      (λ t. rw t (p m' ∙ s.whole k (ltb-true k (r / 8) t) ∙ sym (p m)))
      (λ f.
      let e : k ≡ r / 8 = omega (arith, range, ltb-false k (r / 8) f) in
      rw f (ap (λ (o : ℕ). cut_to o r) (p m') ∙ ap (λ (j : ℕ). cut_to (octet m' (x.parts.first.from + 1 + j)) r) e ∙ s.last ∙ ap (λ (j : ℕ). cut_to (octet m (x.parts.first.from + 1 + j)) r) (sym e) ∙ ap (λ (o : ℕ). cut_to o r) (sym (p m))))
      (decided (ltb k (r / 8))))

  pub reply-alike : (states : List ℕ) → reply_of states m' a ≡ reply_of states m a
  unfolding reply_of
  reply-alike states = answer-alike a.act a.circuit a.range a.block _ _ _ octet-alike

  pub rows_alike : (states : List ℕ) → rows_after m' a states ≡ rows_after m a states
  rows_alike states =
      applied-alike (effect m' a) (effect m a) a.circuit (a.range + 1) states
      (λ i v p q. ap (λ (b : Bool). row_of a.act a.block b v) (ap (λ (k : ℕ). mark_of m' k (i - a.circuit)) at ∙ mark-alike m m' x s (i - a.circuit) (omega (arith, range)) ∙ ap (λ (k : ℕ). mark_of m k (i - a.circuit)) (sym at)))

-- the answer, the rows and the buffer are the same
pub spare-alike : (T : Tables) (sender : ℕ) (m m' buffer : List ℕ) (x : Message) → SpareAlike m m' x → act_of T sender m' buffer ≡ act_of T sender m buffer
unfolding act_of judged_of
spare-alike T sender m m' buffer x s =
    ap (carried_out T m' buffer) (grant-judged T sender m' (length buffer) ∙ ap (λ (g : Answer Ask). g then roomed T m' (length buffer)) judged-alike)
    ∙ go (judged_of T sender m) refl
    ∙ ap (carried_out T m buffer) (sym (grant-judged T sender m (length buffer)))
  where
    judged-alike : judged_of T sender m' ≡ judged_of T sender m
    judged-alike = ap (λ (g : Answer Ask). when sized T then (g then permitted_of T sender) else refused 16 0) (ask-alike m m' x s)

    go : (g : Answer Ask) → judged_of T sender m ≡ g → carried_out T m' buffer (g then roomed T m' (length buffer)) ≡ carried_out T m buffer (g then roomed T m (length buffer))
    go (refused n at) e = refl
    go (accepted a) e =
        let w = placed-so a (fair T sender m a e).asks in
        let q = reply-alike m m' x s a w.0 w.1 T.states in
        let r = rows_alike m m' x s a w.0 w.1 T.states in
        roomed-alike (length buffer) q r
      where
        placed-so : (a : Ask) → ask_of m ≡ accepted a → (a.status ≡ x.parts.first.from + 1) × (a.range ≡ range_in m x.parts.first)
        placed-so a e =
            let q = ask-as m x a ((read-exactly m x).0 s.reads) e in
            ⊎_elim
            (λ k. let p = sym q.is ∙ ap (λ (act : Act). ask_in_lem act m x) (accepted-same (sym q.acts ∙ for-type x.kind BlockGroup k)) in (ap (λ (b : Ask). b.status) p, ap (λ (b : Ask). b.range) p))
            (λ k. let p = sym q.is ∙ ap (λ (act : Act). ask_in_lem act m x) (accepted-same (sym q.acts ∙ for-type x.kind UnblockGroup k)) in (ap (λ (b : Ask). b.status) p, ap (λ (b : Ask). b.range) p))
            s.group

        roomed-alike : (room : ℕ) → reply_of T.states m' a ≡ reply_of T.states m a → rows_after m' a T.states ≡ rows_after m a T.states
            → carried_out T m' buffer (roomed T m' room a) ≡ carried_out T m buffer (roomed T m room a)
        roomed-alike room q r = by-room room m' ∙ (λ i. carried (ltb room (length (q i))) (q i) (r i)) ∙ sym (by-room room m)
          where
            carried : Bool → List ℕ → List ℕ → After
            carried true octets rows = after (refused 13 0) T.states buffer
            carried false octets rows = after (accepted (length octets)) rows (filled octets buffer)

            by-room : (room : ℕ) (l : List ℕ) → carried_out T l buffer (roomed T l room a) ≡ carried (ltb room (length (reply_of T.states l a))) (reply_of T.states l a) (rows_after l a T.states)
            by-room room l = cases (ltb room (length (reply_of T.states l a)))
              where
                cases : (t : Bool) → carried_out T l buffer (when t then refused 13 0 else accepted a) ≡ carried t (reply_of T.states l a) (rows_after l a T.states)
                cases true = refl
                cases false = refl
