-- Every message of an answer reads, in the compact form: it carries the circuit of the message, and
-- its type is the one that answers.
use Prim.Native.Nat.{ℕ, ◌+◌}
use mathlib.Core.Path.{◌≡◌, refl, sym, ◌∙◌, ap, subst}
use mathlib.Core.List.{List, [], ◌∷◌, ◌++◌, append-nil}
use mathlib.Core.Logic.{⊎_elim}
use native.Mathlib.Omega.{arith}
use native.Mathlib.Nat.{add-zero}
use lib.Dec.{eqb}
use lib.ListN.{take}
use Rattle.octets.specs.Octet.{AllOctets, octet, octets}
use Rattle.octets.proofs.Choice.{decided}
use Rattle.octets.proofs.Filled.{take-filled}
use Rattle.octets.proofs.Octet.{octets-octet}
use Rattle.isup.specs.declared.Message.{Message}
use Rattle.isup.specs.Types.{CQM, CQR}
use Rattle.rows.specs.Rows.{local}
use Rattle.rows.specs.declared.Act.{Act}
use Rattle.rows.specs.declared.Act.TheVariants.{Seize, Release, Reset, Block, Unblock, ResetGroup, BlockGroup, UnblockGroup, Query}
use Rattle.asks.specs.declared.Ask.{Ask}
use Rattle.asks.specs.Types.{type_of}
use Rattle.asks.specs.Asks.{range_in}
use Rattle.asks.proofs.Types.{type-is}
use Rattle.asks.proofs.Reading.{ask-sound}
use Rattle.asks.proofs.Judged.{asked-names}
use Rattle.replies.specs.Replies.{states_from}
use Rattle.replies.specs.Rules.{Saying, saying, messages_to, said_types, ReadsAs, ReadInTurn, States}
use Rattle.replies.proofs.Status.{states-shown}
use Rattle.replies.proofs.ReadBack.{answer-reads}
use Rattle.rights.specs.Tables.{Tables}
use Rattle.hub.specs.Replies.{status_in, reply_of}
use Rattle.hub.specs.Acts.{act_of}
use Rattle.hub.specs.Rules.{Accepts, answer_types}
use Rattle.hub.proofs.Called.{act-of, reaches}
use Rattle.hub.proofs.Rules.{states-in, called, asked, asks}

-- the types that answer a type are those of the messages that answer its act
kinds-answer : (act : Act) (range block : ℕ) (group status : List ℕ) → said_types (messages_to act range block group status) ≡ answer_types (type_of act) (octet group 0)
unfolding answer_types
kinds-answer Seize range block group status = refl
kinds-answer Release range block group status = refl
kinds-answer Reset range block group status = ⊎_elim (λ t. rw t refl) (λ t. rw t refl) (decided (eqb (local (octet group 0)) 1))
kinds-answer Block range block group status = refl
kinds-answer Unblock range block group status = refl
kinds-answer ResetGroup range block group status = refl
kinds-answer BlockGroup range block group status = refl
kinds-answer UnblockGroup range block group status = refl
kinds-answer Query range block group status = refl

-- one message and nothing after it
alone-reads : (octets : List ℕ) (circuit : ℕ) (s : Saying) → ReadInTurn octets circuit (s ∷ []) → ReadsAs octets circuit s
alone-reads octets circuit s w =
    let e : octets ≡ w.0 = w.2 ∙ ap (λ (l : List ℕ). w.0 ++ l) w.4 ∙ append-nil w.0 in
    subst (λ (l : List ℕ). ReadsAs l circuit s) (sym e) w.3

module _ (T : Tables) (sender : ℕ) (m buffer : List ℕ) (x : Message) (n : ℕ) (ok : Accepts T sender m buffer x n) (octets-in : AllOctets m) where
  -- the type of the message is that of the act that was granted
  kind-is : x.kind ≡ type_of (called T sender m buffer x n ok).ask.act
  kind-is =
      let w = asked T sender m buffer x n ok in
      type-is x.kind w.act w.acts ∙ ap type_of (sym (act-of w.act m x) ∙ ap (λ (b : Ask). b.act) w.is)

  -- the messages of the answer, by what was granted
  abbrev said_by : Ask → List Saying
  said_by a = messages_to a.act a.range a.block (octets T.states a.circuit (a.range + 1)) (status_in m a.status a.range)

  -- what stands at the buffer's front reads so
  front_reads : ReadInTurn (take n (act_of T sender m buffer).buffer) (called T sender m buffer x n ok).ask.circuit (said_by (called T sender m buffer x n ok).ask)
  unfolding reply_of
  front_reads =
      let d = called T sender m buffer x n ok in
      let a = d.ask in
      let s = ask-sound m a octets-in d.allowed.asks in
      let low = reaches T sender m buffer a d.allowed in
      let front : take n (act_of T sender m buffer).buffer ≡ reply_of T.states m d.ask = ap (take n) d.front ∙ take-filled (reply_of T.states m d.ask) buffer n d.count in
      rw front
      (answer-reads a.act a.circuit a.range a.block _ _ (omega arith) s.few s.fewer)

  -- every message of the answer reads, with circuit m and the type that answers, and is in the
  -- compact form; where there are two they stand one after the other, and nothing else does
  pub reply-reads : (says : List Saying) × (said_types says ≡ answer_types x.kind (octet T.states x.circuit)) × ReadInTurn (take n (act_of T sender m buffer).buffer) x.circuit says
  reply-reads =
      let w = asked T sender m buffer x n ok in
      let a = (called T sender m buffer x n ok).ask in
      let c : a.circuit ≡ x.circuit = (asked-names m x a (w.act, w.acts, w.is)).0 in
      let group = octets T.states a.circuit (a.range + 1) in
      let row : octet group 0 ≡ octet T.states x.circuit = octets-octet T.states a.circuit (a.range + 1) 0 (omega arith) ∙ ap (octet T.states) (add-zero a.circuit ∙ c) in (
        said_by a,
        kinds-answer a.act a.range a.block group (status_in m a.status a.range) ∙ (λ i. answer_types (sym kind-is i) (row i)),
        subst (λ (k : ℕ). ReadInTurn (take n (act_of T sender m buffer).buffer) k (said_by a)) c front_reads,
      )

  -- the answer to CQM reads as CQR with two contents: the range, and the circuit states
  pub query-reads : x.kind ≡ CQM →
      let r = range_in m x.parts.first in
      (states : List ℕ) × States T.states x.circuit r states × ReadsAs (take n (act_of T sender m buffer).buffer) x.circuit (saying CQR [] (r ∷ []) states)
  query-reads e =
      let r = range_in m x.parts.first in
      let group = octets T.states x.circuit (r + 1) in (
        states_from group 0 (r + 1),
        states-in T.states x.circuit r _ (states-shown group r),
        alone-reads _ _ _ (subst (λ (a : Ask). ReadInTurn (take n (act_of T sender m buffer).buffer) a.circuit (said_by a)) (asks T sender m buffer x n ok Query e) front_reads),
      )
