-- Each rule of 'Circuit rules' in its own words, of a call that is accepted.
use Prim.Native.Nat.{ℕ, ◌+◌, ◌/◌, ◌%◌, ◌^◌, ◌≤◌, ◌<◌}
use mathlib.Core.Path.{◌≡◌, refl, sym, ◌∙◌, ap, subst}
use mathlib.Core.Bool.{Bool, true, false}
use mathlib.Core.List.{List, [], ◌∷◌}
use mathlib.Core.Logic.{◌⊎◌, inl, inr, ⊎_elim}
use native.Mathlib.Omega.{arith}
use native.Mathlib.Nat.{add-zero, zero-add}
use borrow.Author.Tests.{eq-eqb, ne_eqb, eqb-true, ltb-true, ltb-false, not-false}
use lib.Dec.{eqb, ltb}
use lib.ListN.{length}
use Rattle.std.specs.Prelude.{is_some}
use Rattle.octets.specs.Choice.{when◌then◌else◌}
use Rattle.octets.specs.Octet.{octet, octets}
use Rattle.octets.specs.Filled.{filled}
use Rattle.isup.specs.declared.Message.{Message}
use Rattle.octets.proofs.Answer.{accepted-same}
use Rattle.octets.proofs.Choice.{decided}
use Rattle.octets.proofs.Octet.{octets-octet}
use Rattle.rows.specs.declared.Act.{Act}
use Rattle.rows.specs.declared.Act.TheVariants.{Seize, Release, Reset, Block, Unblock, ResetGroup, BlockGroup, UnblockGroup, Query}
use Rattle.rows.specs.Rows.{local, is_legal, changed_row, row_of, circuit_state_lem}
use Rattle.rows.specs.Rules.{Seized, Released, Cleared, BlockedForMaintenance, UnblockedForMaintenance, BlockedForHardware, UnblockedForHardware}
use Rattle.rows.specs.States.{SaysOfRow}
use Rattle.rows.proofs.Legality.{legal-is}
use Rattle.rows.proofs.States.{circuit-state-says}
use Rattle.rows.proofs.Rules.{released, was-cleared, blocked-maintenance, unblocked-maintenance, blocked-hardware, unblocked-hardware}
use Rattle.asks.specs.declared.Ask.{Ask}
use Rattle.isup.specs.Types.{IAM, REL, RLC, RSC, BLO, UBL, BLA, UBA, GRS, CGB, CGU, CGBA, CGUA, GRA, CQM, CQR}
use Rattle.asks.specs.Types.{type_of}
use Rattle.asks.specs.Asks.{range_in, block_kind, width, broken, one_ask, range_ask, group_ask, indicator_in, ask_in_lem, bit_at, mark_of}
use Rattle.asks.proofs.Types.{for-type, type-is}
use Rattle.asks.proofs.Judged.{asked-names}
use Rattle.octets.specs.Sum.{total}
use Rattle.asks.proofs.Marks.{marks-counted}
use Rattle.asks.proofs.Reading.{Asked, ask-as, range-rule, WholeGroup, whole-group}
use Rattle.rights.specs.Tables.{Tables}
use Rattle.rights.specs.Rights.{may_help, first_illegal_lem}
use Rattle.rights.specs.Names.{Mine, HasRight}
use Rattle.rights.specs.Faults.{NamedBy, Helpable}
use Rattle.replies.specs.Replies.{status_given, status_locked, states_from, range_and_status, completion}
use Rattle.replies.specs.Rules.{Marks, Locks, States}
use Rattle.replies.proofs.Status.{status-marks, locks-shown, states-shown}
use Rattle.hub.specs.Rows.{rows_after}
use Rattle.hub.specs.Replies.{status_in, reply_of}
use Rattle.rights.specs.Permits.{is_taken}
use Rattle.hub.specs.Acts.{act_of}
use Rattle.hub.specs.Rules.{Changes, every, Answers, Acknowledges, Accepts}
use Rattle.hub.proofs.Called.{Called, row_named, row-outside, call-accepted, reaches, names-right, names-mine}
use Rattle.rights.proofs.Judged.{help-by}
use Rattle.rights.proofs.Meaning.{found_none}
use Rattle.hub.proofs.Writing.{rows-queried}

-- marks of a stretch of the message are marks of the message
marks-in : (m : List ℕ) (from range : ℕ) (status : List ℕ) → Marks (octets m from (width range)) 0 range status → Marks m from range status
unfolding bit_at
marks-in m from range status k = record {
  wide = k.wide;
  marks = λ i h. k.marks i h ∙ ap (λ (o : ℕ). eqb (o / 2 ^ (i % 8) % 2) 1) (ap (octet (octets m from (width range))) (zero-add (i / 8)) ∙ octets-octet m from (width range) (i / 8) (omega arith));
  spare = k.spare;
}

-- the 8s of a stretch of the rows are those of the rows
locks-in : (rows : List ℕ) (circuit range : ℕ) (status : List ℕ) → Locks (octets rows circuit (range + 1)) 0 range status → Locks rows circuit range status
locks-in rows circuit range status k = record {
  wide = k.wide;
  locks = λ i h. k.locks i h ∙ ap (λ (o : ℕ). eqb (local o) 1) (ap (octet (octets rows circuit (range + 1))) (zero-add i) ∙ octets-octet rows circuit (range + 1) i (omega arith));
  spare = k.spare;
}

-- circuit states of a stretch of the rows are those of the rows
pub states-in : (rows : List ℕ) (circuit range : ℕ) (states : List ℕ) → States (octets rows circuit (range + 1)) 0 range states → States rows circuit range states
states-in rows circuit range states k = record {
  wide = k.wide;
  each = λ i h. k.each i h ∙ ap circuit_state_lem (ap (octet (octets rows circuit (range + 1))) (zero-add i) ∙ octets-octet rows circuit (range + 1) i (omega arith));
}

-- ---- an accepted call, by what its message asks
module _ (T : Tables) (sender : ℕ) (m buffer : List ℕ) (x : Message) (n : ℕ) (ok : Accepts T sender m buffer x n) where
  -- what the call leaves
  pub called : Called T sender m buffer n (act_of T sender m buffer)
  called = call-accepted T sender m buffer n ok.answer

  -- what was granted is what the message asks
  pub asked : Asked m x called.ask
  asked = ask-as m x called.ask ok.reads called.allowed.asks

  -- by its type
  act-is : (act : Act) → x.kind ≡ type_of act → asked.act ≡ act
  act-is act e = accepted-same (sym asked.acts ∙ for-type x.kind act e)

  pub asks : (act : Act) → x.kind ≡ type_of act → called.ask ≡ ask_in_lem act m x
  asks act e = sym asked.is ∙ ap (λ (k : Act). ask_in_lem k m x) (act-is act e)

  -- its contents keep their rule
  unbroken-so : (act : Act) → x.kind ≡ type_of act → broken act m x ≡ false
  unbroken-so act e = ap (λ (k : Act). broken k m x) (sym (act-is act e)) ∙ asked.kept

  group-whole : (x.kind ≡ CGB) ⊎ (x.kind ≡ CGU) → WholeGroup m (indicator_in m x) x.parts.first
  group-whole k = whole-group m (indicator_in m x) x.parts.first (⊎_elim (unbroken-so BlockGroup) (unbroken-so UnblockGroup) k)

  -- the rows, where the message asks a
  changes : (a : Ask) → called.ask ≡ a → (Becomes : ℕ → ℕ → Type 0) → ((i : ℕ) → i ≤ a.range → Becomes (octet T.states (a.circuit + i)) (changed_row a.act a.block (octet T.states (a.circuit + i))))
      → Changes T.states (act_of T sender m buffer).states a.circuit a.range (mark_of m a.status) Becomes
  changes a q Becomes h =
      let rows = called.rows ∙ ap (λ (b : Ask). rows_after m b T.states) q in
      let low = reaches T sender m buffer called.ask called.allowed in
      let last : a.circuit + a.range ≤ 4095 = subst (λ (b : Ask). b.circuit + b.range ≤ 4095) q low in
      let long : a.circuit + a.range < length T.states = omega (arith, called.allowed.states-sized) in
      let now : (i : ℕ) → i ≤ a.range → octet (act_of T sender m buffer).states (a.circuit + i) ≡ row_of a.act a.block (mark_of m a.status i) (octet T.states (a.circuit + i)) =
      λ i l. ap (λ (t : List ℕ). octet t (a.circuit + i)) rows ∙ row_named m a T.states i l long in
      record {
        named = λ i l t.
            subst (λ (r : ℕ). Becomes (octet T.states (a.circuit + i)) r)
            (sym (now i l ∙ ap (λ (b : Bool). row_of a.act a.block b (octet T.states (a.circuit + i))) t))
            (h i l);
        unmarked = λ i l t. now i l ∙ ap (λ (b : Bool). row_of a.act a.block b (octet T.states (a.circuit + i))) t;
        others = λ c o. ap (λ (t : List ℕ). octet t c) rows ∙ row-outside m a T.states c o;
      }

  -- the answer, where the message asks a
  answers : (a : Ask) → called.ask ≡ a → (octets : List ℕ) → reply_of T.states m a ≡ octets → Answers buffer (act_of T sender m buffer).buffer n octets
  answers a e octets r =
      let q = ap (reply_of T.states m) e ∙ r in
      (called.count ∙ ap length q, called.front ∙ ap (λ (o : List ℕ). filled o buffer) q)

  -- IAM: state must be 0, becomes 1; no answer octets
  pub iam-rule : x.kind ≡ IAM → Changes T.states (act_of T sender m buffer).states x.circuit 0 every Seized × Answers buffer (act_of T sender m buffer).buffer n []
  unfolding mark_of changed_row reply_of
  iam-rule e =
      let a : Ask = one_ask Seize x.circuit in
      let q = asks Seize e in
      let idle : octet T.states (x.circuit + 0) ≡ 0 = rw add-zero (eqb-true _ _ (not-false _ (subst (λ (b : Ask). is_taken T.states b.act b.circuit ≡ false) q called.allowed.free))) in
      (changes a q Seized (λ i l. let z : i ≡ 0 = omega arith in rw z (idle, refl)), answers a q [] refl)

  -- REL: not busy, blocks stay; answer RLC without optional part
  pub rel-rule : x.kind ≡ REL → Changes T.states (act_of T sender m buffer).states x.circuit 0 every Released × Answers buffer (act_of T sender m buffer).buffer n ((x.circuit % 256) ∷ (x.circuit / 256) ∷ RLC ∷ 0 ∷ [])
  unfolding mark_of reply_of
  rel-rule e =
      let a : Ask = one_ask Release x.circuit in
      let q = asks Release e in
      (changes a q Released (λ i l. released _), answers a q _ refl)

  -- RSC: state 0 but for the 8, which is kept; answer RLC without optional part, and where the 8 is
  -- set BLO followed by RLC, seven octets
  pub rsc-rule : x.kind ≡ RSC → Changes T.states (act_of T sender m buffer).states x.circuit 0 every Cleared
      × (local (octet T.states x.circuit) ≡ 0 → Answers buffer (act_of T sender m buffer).buffer n ((x.circuit % 256) ∷ (x.circuit / 256) ∷ RLC ∷ 0 ∷ []))
      × (local (octet T.states x.circuit) ≡ 1 → Answers buffer (act_of T sender m buffer).buffer n ((x.circuit % 256) ∷ (x.circuit / 256) ∷ BLO ∷ (x.circuit % 256) ∷ (x.circuit / 256) ∷ RLC ∷ 0 ∷ []))
  unfolding mark_of changed_row reply_of
  rsc-rule e =
      let a : Ask = one_ask Reset x.circuit in
      let q = asks Reset e in
      let row : octet (octets T.states x.circuit 1) 0 ≡ octet T.states x.circuit = octets-octet T.states x.circuit 1 0 (omega arith) ∙ ap (octet T.states) (add-zero x.circuit) in (
        changes a q Cleared (λ i l. was-cleared _),
        (λ z. answers a q ((x.circuit % 256) ∷ (x.circuit / 256) ∷ RLC ∷ 0 ∷ []) (ap (completion x.circuit) row ∙ rw (ne_eqb (local (octet T.states x.circuit)) 1 (λ o. omega (arith, z, o))) refl)),
        (λ z. answers a q ((x.circuit % 256) ∷ (x.circuit / 256) ∷ BLO ∷ (x.circuit % 256) ∷ (x.circuit / 256) ∷ RLC ∷ 0 ∷ []) (ap (completion x.circuit) row ∙ rw (eq-eqb (local (octet T.states x.circuit)) 1 z) refl)),
      )

  -- BLO: set the 2; answer BLA
  pub blo-rule : x.kind ≡ BLO → Changes T.states (act_of T sender m buffer).states x.circuit 0 every BlockedForMaintenance × Answers buffer (act_of T sender m buffer).buffer n ((x.circuit % 256) ∷ (x.circuit / 256) ∷ BLA ∷ [])
  unfolding mark_of changed_row reply_of
  blo-rule e =
      let a : Ask = one_ask Block x.circuit in
      let q = asks Block e in
      (changes a q BlockedForMaintenance (λ i l. blocked-maintenance _), answers a q _ refl)

  -- UBL: clear the 2; answer UBA
  pub ubl-rule : x.kind ≡ UBL → Changes T.states (act_of T sender m buffer).states x.circuit 0 every UnblockedForMaintenance × Answers buffer (act_of T sender m buffer).buffer n ((x.circuit % 256) ∷ (x.circuit / 256) ∷ UBA ∷ [])
  unfolding mark_of changed_row reply_of
  ubl-rule e =
      let a : Ask = one_ask Unblock x.circuit in
      let q = asks Unblock e in
      (changes a q UnblockedForMaintenance (λ i l. unblocked-maintenance _), answers a q _ refl)

  -- GRS: circuits m to m+r get state 0 but for the 8, which is kept; answer GRA: r, then r/8+1
  -- octets, whose bit i is 1 exactly where circuit m+i is locally blocked, spare bits 0
  pub grs-rule : x.kind ≡ GRS →
      let r = range_in m x.parts.first in
      Changes T.states (act_of T sender m buffer).states x.circuit r every Cleared
      × ((status : List ℕ)
      × Locks T.states x.circuit r status
      × Answers buffer (act_of T sender m buffer).buffer n ((x.circuit % 256) ∷ (x.circuit / 256) ∷ GRA ∷ 1 ∷ (1 + width r) ∷ r ∷ status))
  unfolding mark_of changed_row reply_of
  grs-rule e =
      let r = range_in m x.parts.first in
      let a : Ask = range_ask m ResetGroup x.circuit x.parts.first in
      let q = asks ResetGroup e in
      let group = octets T.states x.circuit (r + 1) in (
        changes a q Cleared (λ i l. was-cleared _),
        (
          status_locked r group,
          locks-in T.states x.circuit r _ (locks-shown r group),
          answers a q _ refl,
        ),
      )

  -- the rows of a group, marked by the status after the range
  group-changes : (act : Act) (indicator : ℕ) → called.ask ≡ group_ask m act x.circuit indicator x.parts.first → (Becomes : ℕ → ℕ → Type 0) → ((row : ℕ) → Becomes row (changed_row act (block_kind indicator) row))
      → Changes T.states (act_of T sender m buffer).states x.circuit (range_in m x.parts.first) (bit_at m (x.parts.first.from + 1)) Becomes
  unfolding mark_of
  group-changes act indicator q Becomes h =
      let t : eqb (x.parts.first.from + 1) 0 ≡ false = ne_eqb (x.parts.first.from + 1) 0 (λ z. omega arith) in
      let w = changes (group_ask m act x.circuit indicator x.parts.first) q Becomes (λ i l. h _) in
      record {
        named = λ i l g. w.named i l (rw t g);
        unmarked = λ i l g. w.unmarked i l (rw t g);
        others = w.others;
      }

  -- the answer to a group: indicator, range and status, spare bits 0
  group-answers : (act : Act) (type indicator : ℕ) → called.ask ≡ group_ask m act x.circuit indicator x.parts.first → reply_of T.states m (group_ask m act x.circuit indicator x.parts.first) ≡ (x.circuit % 256) ∷ (x.circuit / 256) ∷ type ∷ block_kind indicator ∷ range_and_status (range_in m x.parts.first) (status_given (range_in m x.parts.first) (status_in m (x.parts.first.from + 1) (range_in m x.parts.first)))
      → Acknowledges buffer (act_of T sender m buffer).buffer n m x type (block_kind indicator)
  unfolding status_in
  group-answers act type indicator q e =
      let a : Ask = group_ask m act x.circuit indicator x.parts.first in
      let r = range_in m x.parts.first in
      let s : status_in m (x.parts.first.from + 1) r ≡ octets m (x.parts.first.from + 1) (width r) = rw (ne_eqb (x.parts.first.from + 1) 0 (λ z. omega arith)) in (
        status_given r (octets m (x.parts.first.from + 1) (width r)),
        marks-in m (x.parts.first.from + 1) r _ (status-marks r (octets m (x.parts.first.from + 1) (width r))),
        answers a q _ (e ∙ ap (λ (l : List ℕ). (x.circuit % 256) ∷ (x.circuit / 256) ∷ type ∷ block_kind indicator ∷ range_and_status r (status_given r l)) s),
      )

  -- CGB for maintenance: the 2 is set on marked circuits; answer CGBA
  pub cgb-maintenance-rule : x.kind ≡ CGB → block_kind (indicator_in m x) ≡ 0 →
      Changes T.states (act_of T sender m buffer).states x.circuit (range_in m x.parts.first) (bit_at m (x.parts.first.from + 1)) BlockedForMaintenance
      × Acknowledges buffer (act_of T sender m buffer).buffer n m x CGBA 0
  unfolding changed_row reply_of
  cgb-maintenance-rule e k = (
    group-changes BlockGroup (indicator_in m x) (asks BlockGroup e) BlockedForMaintenance (λ row. rw k (blocked-maintenance row)),
    subst (λ (i : ℕ). Acknowledges buffer (act_of T sender m buffer).buffer n m x CGBA i) k (group-answers BlockGroup CGBA (indicator_in m x) (asks BlockGroup e) refl),
  )

  -- CGB for hardware: the 4 is set and busy ends on marked circuits; answer CGBA
  pub cgb-hardware-rule : x.kind ≡ CGB → block_kind (indicator_in m x) ≡ 1 →
      Changes T.states (act_of T sender m buffer).states x.circuit (range_in m x.parts.first) (bit_at m (x.parts.first.from + 1)) BlockedForHardware
      × Acknowledges buffer (act_of T sender m buffer).buffer n m x CGBA 1
  unfolding changed_row reply_of
  cgb-hardware-rule e k = (
    group-changes BlockGroup (indicator_in m x) (asks BlockGroup e) BlockedForHardware (λ row. rw k (blocked-hardware row)),
    subst (λ (i : ℕ). Acknowledges buffer (act_of T sender m buffer).buffer n m x CGBA i) k (group-answers BlockGroup CGBA (indicator_in m x) (asks BlockGroup e) refl),
  )

  -- CGU for maintenance: the 2 is cleared on marked circuits; answer CGUA
  pub cgu-maintenance-rule : x.kind ≡ CGU → block_kind (indicator_in m x) ≡ 0 →
      Changes T.states (act_of T sender m buffer).states x.circuit (range_in m x.parts.first) (bit_at m (x.parts.first.from + 1)) UnblockedForMaintenance
      × Acknowledges buffer (act_of T sender m buffer).buffer n m x CGUA 0
  unfolding changed_row reply_of
  cgu-maintenance-rule e k = (
    group-changes UnblockGroup (indicator_in m x) (asks UnblockGroup e) UnblockedForMaintenance (λ row. rw k (unblocked-maintenance row)),
    subst (λ (i : ℕ). Acknowledges buffer (act_of T sender m buffer).buffer n m x CGUA i) k (group-answers UnblockGroup CGUA (indicator_in m x) (asks UnblockGroup e) refl),
  )

  -- CGU for hardware: the 4 is cleared on marked circuits; answer CGUA
  pub cgu-hardware-rule : x.kind ≡ CGU → block_kind (indicator_in m x) ≡ 1 →
      Changes T.states (act_of T sender m buffer).states x.circuit (range_in m x.parts.first) (bit_at m (x.parts.first.from + 1)) UnblockedForHardware
      × Acknowledges buffer (act_of T sender m buffer).buffer n m x CGUA 1
  unfolding changed_row reply_of
  cgu-hardware-rule e k = (
    group-changes UnblockGroup (indicator_in m x) (asks UnblockGroup e) UnblockedForHardware (λ row. rw k (unblocked-hardware row)),
    subst (λ (i : ℕ). Acknowledges buffer (act_of T sender m buffer).buffer n m x CGUA i) k (group-answers UnblockGroup CGUA (indicator_in m x) (asks UnblockGroup e) refl),
  )

  -- CQM: no row changes; answer CQR: r, then r+1 octets, octet i being the circuit state of row
  -- m+i, which says what 003, 3.12, has for that row
  pub cqm-rule : x.kind ≡ CQM →
      let r = range_in m x.parts.first in
      ((act_of T sender m buffer).states ≡ T.states)
      × ((states : List ℕ)
      × States T.states x.circuit r states
      × ((i : ℕ) → i ≤ r → SaysOfRow (octet T.states (x.circuit + i)) (octet states i))
      × Answers buffer (act_of T sender m buffer).buffer n ((x.circuit % 256) ∷ (x.circuit / 256) ∷ CQR ∷ 2 ∷ 3 ∷ 1 ∷ r ∷ (r + 1) ∷ states))
  unfolding changed_row reply_of
  cqm-rule e =
      let r = range_in m x.parts.first in
      let a : Ask = range_ask m Query x.circuit x.parts.first in
      let q = asks Query e in
      let few : r ≤ 31 = (range-rule 0 m x.parts.first (unbroken-so Query e)).2 in
      let small : (r + 1) % 256 ≡ r + 1 = omega arith in
      let group = octets T.states x.circuit (r + 1) in
      let shown : States T.states x.circuit r (states_from group 0 (r + 1)) = states-in T.states x.circuit r _ (states-shown group r) in
      let legal : (i : ℕ) → i ≤ r → is_legal (octet T.states (x.circuit + i)) ≡ true =
      λ i h. found_none (λ c. is_legal (octet T.states c)) x.circuit (r + 1) (subst (λ (b : Ask). is_some (first_illegal_lem T.states b.circuit (b.range + 1)) ≡ false) q called.allowed.legal) (x.circuit + i) (omega arith) (omega arith) in (
        called.rows ∙ rows-queried m called.ask T.states (ap (λ (b : Ask). b.act) q),
        (
          states_from group 0 (r + 1),
          shown,
          (λ i h. subst (λ (o : ℕ). SaysOfRow (octet T.states (x.circuit + i)) o) (sym (shown.each i h)) (circuit-state-says _ (legal-is _ (legal i h)))),
          answers a q _ (ap (λ (k : ℕ). (x.circuit % 256) ∷ (x.circuit / 256) ∷ CQR ∷ 2 ∷ 3 ∷ 1 ∷ r ∷ k ∷ states_from group 0 (r + 1)) small),
        ),
      )

  -- an accepted CGB or CGU is of one of the two kinds
  pub group-kinds : (x.kind ≡ CGB) ⊎ (x.kind ≡ CGU) → (block_kind (indicator_in m x) ≡ 0) ⊎ (block_kind (indicator_in m x) ≡ 1)
  group-kinds k =
      let w = group-whole k in
      ⊎_elim
      (λ t. inl (omega (arith, ltb-true (block_kind (indicator_in m x)) 1 t)))
      (λ t. inr (omega (arith, ltb-false (block_kind (indicator_in m x)) 1 t, w.kinds)))
      (decided (ltb (block_kind (indicator_in m x)) 1))

  -- and marks 32 circuits at the most, of those that it names
  pub group-few : (x.kind ≡ CGB) ⊎ (x.kind ≡ CGU) → total (λ n. when mark_of m (x.parts.first.from + 1) n then 1 else 0) 0 (range_in m x.parts.first + 1) ≤ 32
  group-few k = let w = group-whole k in omega (arith, w.few, marks-counted m x.parts.first)

  -- a named circuit passes only if the sender owns it or helps it
  pub named-right : (c : ℕ) → NamedBy m x c → HasRight T sender c
  named-right c w =
      let q = asked-names m x called.ask (asked.act, asked.acts, asked.is) in
      names-right T sender m buffer called.ask called.allowed c (omega (arith, q.0, w.0), omega (arith, q.0, q.1, w.1))

  -- and where the type is not in the helpers' list, only if the sender owns it
  pub named-owned : (Helpable m x → ⊥) → (c : ℕ) → NamedBy m x c → Mine T.owners sender c
  named-owned out c w =
      let q = asked-names m x called.ask (asked.act, asked.acts, asked.is) in
      let h = help-by m x asked.act (type-is x.kind asked.act asked.acts) in
      let no : may_help called.ask.act called.ask.block ≡ false =
      ⊎_elim (λ t. absurd (out (h.0 (subst (λ (b : Ask). may_help b.act b.block ≡ true) (sym asked.is) t)))) (λ t. t) (decided (may_help called.ask.act called.ask.block)) in
      names-mine T sender m buffer called.ask called.allowed no c (omega (arith, q.0, w.0), omega (arith, q.0, q.1, w.1))
