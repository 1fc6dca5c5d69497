-- What a call leaves: a refusal keeps all, and an accepted call changes the
-- named rows and fills the buffer's front.
use Prim.Native.Nat.{ℕ, ◌+◌, ◌≤◌, ◌<◌}
use mathlib.Core.Path.{◌≡◌, refl, sym, ◌∙◌, ap}
use mathlib.Core.Bool.{Bool, false}
use mathlib.Core.List.{List}
use mathlib.Core.Logic.{◌⊎◌, inl, inr, ⊎_elim}
use native.Mathlib.Omega.{arith}
use native.Mathlib.Nat.{add-sub_cancel_left}
use borrow.Author.Tests.{ltb-true, ltb-false}
use lib.Dec.{ltb}
use lib.ListN.{length, length-append, length-drop}
use Rattle.std.specs.Prelude.{is_some}
use Rattle.octets.specs.Octet.{octet}
use Rattle.octets.specs.Choice.{when◌then◌else◌}
use Rattle.octets.specs.Answer.{Answer, accepted, refused}
use Rattle.octets.specs.Filled.{filled}
use Rattle.octets.proofs.Answer.{refused-accepted, accepted-same}
use Rattle.octets.proofs.Choice.{decided}
use Rattle.isup.specs.declared.Message.{Message}
use Rattle.rows.specs.declared.Act.{Act}
use Rattle.rows.specs.declared.Act.TheVariants.{Seize, Release, Reset, Block, Unblock, ResetGroup, BlockGroup, UnblockGroup, Query}
use Rattle.asks.specs.declared.Ask.{Ask}
use Rattle.rows.specs.Rows.{row_of}
use Rattle.asks.specs.Asks.{ask_in_lem, mark_of, ask_of}
use Rattle.asks.proofs.Reading.{asked_is, ask-read, ask-last}
use Rattle.rights.specs.Tables.{Tables}
use Rattle.rights.specs.Rights.{is_mine, has_right, may_help, first_unowned_lem}
use Rattle.hub.specs.Rows.{effect, rows_after}
use Rattle.hub.specs.Replies.{reply_of}
use Rattle.rights.specs.Permits.{is_unhelpable}
use Rattle.hub.specs.Acts.{grant_of, After, carried_out, act_of}
use Rattle.rights.specs.Names.{Mine, HasRight, Named, Names}
use Rattle.octets.proofs.Applied.{length-applied, applied-below, applied-past, applied-in}
use Rattle.hub.proofs.Given.{Allowed, granted}
use Rattle.rights.proofs.Meaning.{mine-is, right_is, found_none}

-- ---- the rows after a message
module _ (m : List ℕ) (a : Ask) (states : List ℕ) where
  pub length-rows : length (rows_after m a states) ≡ length states
  length-rows = length-applied (effect m a) a.circuit (a.range + 1) states

  pub row-outside : (c : ℕ) → (c < a.circuit) ⊎ (a.circuit + a.range < c) → octet (rows_after m a states) c ≡ octet states c
  row-outside c h =
      ⊎_elim
      (λ l. applied-below (effect m a) a.circuit (a.range + 1) states c l)
      (λ l. applied-past (effect m a) a.circuit (a.range + 1) states c (omega arith))
      h

  pub row_inside : (c : ℕ) → Named a c → a.circuit + a.range < length states → octet (rows_after m a states) c ≡ effect m a c (octet states c)
  row_inside c n h = applied-in (effect m a) a.circuit (a.range + 1) states c n.0 (omega (arith, n.1)) (omega (arith, n.1))

  pub row_named : (i : ℕ) → i ≤ a.range → a.circuit + a.range < length states → octet (rows_after m a states) (a.circuit + i) ≡ row_of a.act a.block (mark_of m a.status i) (octet states (a.circuit + i))
  row_named i l h = row_inside (a.circuit + i) (omega arith, omega arith) h ∙ rw add-sub_cancel_left

-- a circuit is named or not
pub named-or : (a : Ask) (c : ℕ) → Named a c ⊎ ((c < a.circuit) ⊎ (a.circuit + a.range < c))
named-or a c =
    ⊎_elim
    (λ t. inr (inl (ltb-true c a.circuit t)))
    (λ t.
    ⊎_elim
    (λ u. inr (inr (ltb-true (a.circuit + a.range) c u)))
    (λ u. inl (ltb-false c a.circuit t, ltb-false (a.circuit + a.range) c u))
    (decided (ltb (a.circuit + a.range) c)))
    (decided (ltb c a.circuit))

-- ---- what is asked
-- what is asked for by an act is that act
pub act-of : (act : Act) (m : List ℕ) (x : Message) → (ask_in_lem act m x).act ≡ act
act-of Seize m x = refl
act-of Release m x = refl
act-of Reset m x = refl
act-of Block m x = refl
act-of Unblock m x = refl
act-of ResetGroup m x = refl
act-of BlockGroup m x = refl
act-of UnblockGroup m x = refl
act-of Query m x = refl

-- IAM names one circuit
pub seized-alone : (m : List ℕ) (a : Ask) → ask_of m ≡ accepted a → a.act ≡ Seize → a.range ≡ 0
seized-alone m a e s =
    let r = ask-read m a e in
    let w = asked_is m r.0 a r.2 in
    let q : w.act ≡ Seize = sym (act-of w.act m r.0) ∙ ap (λ (b : Ask). b.act) w.is ∙ s in
    sym (ap (λ (b : Ask). b.range) (ap (λ (k : Act). ask_in_lem k m r.0) (sym q) ∙ w.is))

-- ---- a call
module _ (T : Tables) (sender : ℕ) (m buffer : List ℕ) where
  -- what an accepted call leaves
  pub record Called (n : ℕ) (r : After) : Type 0 where
    pub ask : Ask
    pub allowed : Allowed T sender m (length buffer) ask
    pub count : n ≡ length (reply_of T.states m ask)
    pub rows : r.states ≡ rows_after m ask T.states
    pub front : r.buffer ≡ filled (reply_of T.states m ask) buffer

  pub call-accepted : (n : ℕ) → (act_of T sender m buffer).answer ≡ accepted n → Called n (act_of T sender m buffer)
  unfolding act_of
  call-accepted n e = go (grant_of T sender m (length buffer)) refl e
    where
      go : (g : Answer Ask) → grant_of T sender m (length buffer) ≡ g → (carried_out T m buffer g).answer ≡ accepted n → Called n (carried_out T m buffer g)
      go (accepted a) p h = record {
        ask = a;
        allowed = granted T sender m (length buffer) a p;
        count = sym (accepted-same h);
        rows = refl;
        front = refl;
      }
      go (refused k at) p h = absurd (refused-accepted h)

  -- a refusal changes no row and no octet of the answer buffer
  pub act-keeps : (n at : ℕ) → (act_of T sender m buffer).answer ≡ refused n at → ((act_of T sender m buffer).states ≡ T.states) × ((act_of T sender m buffer).buffer ≡ buffer)
  unfolding act_of
  act-keeps n at e = go (grant_of T sender m (length buffer)) e
    where
      go : (g : Answer Ask) → (carried_out T m buffer g).answer ≡ refused n at → ((carried_out T m buffer g).states ≡ T.states) × ((carried_out T m buffer g).buffer ≡ buffer)
      go (accepted a) h = absurd (refused-accepted (sym h))
      go (refused k at) h = (refl, refl)

  -- an answer is one or the other
  pub answer-or : ((n : ℕ) × ((act_of T sender m buffer).answer ≡ accepted n)) ⊎ ((n : ℕ) × (at : ℕ) × ((act_of T sender m buffer).answer ≡ refused n at))
  unfolding act_of
  answer-or = go (grant_of T sender m (length buffer))
    where
      go : (g : Answer Ask) → ((n : ℕ) × ((carried_out T m buffer g).answer ≡ accepted n)) ⊎ ((n : ℕ) × (at : ℕ) × ((carried_out T m buffer g).answer ≡ refused n at))
      go (accepted a) = inl (length (reply_of T.states m a), refl)
      go (refused k at) = inr (k, at, refl)

  -- what was granted is what the message asks
  pub asks-so : (a : Ask) → Allowed T sender m (length buffer) a → ask_of m ≡ accepted a
  asks-so a g = g.asks

  pub reaches : (a : Ask) → Allowed T sender m (length buffer) a → a.circuit + a.range ≤ 4095
  reaches a g = ask-last m a g.asks

  -- the tables and the buffer keep their length
  pub states-length : length (act_of T sender m buffer).states ≡ length T.states
  states-length =
      ⊎_elim
      (λ e. let d = call-accepted e.0 e.1 in ap length d.rows ∙ length-rows m d.ask T.states)
      (λ e. ap length (act-keeps e.0 e.1 e.2).0)
      answer-or

  pub buffer-length : length (act_of T sender m buffer).buffer ≡ length buffer
  buffer-length =
      ⊎_elim
      (λ e.
      let d = call-accepted e.0 e.1 in
      ap length d.front ∙ (simp (length-append, length-drop) (omega (arith, d.allowed.fits))))
      (λ e. ap length (act-keeps e.0 e.1 e.2).1)
      answer-or

  -- a call changes no row that its message does not name
  pub untouched : (c : ℕ) → (Names m c → ⊥) → octet (act_of T sender m buffer).states c ≡ octet T.states c
  untouched c out =
      ⊎_elim
      (λ e.
      let d = call-accepted e.0 e.1 in
      ap (λ (l : List ℕ). octet l c) d.rows
      ∙ ⊎_elim (λ n. absurd (out (d.ask, asks-so d.ask d.allowed, n))) (λ h. row-outside m d.ask T.states c h) (named-or d.ask c))
      (λ e. ap (λ (l : List ℕ). octet l c) (act-keeps e.0 e.1 e.2).0)
      answer-or

  -- an accepted call names circuits alone on which the sender has a right
  pub names-right : (a : Ask) → Allowed T sender m (length buffer) a → (c : ℕ) → Named a c → HasRight T sender c
  names-right a g c n =
      right_is T sender c (found_none (has_right T.owners T.helpers sender) a.circuit (a.range + 1) g.right c n.0 (omega (arith, n.1)))

  -- and where a helper may not do the act, circuits alone that it owns
  pub names-mine : (a : Ask) → Allowed T sender m (length buffer) a → may_help a.act a.block ≡ false → (c : ℕ) → Named a c → Mine T.owners sender c
  unfolding is_unhelpable
  names-mine a g h c n =
      let u : is_some (first_unowned_lem T.owners sender a.circuit (a.range + 1)) ≡ false = ap (λ (b : Bool). when b then false else is_some (first_unowned_lem T.owners sender a.circuit (a.range + 1))) (sym h) ∙ g.helps in
      mine-is T.owners sender c (found_none (is_mine T.owners sender) a.circuit (a.range + 1) u c n.0 (omega (arith, n.1)))

  -- a row on which the sender has no right stays
  pub only-right : (c : ℕ) → (HasRight T sender c → ⊥) → octet (act_of T sender m buffer).states c ≡ octet T.states c
  only-right c out =
      ⊎_elim
      (λ e.
      let d = call-accepted e.0 e.1 in
      ap (λ (l : List ℕ). octet l c) d.rows
      ∙ ⊎_elim (λ n. absurd (out (names-right d.ask d.allowed c n))) (λ h. row-outside m d.ask T.states c h) (named-or d.ask c))
      (λ e. ap (λ (l : List ℕ). octet l c) (act-keeps e.0 e.1 e.2).0)
      answer-or

  -- only a sender who is not 0 is ever accepted, and none above 255 where
  -- owners and helpers are octets
  pub accepted-sender : (n : ℕ) → (act_of T sender m buffer).answer ≡ accepted n → (sender ≡ 0 → ⊥) × (((c : ℕ) → octet T.owners c < 256) → ((c : ℕ) → octet T.helpers c < 256) → sender < 256)
  accepted-sender n e =
      let d = call-accepted n e in
      let w = names-right d.ask d.allowed d.ask.circuit (omega arith, omega arith) in (
        ⊎_elim (λ k. k.1) (λ k. k.1) w,
        λ o h. ⊎_elim (λ k. omega (arith, k.0, o d.ask.circuit)) (λ k. omega (arith, k.0, h d.ask.circuit)) w,
      )
