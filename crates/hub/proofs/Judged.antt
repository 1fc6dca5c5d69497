-- Refused exactly when: the number is the first fault in the paper's order,
-- and acceptance is the absence of all.
use Prim.Native.Nat.{ℕ}
use mathlib.Core.Path.{◌≡◌, refl, sym, ◌∙◌, subst}
use mathlib.Core.List.{List, [], ◌∷◌, ◌++◌}
use mathlib.Core.Logic.{◌↔◌}
use native.Mathlib.Omega.{arith}
use borrow.Author.Tests.{ltb-true, ltb-false}
use lib.Dec.{ltb}
use lib.ListN.{length}
use Rattle.octets.specs.Octet.{octet}
use Rattle.octets.specs.Answer.{Answer, accepted, refused}
use Rattle.octets.specs.Faults.{First, None, Judges, fault}
use Rattle.octets.proofs.Answer.{refused-accepted, refused_as}
use Rattle.octets.proofs.Faults.{judges-done, judges-if, judges-then}
use Rattle.isup.specs.declared.Message.{Message}
use Rattle.isup.specs.WellFormed.{WellFormed}
use Rattle.isup.proofs.Exactly.{read-exactly}
use Rattle.rows.specs.declared.Act.{Act}
use Rattle.rows.specs.declared.Act.TheVariants.{Seize, Release, Reset, Block, Unblock, ResetGroup, BlockGroup, UnblockGroup, Query}
use Rattle.asks.specs.declared.Ask.{Ask}
use Rattle.asks.specs.Types.{type_of}
use Rattle.asks.specs.Asks.{ask_in_lem, IsAsked, ask_of}
use Rattle.asks.specs.Faults.{Reads, range_given, ask_faults}
use Rattle.asks.proofs.Types.{type-is}
use Rattle.asks.proofs.Reading.{ask-read, asked_is}
use Rattle.asks.proofs.Judged.{of-reads, asked-names, ask-judges}
use Rattle.rights.specs.Tables.{Tables}
use Rattle.replies.specs.Replies.{reply_length}
use Rattle.hub.specs.Replies.{reply_of}
use Rattle.rights.specs.Permits.{permitted_of}
use Rattle.hub.specs.Acts.{roomed, allowed_of, grant_of, carried_out, act_of}
use Rattle.rights.specs.Faults.{right_faults}
use Rattle.rights.proofs.Judged.{sized-judges, permitted-judges}
use Rattle.hub.specs.Faults.{answer_size, NoRoom, act_faults}
use Rattle.hub.proofs.Writing.{length-reply}
use Rattle.rights.proofs.Given.{permitted}

-- ---- the answer's length, by the type
size-by : (m : List ℕ) (x : Message) (r row : ℕ) (act : Act) → x.kind ≡ type_of act → reply_length (ask_in_lem act m x).act r row ≡ answer_size x.kind r row
unfolding reply_length
size-by m x r row Seize e = rw e refl
size-by m x r row Release e = rw e refl
size-by m x r row Reset e = rw e refl
size-by m x r row Block e = rw e refl
size-by m x r row Unblock e = rw e refl
size-by m x r row ResetGroup e = rw e refl
size-by m x r row BlockGroup e = rw e refl
size-by m x r row UnblockGroup e = rw e refl
size-by m x r row Query e = rw e refl

-- ---- what is allowed
module _ (T : Tables) (sender : ℕ) (m : List ℕ) (room : ℕ) (x : Message) (f : WellFormed m x) (a : Ask) (k : IsAsked m x a) where
  -- what is asked is answered by as many octets as the message says
  reply-size : length (reply_of T.states m a) ≡ answer_size x.kind (range_given m x) (octet T.states x.circuit)
  reply-size =
      let names = asked-names m x a k in
      let row = octet T.states x.circuit in
      length-reply T.states m a
      ∙ (λ i. reply_length a.act (names.1 i) (octet T.states (names.0 i)))
      ∙ subst (λ (b : Ask). reply_length b.act (range_given m x) row ≡ answer_size x.kind (range_given m x) row) k.2
      (size-by m x (range_given m x) row k.0 (type-is x.kind k.0 k.1))

  roomed-judges : Judges (roomed T m room a) (fault 13 0 (Reads m (NoRoom T.states m room)) ∷ [])
  roomed-judges =
      judges-if (ltb room (length (reply_of T.states m a)))
      (λ w. (x, f, omega (arith, ltb-true room (length (reply_of T.states m a)) w, reply-size)))
      (λ w h. omega (arith, of-reads m x f (NoRoom T.states m room) h, ltb-false room (length (reply_of T.states m a)) w, reply-size))
      (λ w. judges-done a)

  allowed-judges : Judges (allowed_of T sender m room a)
      (right_faults T sender m ++ (fault 13 0 (Reads m (NoRoom T.states m room)) ∷ []))
  unfolding allowed_of
  allowed-judges =
      judges-then (permitted_of T sender a) (roomed T m room)
      (right_faults T sender m)
      (fault 13 0 (Reads m (NoRoom T.states m room)) ∷ [])
      (permitted-judges T sender m x f a k)
      (λ b e. subst (λ (y : Ask). Judges (roomed T m room y) (fault 13 0 (Reads m (NoRoom T.states m room)) ∷ [])) (permitted T sender a b e).0 roomed-judges)

-- a call is refused with the first of its faults, with the octet that it is about, and accepted
-- exactly where there is none
pub act-judges : (T : Tables) (sender : ℕ) (m : List ℕ) (room : ℕ) → Judges (grant_of T sender m room) (act_faults T sender m room)
unfolding grant_of
act-judges T sender m room = sized-judges T _ (λ t. judges-then (ask_of m) (allowed_of T sender m room) (ask_faults m) _ (ask-judges m) (λ a e. asked a e))
  where
    asked : (a : Ask) → ask_of m ≡ accepted a → Judges (allowed_of T sender m room a)
        (right_faults T sender m ++ (fault 13 0 (Reads m (NoRoom T.states m room)) ∷ []))
    asked a e =
        let r = ask-read m a e in
        let w = asked_is m r.0 a r.2 in
        allowed-judges T sender m room r.0 ((read-exactly m r.0).0 r.1) a (w.act, w.acts, w.is)

-- the same of the answer itself
module _ (T : Tables) (sender : ℕ) (m buffer : List ℕ) where
  pub answered : (g : Answer Ask) (n at : ℕ) → ((carried_out T m buffer g).answer ≡ refused n at) ↔ (g ≡ refused n at)
  answered (accepted a) n at = (λ e. absurd (refused-accepted (sym e)), λ e. absurd (refused-accepted (sym e)))
  answered (refused k q) n at = (λ e. refused_as e, λ e. refused_as e)

  accepts : (g : Answer Ask) → ((n : ℕ) × ((carried_out T m buffer g).answer ≡ accepted n)) ↔ ((a : Ask) × (g ≡ accepted a))
  accepts (accepted a) = (λ e. (a, refl), λ h. (length (reply_of T.states m a), refl))
  accepts (refused k at) = (λ e. absurd (refused-accepted e.1), λ h. absurd (refused-accepted h.1))

  pub act-refuses-exactly : (n at : ℕ) → ((act_of T sender m buffer).answer ≡ refused n at) ↔ First (act_faults T sender m (length buffer)) n at
  unfolding act_of
  act-refuses-exactly n at =
      let j = (act-judges T sender m (length buffer)).refuses n at in
      let w = answered (grant_of T sender m (length buffer)) n at in
      (λ e. j.0 (w.0 e), λ f. w.1 (j.1 f))

  pub act-accepts-exactly : ((n : ℕ) × ((act_of T sender m buffer).answer ≡ accepted n)) ↔ None (act_faults T sender m (length buffer))
  unfolding act_of
  act-accepts-exactly =
      let j = act-judges T sender m (length buffer) in
      let w = accepts (grant_of T sender m (length buffer)) in
      (λ e. j.accepts.0 (w.0 e), λ h. w.1 (j.accepts.1 h))
