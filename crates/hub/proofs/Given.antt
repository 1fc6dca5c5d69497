-- The hub from what its calls ensure, over plain variables.
use Prim.Native.Nat.{ℕ, ◌+◌, ◌≤◌}
use mathlib.Core.Path.{◌≡◌, refl, sym, ◌∙◌, ap, subst}
use mathlib.Core.Bool.{Bool, true, false}
use mathlib.Core.List.{List}
use borrow.Author.Tests.{eq-eqb, eqb-true, ltb-false}
use lib.Dec.{ltb, eqb}
use lib.ListN.{length}
use Rattle.std.specs.Prelude.{Result, Ok, Err, is_some}
use Rattle.octets.specs.Octet.{AllOctets}
use Rattle.octets.specs.Choice.{when◌then◌else◌}
use Rattle.octets.specs.Answer.{Answer, accepted, refused, ◌then◌}
use Rattle.octets.specs.Filled.{Done, done, leaving}
use Rattle.octets.specs.Told.{refusal_number, refusal_place, told}
use Rattle.octets.specs.declared.Refusal.{Refusal}
use Rattle.octets.proofs.Answer.{refused-accepted, accepted-same, past-test, then-accepted}
use Rattle.octets.proofs.Choice.{true-false}
use Rattle.asks.specs.declared.Ask.{Ask}
use Rattle.asks.specs.Asks.{ask_of, Sound}
use Rattle.asks.proofs.Reading.{ask-sound}
use Rattle.replies.specs.Replies.{sent}
use Rattle.rights.specs.Tables.{Tables, sized}
use Rattle.rights.specs.Rights.{first_foreign_lem, first_illegal_lem}
use Rattle.hub.specs.Rows.{rows_after}
use Rattle.hub.specs.Replies.{reply_of}
use Rattle.rights.specs.Permits.{is_taken, is_unhelpable, permitted_of}
use Rattle.rights.proofs.Given.{Permitted, permitted}
use Rattle.hub.specs.Acts.{roomed, allowed_of, judged_of, grant_of, after, carried_out, act_of}

-- ---- all that is looked at, with tables of the right length
pub grant-sized : (T : Tables) (sender : ℕ) (m : List ℕ) (room : ℕ) → length T.states ≡ 4096 → length T.owners ≡ 4096 → length T.helpers ≡ 4096 → grant_of T sender m room ≡ (ask_of m then allowed_of T sender m room)
unfolding grant_of
grant-sized T sender m room p q h = rw (eq-eqb _ _ p, eq-eqb _ _ q, eq-eqb _ _ h)

module _ (T : Tables) (sender : ℕ) (m : List ℕ) (p : length T.states ≡ 4096) (q : length T.owners ≡ 4096) (h : length T.helpers ≡ 4096) where
  judged-sized : judged_of T sender m ≡ (ask_of m then permitted_of T sender)
  unfolding judged_of
  judged-sized = rw (eq-eqb _ _ p, eq-eqb _ _ q, eq-eqb _ _ h)

  module _ (v : Result Ask Refusal) (w : told v ≡ ask_of m) where
    pub judged-refused : (why : Refusal) → v ≡ Err why → refused (refusal_number why) (refusal_place why) ≡ judged_of T sender m
    judged-refused why f =
        sym (judged-sized ∙ ap (λ z. z then permitted_of T sender) (sym w ∙ ap told f))

    pub judged-asked : (a : Ask) → v ≡ Ok a → permitted_of T sender a ≡ judged_of T sender m
    judged-asked a f =
        sym (judged-sized ∙ ap (λ z. z then permitted_of T sender) (sym w ∙ ap told f))

-- what is granted is what is judged, with room for its answer
pub grant-judged : (T : Tables) (sender : ℕ) (m : List ℕ) (room : ℕ) → grant_of T sender m room ≡ (judged_of T sender m then roomed T m room)
unfolding grant_of judged_of allowed_of
grant-judged T sender m room = go (sized T) (ask_of m)
  where
    go : (t : Bool) (x : Answer Ask) → (when t then (x then (λ a. permitted_of T sender a then roomed T m room)) else refused 16 0) ≡ ((when t then (x then permitted_of T sender) else refused 16 0) then roomed T m room)
    go true (accepted a) = refl
    go true (refused n at) = refl
    go false x = refl

both : (s t : Bool) → (when s then t else false) ≡ true → (s ≡ true) × (t ≡ true)
both true t e = (refl, e)
both false t e = absurd (true-false {t = false} e refl)

-- what is judged and not refused
pub record Fair (T : Tables) (sender : ℕ) (m : List ℕ) (a : Ask) : Type 0 where
  pub states-sized : length T.states ≡ 4096
  pub owners-sized : length T.owners ≡ 4096
  pub helpers-sized : length T.helpers ≡ 4096
  pub asks : ask_of m ≡ accepted a
  pub permits : Permitted T sender a

pub fair : (T : Tables) (sender : ℕ) (m : List ℕ) (a : Ask) → judged_of T sender m ≡ accepted a → Fair T sender m a
unfolding judged_of
fair T sender m a e = go (sized T) refl e
  where
    go : (t : Bool) → sized T ≡ t → (when t then (ask_of m then permitted_of T sender) else refused 16 0) ≡ accepted a → Fair T sender m a
    go false s h = absurd (refused-accepted h)
    go true s h =
        let k = both (eqb (length T.states) 4096) (when eqb (length T.owners) 4096 then eqb (length T.helpers) 4096 else false) s in
        let l = both (eqb (length T.owners) 4096) (eqb (length T.helpers) 4096) k.1 in
        let g = then-accepted (ask_of m) (permitted_of T sender) h in
        let p = permitted T sender g.0 a g.2 in
        record {
          states-sized = eqb-true _ _ k.0;
          owners-sized = eqb-true _ _ l.0;
          helpers-sized = eqb-true _ _ l.1;
          asks = g.1 ∙ ap accepted p.0;
          permits = p.1;
        }

-- ---- what is known of what is granted
pub record Allowed (T : Tables) (sender : ℕ) (m : List ℕ) (room : ℕ) (a : Ask) : Type 0 where
  pub states-sized : length T.states ≡ 4096
  pub owners-sized : length T.owners ≡ 4096
  pub helpers-sized : length T.helpers ≡ 4096
  pub asks : ask_of m ≡ accepted a
  pub right : is_some (first_foreign_lem T.owners T.helpers sender a.circuit (a.range + 1)) ≡ false
  pub helps : is_unhelpable T sender a ≡ false
  pub legal : is_some (first_illegal_lem T.states a.circuit (a.range + 1)) ≡ false
  pub free : is_taken T.states a.act a.circuit ≡ false
  pub fits : length (reply_of T.states m a) ≤ room

pub granted : (T : Tables) (sender : ℕ) (m : List ℕ) (room : ℕ) (a : Ask) → grant_of T sender m room ≡ accepted a → Allowed T sender m room a
granted T sender m room a e =
    let g = then-accepted (judged_of T sender m) (roomed T m room) (sym (grant-judged T sender m room) ∙ e) in
    let t = past-test 13 0 (ltb room (length (reply_of T.states m g.0))) g.2 in
    let f = fair T sender m g.0 g.1 in
    subst (λ (y : Ask). Allowed T sender m room y) (accepted-same t.1)
    (record {
      states-sized = f.states-sized;
      owners-sized = f.owners-sized;
      helpers-sized = f.helpers-sized;
      asks = f.asks;
      right = f.permits.right;
      helps = f.permits.helps;
      legal = f.permits.legal;
      free = f.permits.free;
      fits = ltb-false _ _ t.0;
    })

-- ---- a call
module _ (T : Tables) (sender : ℕ) (m buffer : List ℕ) (v : Result Ask Refusal) (w : told v ≡ judged_of T sender m) where
  -- what is carried out of what was judged
  carried : {x : Answer Ask} → told v ≡ x → carried_out T m buffer (x then roomed T m (length buffer)) ≡ act_of T sender m buffer
  unfolding act_of
  carried e = ap (carried_out T m buffer) (ap (λ z. z then roomed T m (length buffer)) (sym e ∙ w) ∙ sym (grant-judged T sender m (length buffer)))

  pub act-refused : (why : Refusal) → v ≡ Err why → after (refused (refusal_number why) (refusal_place why)) T.states buffer ≡ act_of T sender m buffer
  act-refused why f = carried (ap told f)

  module _ (a : Ask) (f : v ≡ Ok a) where
    pub act-fair : Fair T sender m a
    act-fair = fair T sender m a (sym w ∙ ap told f)

    pub act-sound : AllOctets m → Sound m a
    act-sound o = ask-sound m a o act-fair.asks

    module _ (r : Result ℕ Refusal) (left : List ℕ) (e : leaving (told r) left ≡ sent (reply_of T.states m a) buffer) where
      -- there was no room for the answer
      pub act-short : (why : Refusal) → r ≡ Err why → after (refused (refusal_number why) (refusal_place why)) T.states left ≡ act_of T sender m buffer
      act-short why q = go (refusal_number why) (refusal_place why) (ltb (length buffer) (length (reply_of T.states m a))) (ap (λ (y : Result ℕ Refusal). leaving (told y) left) (sym q) ∙ e) ∙ carried (ap told f)
        where
          go : (n at : ℕ) (t : Bool) → leaving (refused n at) left ≡ done buffer (when t then refused 13 0 else accepted (length (reply_of T.states m a), reply_of T.states m a)) → after (refused n at) T.states left ≡ carried_out T m buffer (when t then refused 13 0 else accepted a)
          go n at true h = ap (λ (d : Done ℕ). after d.answer T.states d.left) h
          go n at false h = absurd (refused-accepted (ap (λ (d : Done ℕ). d.answer) h))

      -- there was, and the rows changed
      pub act-done : (n : ℕ) (states' : List ℕ) → r ≡ Ok n → states' ≡ rows_after m a T.states → after (accepted n) states' left ≡ act_of T sender m buffer
      act-done n states' q p = go (ltb (length buffer) (length (reply_of T.states m a))) (ap (λ (y : Result ℕ Refusal). leaving (told y) left) (sym q) ∙ e) ∙ carried (ap told f)
        where
          go : (t : Bool) → leaving (accepted n) left ≡ done buffer (when t then refused 13 0 else accepted (length (reply_of T.states m a), reply_of T.states m a)) → after (accepted n) states' left ≡ carried_out T m buffer (when t then refused 13 0 else accepted a)
          go true h = absurd (refused-accepted (sym (ap (λ (d : Done ℕ). d.answer) h)))
          go false h = λ i. after (h i).answer (p i) (h i).left

-- 19 is the first of what is looked at
pub allow-foreign : (T : Tables) (sender : ℕ) (m : List ℕ) (room : ℕ) (a : Ask) → is_some (first_foreign_lem T.owners T.helpers sender a.circuit (a.range + 1)) ≡ true → refused 19 0 ≡ allowed_of T sender m room a
unfolding allowed_of permitted_of
allow-foreign T sender m room a e = rw e
