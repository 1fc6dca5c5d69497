-- What a call depends on: its message, its sender, the lent buffer, and the states and owners of
-- the circuits that its message names.
use Prim.Native.Nat.{ℕ, ◌+◌, ◌≤◌, ◌<◌}
use mathlib.Core.Path.{◌≡◌, refl, sym, ◌∙◌, ap, subst}
use mathlib.Core.Bool.{true, false, not}
use mathlib.Core.List.{List}
use native.Mathlib.Omega.{arith}
use lib.Dec.{ltb, eqb}
use lib.ListN.{length}
use Rattle.std.specs.Prelude.{is_some}
use Rattle.octets.specs.Octet.{octet}
use Rattle.octets.specs.Choice.{when◌then◌else◌}
use Rattle.octets.specs.Answer.{Answer, accepted, refused}
use Rattle.octets.specs.Filled.{filled}
use Rattle.octets.proofs.Answer.{accepted-same, then_same}
use Rattle.rows.specs.declared.Act.{Act}
use Rattle.rows.specs.declared.Act.TheVariants.{Seize, Release, Reset, Block, Unblock, ResetGroup, BlockGroup, UnblockGroup, Query}
use Rattle.rows.specs.Rows.{is_legal}
use Rattle.asks.specs.declared.Ask.{Ask}
use Rattle.replies.specs.Replies.{reply_length}
use Rattle.rights.specs.Tables.{Tables}
use Rattle.asks.specs.Asks.{ask_of}
use Rattle.rights.specs.Rights.{is_mine, has_right, may_help, first_foreign_lem, first_unowned_lem, first_illegal_lem}
use Rattle.hub.specs.Rows.{effect}
use Rattle.hub.specs.Replies.{reply_of}
use Rattle.rights.specs.Permits.{is_taken, is_unhelpable, permitted_of}
use Rattle.hub.specs.Acts.{roomed, allowed_of, grant_of, carried_out, act_of}
use Rattle.rights.specs.Names.{Named, Names}
use Rattle.rights.proofs.Meaning.{search-same}
use Rattle.hub.proofs.Writing.{length-reply, reply-alike}
use Rattle.rights.proofs.Given.{permitted}
use Rattle.hub.proofs.Given.{granted, grant-sized}
use Rattle.hub.proofs.Called.{row_inside, asks-so, reaches}

-- the two sets of tables agree on the circuits that the message names
abbrev pub AgreeOn : List ℕ → Tables → Tables → Type 0
AgreeOn m T U = (c : ℕ) → Names m c → (octet T.states c ≡ octet U.states c) × (octet T.owners c ≡ octet U.owners c) × (octet T.helpers c ≡ octet U.helpers c)

-- 21 looks at the circuit's row alone
taken-same : (s t : List ℕ) (act : Act) (c : ℕ) → octet s c ≡ octet t c → is_taken s act c ≡ is_taken t act c
taken-same s t Seize c e = ap (λ (o : ℕ). not (eqb o 0)) e
taken-same s t Release c e = refl
taken-same s t Reset c e = refl
taken-same s t Block c e = refl
taken-same s t Unblock c e = refl
taken-same s t ResetGroup c e = refl
taken-same s t BlockGroup c e = refl
taken-same s t UnblockGroup c e = refl
taken-same s t Query c e = refl

module _ (T U : Tables) (sender : ℕ) (m : List ℕ) where
  -- whether there is room depends on the row of the first named circuit alone
  roomed-same : (room : ℕ) (a : Ask) → octet T.states a.circuit ≡ octet U.states a.circuit → roomed T m room a ≡ roomed U m room a
  roomed-same room a e =
      ap (λ (n : ℕ). when ltb room n then refused 13 0 else accepted a)
      (length-reply T.states m a ∙ ap (reply_length a.act a.range) e ∙ sym (length-reply U.states m a))

  -- the checks look at the named rows alone
  pub allowed_same : (room : ℕ) (a : Ask) → ((c : ℕ) → Named a c → (octet T.states c ≡ octet U.states c) × (octet T.owners c ≡ octet U.owners c) × (octet T.helpers c ≡ octet U.helpers c)) → allowed_of T sender m room a ≡ allowed_of U sender m room a
  unfolding allowed_of permitted_of is_unhelpable
  allowed_same room a h =
      let o : (j : ℕ) → a.circuit ≤ j → j < a.circuit + (a.range + 1) → is_mine T.owners sender j ≡ is_mine U.owners sender j =
      λ j p q. ap (λ (k : ℕ). when eqb sender 0 then false else eqb k sender) (h j (p, omega arith)).1 in
      let f : first_foreign_lem T.owners T.helpers sender a.circuit (a.range + 1) ≡ first_foreign_lem U.owners U.helpers sender a.circuit (a.range + 1) =
      search-same (has_right T.owners T.helpers sender) (has_right U.owners U.helpers sender) a.circuit (a.range + 1)
      (λ j p q. (let e = o j p q in let g = ap (λ (k : ℕ). when eqb sender 0 then false else eqb k sender) (h j (p, omega arith)).2 in λ i. when e i then true else g i)) in
      let u : first_unowned_lem T.owners sender a.circuit (a.range + 1) ≡ first_unowned_lem U.owners sender a.circuit (a.range + 1) =
      search-same (is_mine T.owners sender) (is_mine U.owners sender) a.circuit (a.range + 1) o in
      let l : first_illegal_lem T.states a.circuit (a.range + 1) ≡ first_illegal_lem U.states a.circuit (a.range + 1) =
      search-same (λ c. is_legal (octet T.states c)) (λ c. is_legal (octet U.states c)) a.circuit (a.range + 1)
      (λ j p q. ap is_legal (h j (p, omega arith)).0) in
      let t : is_taken T.states a.act a.circuit ≡ is_taken U.states a.act a.circuit =
      taken-same T.states U.states a.act a.circuit (h a.circuit (omega arith, omega arith)).0 in
      then_same (permitted_of T sender a)
      (λ i.
      when is_some (f i) then refused 19 0
      else when (when may_help a.act a.block then false else is_some (u i)) then refused 22 0
      else when is_some (l i) then refused 20 0
      else when t i then refused 21 0
      else accepted a)
      (λ b e. let s : a ≡ b = (permitted T sender a b e).0 in roomed-same room b (subst (λ (y : Ask). octet T.states y.circuit ≡ octet U.states y.circuit) s (h a.circuit (omega arith, omega arith)).0))

  module _ (p : length T.states ≡ 4096) (p' : length U.states ≡ 4096) (q : length T.owners ≡ 4096) (q' : length U.owners ≡ 4096) (w : length T.helpers ≡ 4096) (w' : length U.helpers ≡ 4096) (agree : AgreeOn m T U) where
    grant-same : (room : ℕ) → grant_of T sender m room ≡ grant_of U sender m room
    grant-same room =
        grant-sized T sender m room p q w
        ∙ then_same (ask_of m) refl (λ a e. allowed_same room a (λ c n. agree c (a, e, n)))
        ∙ sym (grant-sized U sender m room p' q' w')

    module _ (buffer : List ℕ) where
      -- the answer is from the named rows alone
      reply-cases : (a : Ask) → grant_of T sender m (length buffer) ≡ accepted a → reply_of T.states m a ≡ reply_of U.states m a
      reply-cases a e =
          let g = granted T sender m (length buffer) a e in
          let r = reaches T sender m buffer a g in
          reply-alike T.states U.states m a (omega arith) (omega arith) (λ c n. (agree c (a, asks-so T sender m buffer a g, n)).0)

      answer-cases : (g : Answer Ask) → grant_of T sender m (length buffer) ≡ g → ((carried_out T m buffer g).answer ≡ (carried_out U m buffer g).answer) × ((carried_out T m buffer g).buffer ≡ (carried_out U m buffer g).buffer)
      answer-cases (accepted a) e = (ap (λ (o : List ℕ). accepted (length o)) (reply-cases a e), ap (λ (o : List ℕ). filled o buffer) (reply-cases a e))
      answer-cases (refused n at) e = (refl, refl)

      row-cases : (g : Answer Ask) → grant_of T sender m (length buffer) ≡ g → (c : ℕ) → Names m c → octet (carried_out T m buffer g).states c ≡ octet (carried_out U m buffer g).states c
      row-cases (accepted a) e c n =
          let g = granted T sender m (length buffer) a e in
          let r = reaches T sender m buffer a g in
          let s : n.0 ≡ a = accepted-same (sym n.1 ∙ asks-so T sender m buffer a g) in
          let k : Named a c = subst (λ (b : Ask). Named b c) s n.2 in
          row_inside m a T.states c k (omega arith) ∙ ap (effect m a c) (agree c n).0 ∙ sym (row_inside m a U.states c k (omega arith))
      row-cases (refused k at) e c n = (agree c n).0

      -- the answer is the same
      pub local-answer : (act_of T sender m buffer).answer ≡ (act_of U sender m buffer).answer
      unfolding act_of
      local-answer =
          (answer-cases (grant_of T sender m (length buffer)) refl).0
          ∙ ap (λ g. (carried_out U m buffer g).answer) (grant-same (length buffer))

      -- the buffer afterwards is the same
      pub local-buffer : (act_of T sender m buffer).buffer ≡ (act_of U sender m buffer).buffer
      unfolding act_of
      local-buffer =
          (answer-cases (grant_of T sender m (length buffer)) refl).1
          ∙ ap (λ g. (carried_out U m buffer g).buffer) (grant-same (length buffer))

      -- the named rows afterwards are the same
      pub local-rows : (c : ℕ) → Names m c → octet (act_of T sender m buffer).states c ≡ octet (act_of U sender m buffer).states c
      unfolding act_of
      local-rows c n =
          row-cases (grant_of T sender m (length buffer)) refl c n
          ∙ ap (λ g. octet (carried_out U m buffer g).states c) (grant-same (length buffer))
