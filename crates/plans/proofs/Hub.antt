-- What the hub accepts of a plan's messages: what they ask, where the sender
-- may block every named circuit so.
use Prim.Native.Nat.{ℕ, ◌+◌, ◌≤◌}
use mathlib.Core.Path.{◌≡◌, refl, sym, ◌∙◌, ap, subst}
use mathlib.Core.Bool.{Bool, true, false}
use mathlib.Core.List.{List}
use mathlib.Core.Logic.{◌⊎◌, inl, inr, ⊎_elim}
use native.Mathlib.Omega.{arith}
use borrow.Author.Tests.{eqb-true, eq-eqb}
use lib.Dec.{eqb}
use lib.ListN.{length}
use Rattle.std.specs.Prelude.{is_some}
use Rattle.octets.specs.Octet.{octet}
use Rattle.octets.specs.Choice.{when◌then◌else◌}
use Rattle.octets.specs.Answer.{accepted, ◌then◌}
use Rattle.octets.proofs.Choice.{chosen, decided, true-false}
use Rattle.rows.specs.declared.Act.{Act}
use Rattle.rows.specs.declared.Act.TheVariants.{Seize, Release, Reset, Block, Unblock, ResetGroup, BlockGroup, UnblockGroup, Query}
use Rattle.rows.specs.Rows.{is_legal}
use Rattle.asks.specs.declared.Ask.{Ask}
use Rattle.asks.specs.Asks.{ask_of, ask_in_lem, broken, indicator_in, range_in, width}
use Rattle.asks.proofs.Reading.{ask-read, asked_is, ask-last, whole-group, contents-in}
use Rattle.isup.proofs.Exactly.{read-exactly}
use Rattle.replies.specs.Replies.{reply_length}
use Rattle.rights.specs.Tables.{Tables}
use Rattle.rights.specs.Rights.{is_mine, has_right, may_help, first_foreign_lem, first_unowned_lem, first_illegal_lem}
use Rattle.rights.specs.Permits.{is_taken, is_unhelpable}
use Rattle.hub.specs.Acts.{judged_of}
use Rattle.rights.specs.Names.{Named}
use Rattle.hub.proofs.Given.{fair}
use Rattle.rights.proofs.Given.{permit-all}
use Rattle.hub.proofs.Called.{act-of}
use Rattle.rights.proofs.Meaning.{found_none, none_found}
use Rattle.plans.specs.Plans.{planned, fits_kind, Grants}
use Rattle.plans.specs.Turns.{AllLegal, may_block_lem}

-- ---- the acts of a plan
no-plan : {A : Type 0} → false ≡ true → A
no-plan e = absurd (true-false {t = false} e refl)

-- they are BLO and CGB, and BLO is for maintenance alone
pub planned-acts : (kind : ℕ) (act : Act) (block : ℕ) → planned kind act block ≡ true → ((act ≡ Block) × (kind ≡ 0)) ⊎ ((act ≡ BlockGroup) × (block ≡ kind))
unfolding planned
planned-acts kind Seize block e = no-plan e
planned-acts kind Release block e = no-plan e
planned-acts kind Reset block e = no-plan e
planned-acts kind Block block e = inl (refl, eqb-true _ _ e)
planned-acts kind Unblock block e = no-plan e
planned-acts kind ResetGroup block e = no-plan e
planned-acts kind BlockGroup block e = inr (refl, eqb-true _ _ e)
planned-acts kind UnblockGroup block e = no-plan e
planned-acts kind Query block e = no-plan e

-- a helper may do them for maintenance, and for hardware may not
planned-helpable : (kind : ℕ) (act : Act) (block : ℕ) → planned kind act block ≡ true → may_help act block ≡ eqb kind 0
unfolding may_help
planned-helpable kind act block e =
    ⊎_elim
    (λ (t : (act ≡ Block) × (kind ≡ 0)). ap (λ (x : Act). may_help x block) t.0 ∙ sym (eq-eqb _ _ t.1))
    (λ (t : (act ≡ BlockGroup) × (block ≡ kind)). ap (λ (x : Act). may_help x block) t.0 ∙ ap (λ (k : ℕ). eqb k 0) t.1)
    (planned-acts kind act block e)

-- 21 never stands against them
planned-free : (kind : ℕ) (states : List ℕ) (act : Act) (block circuit : ℕ) → planned kind act block ≡ true → is_taken states act circuit ≡ false
planned-free kind states act block circuit e =
    ⊎_elim
    (λ (t : (act ≡ Block) × (kind ≡ 0)). ap (λ (x : Act). is_taken states x circuit) t.0)
    (λ (t : (act ≡ BlockGroup) × (block ≡ kind)). ap (λ (x : Act). is_taken states x circuit) t.0)
    (planned-acts kind act block e)

-- ---- what a CGB asks
-- two circuits at the least, and its status is in the message
pub group-asked : (m : List ℕ) (a : Ask) → ask_of m ≡ accepted a → a.act ≡ BlockGroup → (1 ≤ a.range) × (width a.range ≤ length m)
group-asked m a e k =
    let r = ask-read m a e in
    let x = r.0 in
    let w = asked_is m x a r.2 in
    let q : w.act ≡ BlockGroup = sym (act-of w.act m x) ∙ ap (λ (y : Ask). y.act) w.is ∙ k in
    let b : broken BlockGroup m x ≡ false = ap (λ (t : Act). broken t m x) (sym q) ∙ w.kept in
    let g = whole-group m (indicator_in m x) x.parts.first b in
    let n : a.range ≡ range_in m x.parts.first = ap (λ (y : Ask). y.range) (sym w.is ∙ ap (λ (t : Act). ask_in_lem t m x) q) in
    let i = contents-in m x ((read-exactly m x).0 r.1) in
    rw n (omega (arith, g.range), omega (arith, g.exact, i.0, i.1))

-- 13 never stands against a plan's message: its answer fits 268 octets
pub planned-short : (kind : ℕ) (m : List ℕ) (a : Ask) (row : ℕ) → ask_of m ≡ accepted a → fits_kind kind a ≡ true → length m ≤ 255 → reply_length a.act a.range row ≤ 268
unfolding reply_length
planned-short kind m a row e f h =
    ⊎_elim
    (λ (t : (a.act ≡ Block) × (kind ≡ 0)). subst (λ (x : Act). reply_length x a.range row ≤ 268) (sym t.0) (omega arith))
    (λ (t : (a.act ≡ BlockGroup) × (a.block ≡ kind)).
    let g = group-asked m a e t.0 in
    subst (λ (x : Act). reply_length x a.range row ≤ 268) (sym t.0) (omega (arith, g.1)))
    (planned-acts kind a.act a.block f)

module _ (T : Tables) (sender : ℕ) where
  -- what is accepted is what the message asks
  pub judged-asks : (m : List ℕ) (a : Ask) → judged_of T sender m ≡ accepted a → ask_of m ≡ accepted a
  judged-asks m a e = (fair T sender m a e).asks

  -- ---- who may block what
  may-own : (kind c : ℕ) → eqb kind 0 ≡ false → may_block_lem kind T.owners T.helpers sender c ≡ true → is_mine T.owners sender c ≡ true
  unfolding may_block_lem
  may-own kind c k e = ⊎_elim (λ t. absurd (true-false t.0 k)) (λ t. t.1) (chosen (eqb kind 0) e)

  -- what the hub accepts names only what may be blocked so
  pub judged-rights : (kind : ℕ) (m : List ℕ) (a : Ask) → judged_of T sender m ≡ accepted a → fits_kind kind a ≡ true → (c : ℕ) → Named a c → may_block_lem kind T.owners T.helpers sender c ≡ true
  unfolding may_block_lem is_unhelpable
  judged-rights kind m a e f c n =
      let g = (fair T sender m a e).permits in
      let h = planned-helpable kind a.act a.block f in
      ⊎_elim
      (λ (t : eqb kind 0 ≡ true).
      rw t (found_none (has_right T.owners T.helpers sender) a.circuit (a.range + 1) g.right c n.0 (omega (arith, n.1))))
      (λ (t : eqb kind 0 ≡ false).
      let u : is_some (first_unowned_lem T.owners sender a.circuit (a.range + 1)) ≡ false = ap (λ (b : Bool). when b then false else is_some (first_unowned_lem T.owners sender a.circuit (a.range + 1))) (sym (h ∙ t)) ∙ g.helps in
      rw t (found_none (is_mine T.owners sender) a.circuit (a.range + 1) u c n.0 (omega (arith, n.1))))
      (decided (eqb kind 0))

  may-right : (kind c : ℕ) → may_block_lem kind T.owners T.helpers sender c ≡ true → has_right T.owners T.helpers sender c ≡ true
  unfolding may_block_lem
  may-right kind c e =
      ⊎_elim
      (λ t. t.1)
      (λ t. ap (λ (b : Bool). when b then true else is_mine T.helpers sender c) t.1)
      (chosen (eqb kind 0) e)

  -- a message whose circuits may all be blocked so is not refused by 22
  may-helps : (kind : ℕ) (a : Ask) → fits_kind kind a ≡ true → ((c : ℕ) → Named a c → may_block_lem kind T.owners T.helpers sender c ≡ true) → is_unhelpable T sender a ≡ false
  unfolding is_unhelpable
  may-helps kind a f r =
      let h = planned-helpable kind a.act a.block f in
      ⊎_elim
      (λ (t : eqb kind 0 ≡ true). rw (h ∙ t))
      (λ (t : eqb kind 0 ≡ false).
      rw (h ∙ t) (none_found (is_mine T.owners sender) a.circuit (a.range + 1) (λ j x y. may-own kind j t (r j (x, omega arith)))))
      (decided (eqb kind 0))

  -- ---- what the hub takes
  pub judged-from : length T.states ≡ 4096 → length T.owners ≡ 4096 → length T.helpers ≡ 4096 → (kind : ℕ) (m : List ℕ) (a : Ask) → ask_of m ≡ accepted a → fits_kind kind a ≡ true
      → is_some (first_foreign_lem T.owners T.helpers sender a.circuit (a.range + 1)) ≡ false → is_unhelpable T sender a ≡ false
      → is_some (first_illegal_lem T.states a.circuit (a.range + 1)) ≡ false → judged_of T sender m ≡ accepted a
  unfolding judged_of
  judged-from p q h kind m a e f r u s =
      rw (eq-eqb _ _ p, eq-eqb _ _ q, eq-eqb _ _ h, e)
      (sym (permit-all T sender a r u s (planned-free kind T.states a.act a.block a.circuit f)))

  -- where every row is legal the hub takes a plan's message exactly where the
  -- sender may block every named circuit so
  pub hub-grants : length T.states ≡ 4096 → length T.owners ≡ 4096 → length T.helpers ≡ 4096 → AllLegal T.states → (kind : ℕ) → Grants (judged_of T sender) kind (may_block_lem kind T.owners T.helpers sender)
  hub-grants p q h legal kind = record {
    asks = judged-asks;
    rights = judged-rights kind;
    takes = λ m a e f r.
        (let b = ask-last m a e in
        judged-from p q h kind m a e f
        (none_found (has_right T.owners T.helpers sender) a.circuit (a.range + 1) (λ j x y. may-right kind j (r j (x, omega arith))))
        (may-helps kind a f r)
        (none_found (λ c. is_legal (octet T.states c)) a.circuit (a.range + 1) (λ j x y. legal j (omega arith))));
  }
