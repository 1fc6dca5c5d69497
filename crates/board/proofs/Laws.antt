-- Laws of the group messages, of the rows and the totals that they leave: over any range, any
-- layout of the messages and any tables.
use Prim.Native.Nat.{ℕ, ◌+◌, ◌-◌, ◌*◌, ◌≤◌, ◌<◌}
use mathlib.Core.Path.{◌≡◌, refl, sym, ◌∙◌, ap, subst}
use mathlib.Core.Bool.{Bool, true, false}
use mathlib.Core.List.{List}
use mathlib.Core.Logic.{◌⊎◌, inl, inr, ⊎_elim, ◌↔◌}
use native.Mathlib.Omega.{arith}
use native.Mathlib.Nat.{add-zero}
use borrow.Author.Tests.{le-ltb}
use lib.Dec.{eqb}
use lib.ListN.{length}
use lib.Seq.{ext_get_or}
use Rattle.std.specs.Prelude.{is_some}
use Rattle.octets.specs.Octet.{octet}
use Rattle.octets.specs.Choice.{when◌then◌else◌}
use Rattle.octets.specs.Answer.{Answer, accepted, refused, ◌then◌}
use Rattle.octets.specs.Filled.{filled}
use Rattle.octets.specs.Among.{OneOf}
use Rattle.octets.proofs.Answer.{accepted-same}
use Rattle.octets.proofs.Faults.{first-append}
use Rattle.octets.proofs.Choice.{decided, true-false}
use Rattle.rows.specs.declared.Act.{Act}
use Rattle.rows.specs.declared.Act.TheVariants.{ResetGroup, BlockGroup, UnblockGroup}
use Rattle.rows.specs.Rows.{local, is_legal, blocked_row, unblocked_row, changed_row, row_of}
use Rattle.rows.proofs.Legality.{legal-is, is-legal}
use Rattle.totals.specs.Blocks.{recounted}
use Rattle.totals.proofs.Recounted.{length-recounted, recounted-swallows}
use Rattle.asks.specs.declared.Ask.{Ask}
use Rattle.asks.specs.Asks.{range_in, group_status, ask_of, mark_of}
use Rattle.isup.specs.declared.Message.{Message}
use Rattle.isup.specs.Types.{CGB}
use Rattle.isup.specs.WellFormed.{WellFormed}
use Rattle.isup.specs.Faults.{reader_faults}
use Rattle.isup.proofs.Exactly.{read-exactly}
use Rattle.isup.proofs.Judged.{read-judges}
use Rattle.marks.specs.Marks.{marks_in_lem}
use Rattle.asks.specs.Types.{type_of, acting}
use Rattle.asks.proofs.Judged.{ask-judges}
use Rattle.asks.proofs.Types.{for-type}
use Rattle.asks.proofs.Reading.{asked_is, ask-read, ask-last}
use Rattle.replies.specs.Replies.{reply_length}
use Rattle.rights.specs.Tables.{Tables, tables}
use Rattle.rights.specs.Rights.{may_help, first_foreign_lem, first_unowned_lem, first_illegal_lem}
use Rattle.hub.specs.Rows.{effect, rows_after}
use Rattle.hub.specs.Replies.{reply_of}
use Rattle.rights.specs.Permits.{is_taken, is_unhelpable, permitted_of}
use Rattle.hub.specs.Acts.{allowed_of, grant_of, carried_out, act_of}
use Rattle.rights.specs.Names.{Named}
use Rattle.hub.specs.Desk.{desk_of}
use Rattle.hub.specs.Deeds.{with_circuits}
use Rattle.hub.specs.declared.Handled.{Handled}
use Rattle.rights.proofs.Meaning.{none_found, found_none}
use Rattle.hub.proofs.Writing.{length-reply}
use Rattle.hub.proofs.Given.{Allowed, granted, grant-sized}
use Rattle.hub.proofs.Called.{length-rows, row-outside, row_inside, named-or, act-of, call-accepted}
use Rattle.hub.proofs.Desk.{desk-rule}
use Rattle.hub.proofs.Legality.{legal-stays, message-keeps-local}
use Rattle.hub.proofs.Orders.{illegal-stays}
use Rattle.board.specs.Board.{BoardAfter, board_after, totals_after, board_of, desk_board_of}
use Rattle.board.specs.Arrival.{Standings, left_in}
use Rattle.board.proofs.United.{united-row}
use Rattle.board.proofs.Touching.{heard_by, whole-group, row-after, row_apart}
use Rattle.board.proofs.Kept.{kept-so, board-totals, board-acts, spanned-is, desk-board-totals, desk-board-acts}

-- ---- what a message asks, by its type octet: CGB asks BlockGroup, GRS ResetGroup
pub act-by-type : (m : List ℕ) (a : Ask) (act : Act) → ask_of m ≡ accepted a → octet m 2 ≡ type_of act → a.act ≡ act
act-by-type m a act e k =
    let r = ask-read m a e in
    let w = asked_is m r.0 a r.2 in
    let f = (read-exactly m r.0).0 r.1 in
    ap (λ (b : Ask). b.act) (sym w.is) ∙ act-of w.act m r.0 ∙ accepted-same (sym w.acts ∙ for-type r.0.kind act (f.kind ∙ k))

-- marks that come to more than 32 are no CGB: it is 14, so marks of 33 cannot be united
pub marks-of-33 : (m : List ℕ) (x : Message) → WellFormed m x → x.kind ≡ CGB → 32 < marks_in_lem (range_in m x.parts.first) (group_status m x.parts.first) → ask_of m ≡ refused 14 0
marks-of-33 m x f k many =
    ((ask-judges m).refuses 14 0).1
    ((first-append (reader_faults m) _ 14 0).1
    (inr ((read-judges m).accepts.0 (x, (read-exactly m x).1 f), inr (λ at h. h.1.2 (acts h.1.0 h.1.1), inl (refl, (refl, (x, f, inr (inl (inl k, λ w. omega (arith, w.few, many))))))))))
  where
    acts : (y : Message) → WellFormed m y → OneOf y.kind acting
    acts y g = inr (inr (inr (inr (inr (inr (inl (g.kind ∙ sym f.kind ∙ k)))))))

-- ---- what is granted, from what is looked at
pub grant-so : (T : Tables) (sender : ℕ) (m : List ℕ) (room : ℕ) (a : Ask) → length T.states ≡ 4096 → length T.owners ≡ 4096 → length T.helpers ≡ 4096 → ask_of m ≡ accepted a
    → is_some (first_foreign_lem T.owners T.helpers sender a.circuit (a.range + 1)) ≡ false → is_unhelpable T sender a ≡ false
    → is_some (first_illegal_lem T.states a.circuit (a.range + 1)) ≡ false → is_taken T.states a.act a.circuit ≡ false → length (reply_of T.states m a) ≤ room
    → grant_of T sender m room ≡ accepted a
unfolding allowed_of permitted_of
grant-so T sender m room a p q w e f u l t r =
    grant-sized T sender m room p q w
    ∙ ap (λ (g : Answer Ask). g then allowed_of T sender m room) e
    ∙ (rw (f, u, l, t) (rw (le-ltb _ _ r) refl))

-- what a call leaves where it is granted
pub board-granted : (T : Tables) (totals : List ℕ) (sender : ℕ) (m b : List ℕ) (a : Ask) → length totals ≡ 64 → ask_of m ≡ accepted a → grant_of T sender m (length b) ≡ accepted a
    → board_of T totals sender m b ≡ board_after (accepted (length (reply_of T.states m a))) (rows_after m a T.states) (recounted (rows_after m a T.states) a.circuit (a.circuit + a.range) totals) (filled (reply_of T.states m a) b)
unfolding board_of act_of
board-granted T totals sender m b a n q g =
    sym (kept-so T.states totals b (with_circuits (ask_of m)) (carried_out T m b (grant_of T sender m (length b))) n)
    ∙ ap (λ (x : Answer Ask). board_after (carried_out T m b x).answer (carried_out T m b x).states (totals_after (carried_out T m b x).states (with_circuits (ask_of m) (carried_out T m b x).answer) totals) (carried_out T m b x).buffer) g
    ∙ ap (λ (x : Answer Handled). board_after (accepted (length (reply_of T.states m a))) (rows_after m a T.states) (totals_after (rows_after m a T.states) x totals) (filled (reply_of T.states m a) b)) (spanned-is m a (length (reply_of T.states m a)) q)

-- two lists of rows that agree everywhere
rows_same : (l k : List ℕ) → length l ≡ length k → ((i : ℕ) → octet l i ≡ octet k i) → l ≡ k
rows_same l k e h = ext_get_or 0 l k e (λ i q. h i)

-- ---- rows
-- ---- the same CGB twice, and two of one kind
-- the hub with these rows
abbrev at : List ℕ → List ℕ → Standings → Tables
at owners helpers s = tables s.rows owners helpers

-- of an answer of a group block only its range says how long it is
block-length : (rows m : List ℕ) (a : Ask) → a.act ≡ BlockGroup → length (reply_of rows m a) ≡ reply_length BlockGroup a.range 0
unfolding reply_length
block-length rows m a e = length-reply rows m a ∙ ap (λ (x : Act). reply_length x a.range (octet rows a.circuit)) e

reset-length : (rows m : List ℕ) (a : Ask) → a.act ≡ ResetGroup → length (reply_of rows m a) ≡ reply_length ResetGroup a.range 0
unfolding reply_length
reset-length rows m a e = length-reply rows m a ∙ ap (λ (x : Act). reply_length x a.range (octet rows a.circuit)) e

-- neither looks at 21
block-free : (rows : List ℕ) (act : Act) (c : ℕ) → act ≡ BlockGroup → is_taken rows act c ≡ false
block-free rows act c e = ap (λ (x : Act). is_taken rows x c) e

reset-free : (rows : List ℕ) (act : Act) (c : ℕ) → act ≡ ResetGroup → is_taken rows act c ≡ false
reset-free rows act c e = ap (λ (x : Act). is_taken rows x c) e

-- 22 looks at the act, its kind and the named circuits alone
helps-alike : (T : Tables) (sender : ℕ) (a c : Ask) → a.act ≡ c.act → a.block ≡ c.block → a.circuit ≡ c.circuit → a.range ≡ c.range → is_unhelpable T sender a ≡ is_unhelpable T sender c
unfolding is_unhelpable
helps-alike T sender a c g k f r i = when may_help (g i) (k i) then false else is_some (first_unowned_lem T.owners sender (f i) (r i + 1))

-- and at no row
helps-any : (l k owners helpers : List ℕ) (sender : ℕ) (a : Ask) → is_unhelpable (tables l owners helpers) sender a ≡ false → is_unhelpable (tables k owners helpers) sender a ≡ false
unfolding is_unhelpable
helps-any l k owners helpers sender a e = e

-- two CGB of one kind on the same circuits leave the rows that one with their marks united leaves
united-rows : (m₁ m₂ m₃ : List ℕ) (a₁ a₂ a₃ : Ask) (rows : List ℕ) → length rows ≡ 4096 → a₃.circuit + a₃.range ≤ 4095
    → a₁.act ≡ BlockGroup → a₂.act ≡ BlockGroup → a₃.act ≡ BlockGroup
    → a₁.block ≡ a₃.block → a₂.block ≡ a₃.block → a₁.circuit ≡ a₃.circuit → a₂.circuit ≡ a₃.circuit → a₁.range ≡ a₃.range → a₂.range ≡ a₃.range
    → ((i : ℕ) → i ≤ a₃.range → mark_of m₃ a₃.status i ≡ (when mark_of m₁ a₁.status i then true else mark_of m₂ a₂.status i))
    → rows_after m₃ a₃ rows ≡ rows_after m₂ a₂ (rows_after m₁ a₁ rows)
united-rows m₁ m₂ m₃ a₁ a₂ a₃ rows sized last g₁ g₂ g₃ k₁ k₂ c₁ c₂ r₁ r₂ marks =
    rows_same (rows_after m₃ a₃ rows) (rows_after m₂ a₂ (rows_after m₁ a₁ rows))
    (length-rows m₃ a₃ rows ∙ sym (length-rows m₂ a₂ (rows_after m₁ a₁ rows) ∙ length-rows m₁ a₁ rows))
    (λ i. ⊎_elim (λ n. inside i n) (λ o. outside i o) (named-or a₃ i))
  where
    outside : (i : ℕ) → (i < a₃.circuit) ⊎ (a₃.circuit + a₃.range < i) → octet (rows_after m₃ a₃ rows) i ≡ octet (rows_after m₂ a₂ (rows_after m₁ a₁ rows)) i
    outside i o =
        row-outside m₃ a₃ rows i o
        ∙ sym (row-outside m₂ a₂ (rows_after m₁ a₁ rows) i (⊎_elim (λ l. inl (omega (arith, l, c₂))) (λ l. inr (omega (arith, l, c₂, r₂))) o)
        ∙ row-outside m₁ a₁ rows i (⊎_elim (λ l. inl (omega (arith, l, c₁))) (λ l. inr (omega (arith, l, c₁, r₁))) o))

    inside : (i : ℕ) → Named a₃ i → octet (rows_after m₃ a₃ rows) i ≡ octet (rows_after m₂ a₂ (rows_after m₁ a₁ rows)) i
    inside i n =
        row_inside m₃ a₃ rows i n (omega (arith, sized, last))
        ∙ (λ j. row_of (g₃ j) a₃.block (marks (i - a₃.circuit) (omega (arith, n.0, n.1)) j) (octet rows i))
        ∙ sym (united-row BlockGroup refl a₃.block (mark_of m₁ a₁.status (i - a₃.circuit)) (mark_of m₂ a₂.status (i - a₃.circuit)) (octet rows i))
        ∙ sym (λ j. row_of (g₂ j) (k₂ j) (mark_of m₂ a₂.status (i - c₂ j)) (row_of (g₁ j) (k₁ j) (mark_of m₁ a₁.status (i - c₁ j)) (octet rows i)))
        ∙ sym (row_inside m₂ a₂ (rows_after m₁ a₁ rows) i (omega (arith, n.0, c₂), omega (arith, n.1, c₂, r₂)) (omega (arith, sized, last, c₂, r₂, length-rows m₁ a₁ rows))
        ∙ ap (effect m₂ a₂ i) (row_inside m₁ a₁ rows i (omega (arith, n.0, c₁), omega (arith, n.1, c₁, r₁)) (omega (arith, sized, last, c₁, r₁))))

-- what it makes of a row: only the 8 counts
reset-row : (m : List ℕ) (a : Ask) (c row row' : ℕ) → a.act ≡ ResetGroup → a.status ≡ 0 → local row' ≡ local row → effect m a c row' ≡ effect m a c row
unfolding changed_row mark_of
reset-row m a c row row' g z l =
    (λ i. row_of (g i) a.block (mark_of m (z i) (c - a.circuit)) row') ∙ ap (λ (n : ℕ). n * 8) l ∙ sym (λ i. row_of (g i) a.block (mark_of m (z i) (c - a.circuit)) row)

module _ (owners helpers : List ℕ) where
  -- the rows of circuits that were legal are legal after a message, so 20 is
  -- not there where it was not
  legal-after : (s : Standings) (sender : ℕ) (m b : List ℕ) (circuit n : ℕ) → is_some (first_illegal_lem s.rows circuit n) ≡ false → is_some (first_illegal_lem (act_of (at owners helpers s) sender m b).states circuit n) ≡ false
  legal-after s sender m b circuit n e =
      none_found (λ c. is_legal (octet (act_of (at owners helpers s) sender m b).states c)) circuit n
      (λ j p q. is-legal _ (legal-stays (at owners helpers s) sender m b j (legal-is _ (found_none (λ c. is_legal (octet s.rows c)) circuit n e j p q))))

  -- and a row that is legal afterwards was so before
  legal-before : (s : Standings) (sender : ℕ) (m b : List ℕ) (circuit n : ℕ) → is_some (first_illegal_lem (act_of (at owners helpers s) sender m b).states circuit n) ≡ false → is_some (first_illegal_lem s.rows circuit n) ≡ false
  legal-before s sender m b circuit n e =
      none_found (λ c. is_legal (octet s.rows c)) circuit n
      (λ j p q.
      ⊎_elim
      (λ t. t)
      (λ t.
      let k = illegal-stays (at owners helpers s) sender m b j (λ l. true-false (is-legal _ l) t) in
      sym (ap is_legal k) ∙ found_none (λ c. is_legal (octet (act_of (at owners helpers s) sender m b).states c)) circuit n e j p q)
      (decided (is_legal (octet s.rows j))))

  -- two CGB of one kind on the same circuits and range leave what one CGB with their marks united
  -- leaves: it is accepted where its buffer has room
  pub cgb-united : (s : Standings) (p q : ℕ) (m₁ m₂ m₃ b₁ b₂ b₃ : List ℕ) (a₁ a₂ a₃ : Ask) (n₁ n₂ : ℕ)
      → ask_of m₁ ≡ accepted a₁ → ask_of m₂ ≡ accepted a₂ → ask_of m₃ ≡ accepted a₃
      → a₁.act ≡ BlockGroup → a₂.act ≡ BlockGroup → a₃.act ≡ BlockGroup
      → a₁.block ≡ a₃.block → a₂.block ≡ a₃.block → a₁.circuit ≡ a₃.circuit → a₂.circuit ≡ a₃.circuit → a₁.range ≡ a₃.range → a₂.range ≡ a₃.range
      → ((i : ℕ) → i ≤ a₃.range → mark_of m₃ a₃.status i ≡ (when mark_of m₁ a₁.status i then true else mark_of m₂ a₂.status i))
      → (heard_by owners helpers s p m₁ b₁).answer ≡ accepted n₁
      → (heard_by owners helpers (left_in (heard_by owners helpers s p m₁ b₁)) q m₂ b₂).answer ≡ accepted n₂
      → n₁ ≤ length b₃
      → ((heard_by owners helpers s p m₃ b₃).answer ≡ accepted n₁)
      × (left_in (heard_by owners helpers s p m₃ b₃) ≡ left_in (heard_by owners helpers (left_in (heard_by owners helpers s p m₁ b₁)) q m₂ b₂))
  cgb-united s p q m₁ m₂ m₃ b₁ b₂ b₃ a₁ a₂ a₃ n₁ n₂ e₁ e₂ e₃ g₁ g₂ g₃ k₁ k₂ c₁ c₂ r₁ r₂ marks ok₁ ok₂ room =
      let w₁ = board-totals (at owners helpers s) s.totals p m₁ b₁ n₁ ok₁ in
      let w₂ = board-totals (at owners helpers (left_in (heard_by owners helpers s p m₁ b₁))) (left_in (heard_by owners helpers s p m₁ b₁)).totals q m₂ b₂ n₂ ok₂ in
      let h₁ = board-acts (at owners helpers s) s.totals p m₁ b₁ w₁.2 in
      let h₂ = board-acts (at owners helpers (left_in (heard_by owners helpers s p m₁ b₁))) (left_in (heard_by owners helpers s p m₁ b₁)).totals q m₂ b₂ w₂.2 in
      let d₁ = call-accepted (at owners helpers s) p m₁ b₁ n₁ (sym h₁.0 ∙ ok₁) in
      let d₂ = call-accepted (at owners helpers (left_in (heard_by owners helpers s p m₁ b₁))) q m₂ b₂ n₂ (sym h₂.0 ∙ ok₂) in
      united s p q m₁ m₂ m₃ b₁ b₂ b₃ a₁ a₂ a₃ n₁ n₂ e₁ e₂ e₃ g₁ g₂ g₃ k₁ k₂ c₁ c₂ r₁ r₂ marks w₁.2
      (subst (λ (x : Ask). Allowed (at owners helpers s) p m₁ (length b₁) x) (accepted-same (sym d₁.allowed.asks ∙ e₁)) d₁.allowed)
      (d₁.count ∙ ap (λ (x : Ask). length (reply_of s.rows m₁ x)) (accepted-same (sym d₁.allowed.asks ∙ e₁)))
      (h₁.1 ∙ d₁.rows ∙ ap (λ (x : Ask). rows_after m₁ x s.rows) (accepted-same (sym d₁.allowed.asks ∙ e₁)))
      (w₁.3 ∙ ap (λ (x : Ask). recounted (heard_by owners helpers s p m₁ b₁).states x.circuit (x.circuit + x.range) s.totals) (accepted-same (sym w₁.1 ∙ e₁)))
      (h₂.1 ∙ d₂.rows ∙ ap (λ (x : Ask). rows_after m₂ x (heard_by owners helpers s p m₁ b₁).states) (accepted-same (sym d₂.allowed.asks ∙ e₂)))
      (w₂.3 ∙ ap (λ (x : Ask). recounted (heard_by owners helpers (left_in (heard_by owners helpers s p m₁ b₁)) q m₂ b₂).states x.circuit (x.circuit + x.range) (heard_by owners helpers s p m₁ b₁).totals) (accepted-same (sym w₂.1 ∙ e₂)))
      room
    where
      united : (s : Standings) (p q : ℕ) (m₁ m₂ m₃ b₁ b₂ b₃ : List ℕ) (a₁ a₂ a₃ : Ask) (n₁ n₂ : ℕ)
          → ask_of m₁ ≡ accepted a₁ → ask_of m₂ ≡ accepted a₂ → ask_of m₃ ≡ accepted a₃
          → a₁.act ≡ BlockGroup → a₂.act ≡ BlockGroup → a₃.act ≡ BlockGroup
          → a₁.block ≡ a₃.block → a₂.block ≡ a₃.block → a₁.circuit ≡ a₃.circuit → a₂.circuit ≡ a₃.circuit → a₁.range ≡ a₃.range → a₂.range ≡ a₃.range
          → ((i : ℕ) → i ≤ a₃.range → mark_of m₃ a₃.status i ≡ (when mark_of m₁ a₁.status i then true else mark_of m₂ a₂.status i))
          → length s.totals ≡ 64
          → Allowed (at owners helpers s) p m₁ (length b₁) a₁
          → n₁ ≡ length (reply_of s.rows m₁ a₁)
          → (heard_by owners helpers s p m₁ b₁).states ≡ rows_after m₁ a₁ s.rows
          → (heard_by owners helpers s p m₁ b₁).totals ≡ recounted (heard_by owners helpers s p m₁ b₁).states a₁.circuit (a₁.circuit + a₁.range) s.totals
          → (heard_by owners helpers (left_in (heard_by owners helpers s p m₁ b₁)) q m₂ b₂).states ≡ rows_after m₂ a₂ (heard_by owners helpers s p m₁ b₁).states
          → (heard_by owners helpers (left_in (heard_by owners helpers s p m₁ b₁)) q m₂ b₂).totals ≡ recounted (heard_by owners helpers (left_in (heard_by owners helpers s p m₁ b₁)) q m₂ b₂).states a₂.circuit (a₂.circuit + a₂.range) (heard_by owners helpers s p m₁ b₁).totals
          → n₁ ≤ length b₃
          → ((heard_by owners helpers s p m₃ b₃).answer ≡ accepted n₁)
          × (left_in (heard_by owners helpers s p m₃ b₃) ≡ left_in (heard_by owners helpers (left_in (heard_by owners helpers s p m₁ b₁)) q m₂ b₂))
      united s p q m₁ m₂ m₃ b₁ b₂ b₃ a₁ a₂ a₃ n₁ n₂ e₁ e₂ e₃ g₁ g₂ g₃ k₁ k₂ c₁ c₂ r₁ r₂ marks sixty al count R₁ t₁ R₂ t₂ room =
          let size : n₁ ≡ length (reply_of s.rows m₃ a₃) = count ∙ block-length s.rows m₁ a₁ g₁ ∙ ap (λ (r : ℕ). reply_length BlockGroup r 0) r₁ ∙ sym (block-length s.rows m₃ a₃ g₃) in
          let grant : grant_of (at owners helpers s) p m₃ (length b₃) ≡ accepted a₃ =
          grant-so (at owners helpers s) p m₃ (length b₃) a₃ al.states-sized al.owners-sized al.helpers-sized e₃
          (sym (λ i. is_some (first_foreign_lem owners helpers p (c₁ i) (r₁ i + 1))) ∙ al.right)
          (sym (helps-alike (at owners helpers s) p a₁ a₃ (g₁ ∙ sym g₃) k₁ c₁ r₁) ∙ al.helps)
          (sym (λ i. is_some (first_illegal_lem s.rows (c₁ i) (r₁ i + 1))) ∙ al.legal)
          (block-free s.rows a₃.act a₃.circuit g₃)
          (omega (arith, size, room)) in
          let whole = board-granted (at owners helpers s) s.totals p m₃ b₃ a₃ sixty e₃ grant in
          let rows : rows_after m₃ a₃ s.rows ≡ (heard_by owners helpers (left_in (heard_by owners helpers s p m₁ b₁)) q m₂ b₂).states =
          united-rows m₁ m₂ m₃ a₁ a₂ a₃ s.rows al.states-sized (ask-last m₃ a₃ e₃) g₁ g₂ g₃ k₁ k₂ c₁ c₂ r₁ r₂ marks ∙ sym (R₂ ∙ ap (rows_after m₂ a₂) R₁) in
          let totals : recounted (rows_after m₃ a₃ s.rows) a₃.circuit (a₃.circuit + a₃.range) s.totals ≡ (heard_by owners helpers (left_in (heard_by owners helpers s p m₁ b₁)) q m₂ b₂).totals =
          (λ i. recounted (rows i) (sym c₂ i) (sym c₂ i + sym r₂ i) s.totals)
          ∙ sym (recounted-swallows (heard_by owners helpers (left_in (heard_by owners helpers s p m₁ b₁)) q m₂ b₂).states (heard_by owners helpers s p m₁ b₁).states a₂.circuit (a₂.circuit + a₂.range) a₁.circuit (a₁.circuit + a₁.range) s.totals (omega (arith, c₁, c₂)) (omega (arith, c₁, c₂, r₁, r₂)))
          ∙ sym (t₂ ∙ ap (recounted (heard_by owners helpers (left_in (heard_by owners helpers s p m₁ b₁)) q m₂ b₂).states a₂.circuit (a₂.circuit + a₂.range)) t₁) in (
            ap (λ (x : BoardAfter). x.answer) whole ∙ ap (λ (n : ℕ). accepted n) (sym size),
            λ i. record { rows = (ap (λ (x : BoardAfter). x.states) whole ∙ rows) i; totals = (ap (λ (x : BoardAfter). x.totals) whole ∙ totals) i },
          )

  -- the same CGB twice leaves what it leaves once: the second is accepted where its buffer has room
  pub cgb-twice : (s : Standings) (p : ℕ) (m b b' : List ℕ) (a : Ask) (n : ℕ) → ask_of m ≡ accepted a → a.act ≡ BlockGroup
      → (heard_by owners helpers s p m b).answer ≡ accepted n → n ≤ length b'
      → ((heard_by owners helpers (left_in (heard_by owners helpers s p m b)) p m b').answer ≡ accepted n)
      × (left_in (heard_by owners helpers (left_in (heard_by owners helpers s p m b)) p m b') ≡ left_in (heard_by owners helpers s p m b))
  cgb-twice s p m b b' a n e g ok room =
      let w = board-totals (at owners helpers s) s.totals p m b n ok in
      let h = board-acts (at owners helpers s) s.totals p m b w.2 in
      let d = call-accepted (at owners helpers s) p m b n (sym h.0 ∙ ok) in
      let x : d.ask ≡ a = accepted-same (sym d.allowed.asks ∙ e) in
      twice (subst (λ (y : Ask). Allowed (at owners helpers s) p m (length b) y) x d.allowed)
      (d.count ∙ ap (λ (y : Ask). length (reply_of s.rows m y)) x)
      h.1
      (h.1 ∙ d.rows ∙ ap (λ (y : Ask). rows_after m y s.rows) x)
      w.2
      (w.3 ∙ ap (λ (y : Ask). recounted (heard_by owners helpers s p m b).states y.circuit (y.circuit + y.range) s.totals) (accepted-same (sym w.1 ∙ e)))
    where
      twice : Allowed (at owners helpers s) p m (length b) a → n ≡ length (reply_of s.rows m a)
          → (heard_by owners helpers s p m b).states ≡ (act_of (at owners helpers s) p m b).states
          → (heard_by owners helpers s p m b).states ≡ rows_after m a s.rows
          → length s.totals ≡ 64
          → (heard_by owners helpers s p m b).totals ≡ recounted (heard_by owners helpers s p m b).states a.circuit (a.circuit + a.range) s.totals
          → ((heard_by owners helpers (left_in (heard_by owners helpers s p m b)) p m b').answer ≡ accepted n)
          × (left_in (heard_by owners helpers (left_in (heard_by owners helpers s p m b)) p m b') ≡ left_in (heard_by owners helpers s p m b))
      twice al count same R sixty t =
          let size : n ≡ length (reply_of (heard_by owners helpers s p m b).states m a) = count ∙ block-length s.rows m a g ∙ sym (block-length (heard_by owners helpers s p m b).states m a g) in
          let long : length (heard_by owners helpers s p m b).states ≡ 4096 = ap length R ∙ length-rows m a s.rows ∙ al.states-sized in
          let many : length (heard_by owners helpers s p m b).totals ≡ 64 = ap length t ∙ length-recounted (heard_by owners helpers s p m b).states a.circuit (a.circuit + a.range) s.totals ∙ sixty in
          let grant : grant_of (at owners helpers (left_in (heard_by owners helpers s p m b))) p m (length b') ≡ accepted a =
          grant-so (at owners helpers (left_in (heard_by owners helpers s p m b))) p m (length b') a long al.owners-sized al.helpers-sized e al.right (helps-any s.rows (heard_by owners helpers s p m b).states owners helpers p a al.helps)
          (ap (λ (l : List ℕ). is_some (first_illegal_lem l a.circuit (a.range + 1))) same ∙ legal-after s p m b a.circuit (a.range + 1) al.legal)
          (block-free (heard_by owners helpers s p m b).states a.act a.circuit g)
          (omega (arith, size, room)) in
          let whole = board-granted (at owners helpers (left_in (heard_by owners helpers s p m b))) (heard_by owners helpers s p m b).totals p m b' a many e grant in
          let rows : rows_after m a (heard_by owners helpers s p m b).states ≡ (heard_by owners helpers s p m b).states =
          ap (rows_after m a) R ∙ sym (united-rows m m m a a a s.rows al.states-sized (ask-last m a e) g g g refl refl refl refl refl refl (λ i l. same-mark (mark_of m a.status i))) ∙ sym R in
          let totals : recounted (rows_after m a (heard_by owners helpers s p m b).states) a.circuit (a.circuit + a.range) (heard_by owners helpers s p m b).totals ≡ (heard_by owners helpers s p m b).totals =
          (λ i. recounted (rows i) a.circuit (a.circuit + a.range) (t i))
          ∙ recounted-swallows (heard_by owners helpers s p m b).states (heard_by owners helpers s p m b).states a.circuit (a.circuit + a.range) a.circuit (a.circuit + a.range) s.totals (omega arith) (omega arith)
          ∙ sym t in (
            ap (λ (x : BoardAfter). x.answer) whole ∙ ap (λ (k : ℕ). accepted k) (sym size),
            λ i. record { rows = (ap (λ (x : BoardAfter). x.states) whole ∙ rows) i; totals = (ap (λ (x : BoardAfter). x.totals) whole ∙ totals) i },
          )
        where
          same-mark : (x : Bool) → x ≡ (when x then true else x)
          same-mark true = refl
          same-mark false = refl

  -- GRS after any accepted message on circuits inside its range, from the same sender
  module _ (s : Standings) (p : ℕ) (m b : List ℕ) (a : Ask) (n : ℕ) (asks : ask_of m ≡ accepted a) (ok : (heard_by owners helpers s p m b).answer ≡ accepted n)
      (g : List ℕ) (y : Ask) (reset : ask_of g ≡ accepted y) (grs : y.act ≡ ResetGroup) (low : y.circuit ≤ a.circuit) (high : a.circuit + a.range ≤ y.circuit + y.range) where
    -- what the message left
    abbrev left : Standings
    left = left_in (heard_by owners helpers s p m b)

    sixty : length s.totals ≡ 64
    sixty = (board-totals (at owners helpers s) s.totals p m b n ok).2

    same : (heard_by owners helpers s p m b).states ≡ (act_of (at owners helpers s) p m b).states
    same = (board-acts (at owners helpers s) s.totals p m b sixty).1

    acted : (act_of (at owners helpers s) p m b).answer ≡ accepted n
    acted = sym (board-acts (at owners helpers s) s.totals p m b sixty).0 ∙ ok

    after-rows : (heard_by owners helpers s p m b).states ≡ rows_after m a s.rows
    after-rows = let d = call-accepted (at owners helpers s) p m b n acted in same ∙ d.rows ∙ ap (λ (x : Ask). rows_after m x s.rows) (accepted-same (sym d.allowed.asks ∙ asks))

    after-totals : (heard_by owners helpers s p m b).totals ≡ recounted (heard_by owners helpers s p m b).states a.circuit (a.circuit + a.range) s.totals
    after-totals = let w = board-totals (at owners helpers s) s.totals p m b n ok in w.3 ∙ ap (λ (x : Ask). recounted (heard_by owners helpers s p m b).states x.circuit (x.circuit + x.range) s.totals) (accepted-same (sym w.1 ∙ asks))

    many : length (heard_by owners helpers s p m b).totals ≡ 64
    many = ap length after-totals ∙ length-recounted (heard_by owners helpers s p m b).states a.circuit (a.circuit + a.range) s.totals ∙ sixty

    long : length (heard_by owners helpers s p m b).states ≡ length s.rows
    long = ap length after-rows ∙ length-rows m a s.rows

    -- it is granted after the message exactly where it is granted alone
    granted-after : (room : ℕ) → grant_of (at owners helpers s) p g room ≡ accepted y → grant_of (at owners helpers left) p g room ≡ accepted y
    granted-after room e =
        let al = granted (at owners helpers s) p g room y e in
        grant-so (at owners helpers left) p g room y (long ∙ al.states-sized) al.owners-sized al.helpers-sized reset al.right (helps-any s.rows (heard_by owners helpers s p m b).states owners helpers p y al.helps)
        (ap (λ (l : List ℕ). is_some (first_illegal_lem l y.circuit (y.range + 1))) same ∙ legal-after s p m b y.circuit (y.range + 1) al.legal)
        (reset-free (heard_by owners helpers s p m b).states y.act y.circuit grs)
        (omega (arith, al.fits, reset-length (heard_by owners helpers s p m b).states g y grs, reset-length s.rows g y grs))

    granted-alone : (room : ℕ) → grant_of (at owners helpers left) p g room ≡ accepted y → grant_of (at owners helpers s) p g room ≡ accepted y
    granted-alone room e =
        let al = granted (at owners helpers left) p g room y e in
        grant-so (at owners helpers s) p g room y (sym long ∙ al.states-sized) al.owners-sized al.helpers-sized reset al.right (helps-any (heard_by owners helpers s p m b).states s.rows owners helpers p y al.helps)
        (legal-before s p m b y.circuit (y.range + 1) (sym (ap (λ (l : List ℕ). is_some (first_illegal_lem l y.circuit (y.range + 1))) same) ∙ al.legal))
        (reset-free s.rows y.act y.circuit grs)
        (omega (arith, al.fits, reset-length (heard_by owners helpers s p m b).states g y grs, reset-length s.rows g y grs))

    -- what an accepted GRS was granted
    was_granted : (u : Standings) (c : List ℕ) (k : ℕ) → (heard_by owners helpers u p g c).answer ≡ accepted k → grant_of (at owners helpers u) p g (length c) ≡ accepted y
    was_granted u c k e =
        let w = board-totals (at owners helpers u) u.totals p g c k e in
        let h = board-acts (at owners helpers u) u.totals p g c w.2 in
        let d = call-accepted (at owners helpers u) p g c k (sym h.0 ∙ e) in
        let al = subst (λ (x : Ask). Allowed (at owners helpers u) p g (length c) x) (accepted-same (sym d.allowed.asks ∙ reset)) d.allowed in
        grant-so (at owners helpers u) p g (length c) y al.states-sized al.owners-sized al.helpers-sized reset al.right al.helps al.legal al.free al.fits

    -- accepted after the message exactly where it is accepted alone
    pub grs-accepted : (c : List ℕ) (k : ℕ) → ((heard_by owners helpers left p g c).answer ≡ accepted k) ↔ ((heard_by owners helpers s p g c).answer ≡ accepted k)
    grs-accepted c k = (
      λ e.
          let f = was_granted left c k e in
          let size : k ≡ length (reply_of s.rows g y) = sym (accepted-same (sym (ap (λ (x : BoardAfter). x.answer) (board-granted (at owners helpers left) left.totals p g c y many reset f)) ∙ e)) ∙ reset-length (heard_by owners helpers s p m b).states g y grs ∙ sym (reset-length s.rows g y grs) in
          ap (λ (x : BoardAfter). x.answer) (board-granted (at owners helpers s) s.totals p g c y sixty reset (granted-alone (length c) f)) ∙ ap (λ (j : ℕ). accepted j) (sym size),
      λ e.
          let f = was_granted s c k e in
          let size : k ≡ length (reply_of (heard_by owners helpers s p m b).states g y) = sym (accepted-same (sym (ap (λ (x : BoardAfter). x.answer) (board-granted (at owners helpers s) s.totals p g c y sixty reset f)) ∙ e)) ∙ reset-length s.rows g y grs ∙ sym (reset-length (heard_by owners helpers s p m b).states g y grs) in
          ap (λ (x : BoardAfter). x.answer) (board-granted (at owners helpers left) left.totals p g c y many reset (granted-after (length c) f)) ∙ ap (λ (j : ℕ). accepted j) (sym size),
    )

    -- and leaves what GRS alone leaves, whatever the two buffers are
    pub grs-after : (c d : List ℕ) (k l : ℕ) → (heard_by owners helpers left p g c).answer ≡ accepted k → (heard_by owners helpers s p g d).answer ≡ accepted l
        → left_in (heard_by owners helpers left p g c) ≡ left_in (heard_by owners helpers s p g d)
    grs-after c d k l e f =
        let x = board-granted (at owners helpers left) left.totals p g c y many reset (was_granted left c k e) in
        let z = board-granted (at owners helpers s) s.totals p g d y sixty reset (was_granted s d l f) in
        let sized : length s.rows ≡ 4096 = (granted (at owners helpers s) p g (length d) y (was_granted s d l f)).states-sized in
        let rows = same-reset sized in
        let totals : recounted (rows_after g y (heard_by owners helpers s p m b).states) y.circuit (y.circuit + y.range) (heard_by owners helpers s p m b).totals ≡ recounted (rows_after g y s.rows) y.circuit (y.circuit + y.range) s.totals =
        (λ i. recounted (rows i) y.circuit (y.circuit + y.range) (after-totals i))
        ∙ recounted-swallows (rows_after g y s.rows) (heard_by owners helpers s p m b).states y.circuit (y.circuit + y.range) a.circuit (a.circuit + a.range) s.totals (omega (arith, low)) (omega (arith, high)) in
        λ i. record {
          rows = (ap (λ (t : BoardAfter). t.states) x ∙ rows ∙ sym (ap (λ (t : BoardAfter). t.states) z)) i;
          totals = (ap (λ (t : BoardAfter). t.totals) x ∙ totals ∙ sym (ap (λ (t : BoardAfter). t.totals) z)) i;
        }
      where
        -- the rows that GRS leaves are the same
        same-reset : length s.rows ≡ 4096 → rows_after g y (heard_by owners helpers s p m b).states ≡ rows_after g y s.rows
        same-reset sized =
            rows_same (rows_after g y (heard_by owners helpers s p m b).states) (rows_after g y s.rows)
            (length-rows g y (heard_by owners helpers s p m b).states ∙ long ∙ sym (length-rows g y s.rows))
            (λ i. ⊎_elim (λ w. inside i w) (λ o. outside i o) (named-or y i))
          where
            inside : (i : ℕ) → Named y i → octet (rows_after g y (heard_by owners helpers s p m b).states) i ≡ octet (rows_after g y s.rows) i
            inside i w =
                row_inside g y (heard_by owners helpers s p m b).states i w (omega (arith, sized, long, ask-last g y reset))
                ∙ reset-row g y i (octet s.rows i) (octet (heard_by owners helpers s p m b).states i) grs (whole-group g y ResetGroup reset grs (λ x. refl)) (ap (λ (l : List ℕ). local (octet l i)) same ∙ message-keeps-local (at owners helpers s) p m b i)
                ∙ sym (row_inside g y s.rows i w (omega (arith, sized, ask-last g y reset)))

            outside : (i : ℕ) → (i < y.circuit) ⊎ (y.circuit + y.range < i) → octet (rows_after g y (heard_by owners helpers s p m b).states) i ≡ octet (rows_after g y s.rows) i
            outside i o =
                row-outside g y (heard_by owners helpers s p m b).states i o
                ∙ ap (λ (l : List ℕ). octet l i) after-rows
                ∙ row-outside m a s.rows i (⊎_elim (λ l. inl (omega (arith, l, low))) (λ l. inr (omega (arith, l, high))) o)
                ∙ sym (row-outside g y s.rows i o)

-- ---- where there is no law
module _ (owners helpers : List ℕ) where
  -- CGB of one kind and then of the other on an idle circuit leaves 6, and no single CGB does
  pub two-kinds-no-one : (s : Standings) (p q r : ℕ) (m₁ m₂ m₃ b₁ b₂ b₃ : List ℕ) (a₁ a₂ a₃ : Ask) (n₁ n₂ n₃ c : ℕ)
      → ask_of m₁ ≡ accepted a₁ → ask_of m₂ ≡ accepted a₂ → ask_of m₃ ≡ accepted a₃ → a₁.act ≡ BlockGroup → a₂.act ≡ BlockGroup → a₃.act ≡ BlockGroup → a₁.block ≡ 0 → a₂.block ≡ 1
      → Named a₁ c → Named a₂ c → mark_of m₁ a₁.status (c - a₁.circuit) ≡ true → mark_of m₂ a₂.status (c - a₂.circuit) ≡ true → octet s.rows c ≡ 0
      → (heard_by owners helpers s p m₁ b₁).answer ≡ accepted n₁ → (heard_by owners helpers (left_in (heard_by owners helpers s p m₁ b₁)) q m₂ b₂).answer ≡ accepted n₂ → (heard_by owners helpers s r m₃ b₃).answer ≡ accepted n₃
      → (heard_by owners helpers s r m₃ b₃).states ≡ (heard_by owners helpers (left_in (heard_by owners helpers s p m₁ b₁)) q m₂ b₂).states → ⊥
  unfolding changed_row blocked_row
  two-kinds-no-one s p q r m₁ m₂ m₃ b₁ b₂ b₃ a₁ a₂ a₃ n₁ n₂ n₃ c e₁ e₂ e₃ g₁ g₂ g₃ k₁ k₂ w₁ w₂ x₁ x₂ idle ok₁ ok₂ ok₃ same =
      let first : octet (heard_by owners helpers s p m₁ b₁).states c ≡ 2 = row-after owners helpers s p m₁ b₁ a₁ n₁ e₁ ok₁ c w₁ ∙ (λ i. row_of (g₁ i) (k₁ i) (x₁ i) (idle i)) in
      let both : octet (heard_by owners helpers (left_in (heard_by owners helpers s p m₁ b₁)) q m₂ b₂).states c ≡ 6 = row-after owners helpers (left_in (heard_by owners helpers s p m₁ b₁)) q m₂ b₂ a₂ n₂ e₂ ok₂ c w₂ ∙ (λ i. row_of (g₂ i) (k₂ i) (x₂ i) (first i)) in
      let six : octet (heard_by owners helpers s r m₃ b₃).states c ≡ 6 = ap (λ (l : List ℕ). octet l c) same ∙ both in
      ⊎_elim
      (λ w. one a₃.block (mark_of m₃ a₃.status (c - a₃.circuit)) (sym (row-after owners helpers s r m₃ b₃ a₃ n₃ e₃ ok₃ c w ∙ (λ i. row_of (g₃ i) a₃.block (mark_of m₃ a₃.status (c - a₃.circuit)) (idle i))) ∙ six))
      (λ o. let z = sym (row_apart owners helpers s r m₃ b₃ a₃ n₃ e₃ ok₃ c o ∙ idle) ∙ six in omega (arith, z))
      (named-or a₃ c)
    where
      one : (kind : ℕ) (x : Bool) → row_of BlockGroup kind x 0 ≡ 6 → ⊥
      one kind true e = pick (eqb kind 0) e
        where
          pick : (t : Bool) → ◌≡◌ {A = ℕ} (when t then 2 else 4) 6 → ⊥
          pick true e = omega (arith, e)
          pick false e = omega (arith, e)
      one kind false e = omega (arith, e)

  -- CGU for hardware after CGB for hardware on a busy circuit does not bring busy back
  pub hardware-ends-busy : (s : Standings) (p q : ℕ) (m₁ m₂ b₁ b₂ : List ℕ) (a₁ a₂ : Ask) (n₁ n₂ c : ℕ)
      → ask_of m₁ ≡ accepted a₁ → ask_of m₂ ≡ accepted a₂ → a₁.act ≡ BlockGroup → a₂.act ≡ UnblockGroup → a₁.block ≡ 1 → a₂.block ≡ 1
      → Named a₁ c → Named a₂ c → mark_of m₁ a₁.status (c - a₁.circuit) ≡ true → mark_of m₂ a₂.status (c - a₂.circuit) ≡ true → octet s.rows c ≡ 1
      → (heard_by owners helpers s p m₁ b₁).answer ≡ accepted n₁ → (heard_by owners helpers (left_in (heard_by owners helpers s p m₁ b₁)) q m₂ b₂).answer ≡ accepted n₂
      → octet (heard_by owners helpers (left_in (heard_by owners helpers s p m₁ b₁)) q m₂ b₂).states c ≡ 0
  unfolding changed_row blocked_row unblocked_row
  hardware-ends-busy s p q m₁ m₂ b₁ b₂ a₁ a₂ n₁ n₂ c e₁ e₂ g₁ g₂ k₁ k₂ w₁ w₂ x₁ x₂ on ok₁ ok₂ =
      let first : octet (heard_by owners helpers s p m₁ b₁).states c ≡ 4 = row-after owners helpers s p m₁ b₁ a₁ n₁ e₁ ok₁ c w₁ ∙ (λ i. row_of (g₁ i) (k₁ i) (x₁ i) (on i)) in
      row-after owners helpers (left_in (heard_by owners helpers s p m₁ b₁)) q m₂ b₂ a₂ n₂ e₂ ok₂ c w₂ ∙ (λ i. row_of (g₂ i) (k₂ i) (x₂ i) (first i))

  -- a desk call before GRS is not swallowed: the 8 that it set stays
  pub desk-not-swallowed : (s : Standings) (c : ℕ) (d : List ℕ) (k : ℕ) (p : ℕ) (g b : List ℕ) (y : Ask) (n : ℕ)
      → (desk_board_of s.rows s.totals c true d).answer ≡ accepted k → ask_of g ≡ accepted y → y.act ≡ ResetGroup → Named y c
      → (heard_by owners helpers (left_in (desk_board_of s.rows s.totals c true d)) p g b).answer ≡ accepted n
      → octet (heard_by owners helpers (left_in (desk_board_of s.rows s.totals c true d)) p g b).states c ≡ 8
  unfolding changed_row mark_of
  desk-not-swallowed s c d k p g b y n e q grs w ok =
      let t = desk-board-totals s.rows s.totals c true d k e in
      let h = desk-board-acts s.rows s.totals c true d t.1 in
      let l : local (octet (desk_board_of s.rows s.totals c true d).states c) ≡ 1 = desk-local s.rows c d k (sym h.0 ∙ e) (ap (λ (x : List ℕ). octet x c) h.1) in
      row-after owners helpers (left_in (desk_board_of s.rows s.totals c true d)) p g b y n q ok c w
      ∙ (λ i. row_of (grs i) y.block (mark_of g (whole-group g y ResetGroup q grs (λ x. refl) i) (c - y.circuit)) (octet (desk_board_of s.rows s.totals c true d).states c))
      ∙ ap (λ (x : ℕ). x * 8) l
    where
      desk-local : (rows : List ℕ) (c : ℕ) (d : List ℕ) (k : ℕ) {x : ℕ} → (desk_of rows c true d).answer ≡ accepted k → x ≡ octet (desk_of rows c true d).states c → local x ≡ 1
      desk-local rows c d k e f = ap local f ∙ ap (λ (j : ℕ). local (octet (desk_of rows c true d).states j)) (sym (add-zero c)) ∙ ((desk-rule rows c true d k e).0.named 0 (omega arith) refl).0
