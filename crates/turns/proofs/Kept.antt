-- What a request leaves as it was.
use Prim.Native.Nat.{ℕ, ◌≤◌}
use mathlib.Core.Path.{◌≡◌, refl}
use mathlib.Core.Bool.{Bool, true, false}
use mathlib.Core.List.{List}
use mathlib.Core.Logic.{⊎_elim}
use native.Mathlib.Omega.{arith}
use borrow.Author.Tests.{eqb-true, eqb-false, ltb-false, leb-true}
use Rattle.octets.proofs.Choice.{decided}
use lib.Dec.{ltb, leb, eqb}
use Rattle.octets.specs.Answer.{refused}
use Rattle.octets.specs.Choice.{when◌then◌else◌}
use Rattle.board.proofs.Kept.{board-keeps, desk-board-keeps}
use Rattle.words.specs.Said.{said}
use Rattle.fields.specs.Kinds.{FieldSays}
use Rattle.forms.specs.Rows.{NUMBER, OWN, HELPER, SET, ACT, BLOCK, UNBLOCK, VELOCITY-BACK-LONG, BICC-COMPACT, BUSY, TOTAL, REBUILD, TICK, CHECK}
use Rattle.requests.specs.Words.{number_at, octet_at_lem, octets_at}
use Rattle.lines.specs.Lines.{lent}
use Rattle.codec_lines.specs.Codec.{codec_line_lem}
use Rattle.bicc_lines.specs.Bicc.{bicc_line_lem}
use Rattle.number_lines.specs.Numbers.{numbers_line_lem}
use Rattle.velocity_lines.specs.Velocities.{velocities_line_lem}
use Rattle.octets.specs.Applied.{spread}
use Rattle.block_lines.specs.Blocks.{block_done}
use Rattle.busy_lines.specs.Busy.{busy_after, busy_done}
use Rattle.busy_lines.proofs.Meaning.{others-keep-totals}
use Rattle.plan_lines.proofs.Meaning.{others-keep-ticks}
use Rattle.table_lines.specs.Tables.{DeskTables, desk_tables, Turn, turn, rows_line, set_turn, table_turn_lem}
use Rattle.act_lines.specs.Acts.{acts_of, act_turn_lem}
use Rattle.further_lines.specs.Further.{further_line_lem, further_done}
use Rattle.turns.specs.Turns.{Desk, bad_turn, block_turn_lem, further_turn_lem, turn_by, held_turn, night_turn, row_turn_lem}

-- an `act` that the hub refuses
abbrev pub Refused : DeskTables → List FieldSays → Type 0
Refused T gs = (n at : ℕ) × ((acts_of T gs).answer ≡ refused n at)

-- a `block` or `unblock` that is refused
abbrev pub NotBlocked : DeskTables → ℕ → List FieldSays → Type 0
NotBlocked T which gs = (n at : ℕ) × ((block_done T.tables.states T.totals which gs).answer ≡ refused n at)

module _ (T : DeskTables) (which : ℕ) (gs : List FieldSays) where
  -- of the requests of the tables, the choice of a row
  abbrev chosen_table : Bool → Bool → Bool → Turn
  chosen_table o h s =
      when o then turn (desk_tables T.tables.states (spread T.tables.owners (number_at gs 0) (number_at gs 1) (octet_at_lem gs 2)) T.tables.helpers T.totals) (said "ok")
      else when h then turn (desk_tables T.tables.states T.tables.owners (spread T.tables.helpers (number_at gs 0) (number_at gs 1) (octet_at_lem gs 2)) T.totals) (said "ok")
      else when s then turn (set_turn T (number_at gs 0) (number_at gs 1) (octet_at_lem gs 2)) (said "ok")
      else turn T (rows_line T.tables.states (number_at gs 0) (number_at gs 1))

  -- only `own` changes who owns a circuit
  table-owners : (which ≡ OWN → ⊥) → (table_turn_lem T which gs).tables.tables.owners ≡ T.tables.owners
  unfolding table_turn_lem
  table-owners n = go (eqb which OWN) (eqb which HELPER) (eqb which SET) refl
    where
      go : (o h s : Bool) → eqb which OWN ≡ o → (chosen_table o h s).tables.tables.owners ≡ T.tables.owners
      go true h s e = absurd (n (eqb-true which OWN e))
      go false true s e = refl
      go false false true e = refl
      go false false false e = refl

  -- only `helper` changes who helps a circuit
  table-helpers : (which ≡ HELPER → ⊥) → (table_turn_lem T which gs).tables.tables.helpers ≡ T.tables.helpers
  unfolding table_turn_lem
  table-helpers n = go (eqb which OWN) (eqb which HELPER) (eqb which SET) refl
    where
      go : (o h s : Bool) → eqb which HELPER ≡ h → (chosen_table o h s).tables.tables.helpers ≡ T.tables.helpers
      go true h s e = refl
      go false true s e = absurd (n (eqb-true which HELPER e))
      go false false true e = refl
      go false false false e = refl

  -- only `set` changes a row
  table-states : (which ≡ SET → ⊥) → (table_turn_lem T which gs).tables.tables.states ≡ T.tables.states
  unfolding table_turn_lem
  table-states n = go (eqb which OWN) (eqb which HELPER) (eqb which SET) refl
    where
      go : (o h s : Bool) → eqb which SET ≡ s → (chosen_table o h s).tables.tables.states ≡ T.tables.states
      go true h s e = refl
      go false true s e = refl
      go false false true e = absurd (n (eqb-true which SET e))
      go false false false e = refl

  -- and with it totals
  table-totals : (which ≡ SET → ⊥) → (table_turn_lem T which gs).tables.totals ≡ T.totals
  unfolding table_turn_lem
  table-totals n = go (eqb which OWN) (eqb which HELPER) (eqb which SET) refl
    where
      go : (o h s : Bool) → eqb which SET ≡ s → (chosen_table o h s).tables.totals ≡ T.totals
      go true h s e = refl
      go false true s e = refl
      go false false true e = absurd (n (eqb-true which SET e))
      go false false false e = refl

module _ (T : DeskTables) (which : ℕ) (gs : List FieldSays) where
  -- the choice of a family
  abbrev chosen_family : Bool → Bool → Bool → Bool → Bool → Bool → Bool → Turn
  chosen_family a b c d u v w =
      when a then turn T (codec_line_lem which gs)
      else when b then turn T (numbers_line_lem which gs)
      else when c then table_turn_lem T which gs
      else when d then act_turn_lem T gs
      else when u then block_turn_lem T which gs
      else when v then turn T (velocities_line_lem which gs)
      else when w then turn T (bicc_line_lem which gs)
      else further_turn_lem T which gs

  -- only `own` changes who owns a circuit, and only `helper` who helps one
  pub owners-by : (which ≡ OWN → ⊥) → (turn_by T which gs).tables.tables.owners ≡ T.tables.owners
  unfolding turn_by act_turn_lem
  owners-by h = go (ltb which NUMBER) (ltb which OWN) (ltb which ACT) (eqb which ACT) (leb which UNBLOCK) (leb which VELOCITY-BACK-LONG) (leb which BICC-COMPACT)
    where
      go : (a b c d u v w : Bool) → (chosen_family a b c d u v w).tables.tables.owners ≡ T.tables.owners
      go true b c d u v w = refl
      go false true c d u v w = refl
      go false false true d u v w = table-owners T which gs h
      go false false false true u v w = refl
      go false false false false true v w = refl
      go false false false false false true w = refl
      go false false false false false false true = refl
      go false false false false false false false = refl

  pub helpers-by : (which ≡ HELPER → ⊥) → (turn_by T which gs).tables.tables.helpers ≡ T.tables.helpers
  unfolding turn_by act_turn_lem
  helpers-by h = go (ltb which NUMBER) (ltb which OWN) (ltb which ACT) (eqb which ACT) (leb which UNBLOCK) (leb which VELOCITY-BACK-LONG) (leb which BICC-COMPACT)
    where
      go : (a b c d u v w : Bool) → (chosen_family a b c d u v w).tables.tables.helpers ≡ T.tables.helpers
      go true b c d u v w = refl
      go false true c d u v w = refl
      go false false true d u v w = table-helpers T which gs h
      go false false false true u v w = refl
      go false false false false true v w = refl
      go false false false false false true w = refl
      go false false false false false false true = refl
      go false false false false false false false = refl

  -- a `block` or an `unblock` that is refused
  block-states : (which ≡ BLOCK → NotBlocked T which gs) → (which ≡ UNBLOCK → NotBlocked T which gs) → 11 ≤ which → (which ≡ ACT → ⊥) → which ≤ 13 → (block_turn_lem T which gs).tables.tables.states ≡ T.tables.states
  unfolding block_done
  block-states p q l n h =
      let f : NotBlocked T which gs = ⊎_elim (λ t. p (eqb-true which BLOCK t)) (λ t. let z = eqb-false which BLOCK t in q (omega (arith, z, n, l, h))) (decided (eqb which BLOCK)) in
      (desk-board-keeps T.tables.states T.totals (number_at gs 0) (eqb which BLOCK) (lent (number_at gs 1)) f.0 f.1 f.2).0

  block-totals : (which ≡ BLOCK → NotBlocked T which gs) → (which ≡ UNBLOCK → NotBlocked T which gs) → 11 ≤ which → (which ≡ ACT → ⊥) → which ≤ 13 → (block_turn_lem T which gs).tables.totals ≡ T.totals
  unfolding block_done
  block-totals p q l n h =
      let f : NotBlocked T which gs = ⊎_elim (λ t. p (eqb-true which BLOCK t)) (λ t. let z = eqb-false which BLOCK t in q (omega (arith, z, n, l, h))) (decided (eqb which BLOCK)) in
      (desk-board-keeps T.tables.states T.totals (number_at gs 0) (eqb which BLOCK) (lent (number_at gs 1)) f.0 f.1 f.2).1

  -- a row changes by `set`, by an `act` that the hub does not refuse, or by a `block` or an
  -- `unblock` that is not refused
  pub states-by : (which ≡ SET → ⊥) → (which ≡ ACT → Refused T gs) → (which ≡ BLOCK → NotBlocked T which gs) → (which ≡ UNBLOCK → NotBlocked T which gs) → (turn_by T which gs).tables.tables.states ≡ T.tables.states
  unfolding turn_by act_turn_lem
  states-by h r p q = go (ltb which NUMBER) (ltb which OWN) (ltb which ACT) (eqb which ACT) (leb which UNBLOCK) (leb which VELOCITY-BACK-LONG) (leb which BICC-COMPACT) refl refl refl
    where
      go : (a b c d u v w : Bool) → ltb which ACT ≡ c → eqb which ACT ≡ d → leb which UNBLOCK ≡ u → (chosen_family a b c d u v w).tables.tables.states ≡ T.tables.states
      go true b c d u v w f e g = refl
      go false true c d u v w f e g = refl
      go false false true d u v w f e g = table-states T which gs h
      go false false false true u v w f e g = let y = r (eqb-true which ACT e) in (board-keeps T.tables T.totals (number_at gs 0) (octets_at gs 1) (lent (number_at gs 2)) y.0 y.1 y.2).0
      go false false false false true v w f e g = block-states p q (ltb-false which ACT f) (eqb-false which ACT e) (leb-true which UNBLOCK g)
      go false false false false false true w f e g = refl
      go false false false false false false true f e g = refl
      go false false false false false false false f e g = refl

  -- the further ones change a total by `total` and `rebuild` alone
  further-totals : (which ≡ TOTAL → ⊥) → (which ≡ REBUILD → ⊥) → (further_turn_lem T which gs).tables.totals ≡ T.totals
  unfolding further_done
  further-totals t b = go (ltb which BUSY) (leb which REBUILD) refl refl
    where
      go : (l h : Bool) → ltb which BUSY ≡ l → leb which REBUILD ≡ h → (when l then busy_after T.totals (further_line_lem which gs) else when h then busy_done T.tables.states T.totals which gs else busy_after T.totals (said "bad line")).totals ≡ T.totals
      go true h e f = refl
      go false true e f = others-keep-totals T.tables.states T.totals gs which (ltb-false which BUSY e) (leb-true which REBUILD f) t b
      go false false e f = refl

  -- a total changes by these, by `total` and by `rebuild`
  pub totals-by : (which ≡ SET → ⊥) → (which ≡ ACT → Refused T gs) → (which ≡ BLOCK → NotBlocked T which gs) → (which ≡ UNBLOCK → NotBlocked T which gs) → (which ≡ TOTAL → ⊥) → (which ≡ REBUILD → ⊥) → (turn_by T which gs).tables.totals ≡ T.totals
  unfolding turn_by act_turn_lem
  totals-by h r p q t k = go (ltb which NUMBER) (ltb which OWN) (ltb which ACT) (eqb which ACT) (leb which UNBLOCK) (leb which VELOCITY-BACK-LONG) (leb which BICC-COMPACT) refl refl refl
    where
      go : (a b c d u v w : Bool) → ltb which ACT ≡ c → eqb which ACT ≡ d → leb which UNBLOCK ≡ u → (chosen_family a b c d u v w).tables.totals ≡ T.totals
      go true b c d u v w f e g = refl
      go false true c d u v w f e g = refl
      go false false true d u v w f e g = table-totals T which gs h
      go false false false true u v w f e g = let y = r (eqb-true which ACT e) in (board-keeps T.tables T.totals (number_at gs 0) (octets_at gs 1) (lent (number_at gs 2)) y.0 y.1 y.2).1
      go false false false false true v w f e g = block-totals p q (ltb-false which ACT f) (eqb-false which ACT e) (leb-true which UNBLOCK g)
      go false false false false false true w f e g = refl
      go false false false false false false true f e g = refl
      go false false false false false false false f e g = further-totals t k

module _ (D : Desk) (which : ℕ) (gs : List FieldSays) where
  -- the tables are what a row before `tick` leaves, or what they were
  pub held_by : (P : DeskTables → Type 0) → P (turn_by D.held which gs).tables → P D.held → P (row_turn_lem D which gs).desk.held
  unfolding row_turn_lem
  held_by P a b = go (ltb which TICK) (leb which CHECK)
    where
      go : (s t : Bool) → P (when s then held_turn D.ticks (turn_by D.held which gs) else when t then night_turn D which gs else bad_turn D).desk.held
      go true t = a
      go false true = b
      go false false = b

  -- only `tick` changes a tick
  pub ticks-by : (which ≡ TICK → ⊥) → (row_turn_lem D which gs).desk.ticks ≡ D.ticks
  unfolding row_turn_lem
  ticks-by n = go (ltb which TICK) (leb which CHECK)
    where
      go : (s t : Bool) → (when s then held_turn D.ticks (turn_by D.held which gs) else when t then night_turn D which gs else bad_turn D).desk.ticks ≡ D.ticks
      go true t = refl
      go false true = others-keep-ticks D.held.tables D.ticks gs which n
      go false false = refl
