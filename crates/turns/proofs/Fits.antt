-- No answer's line is long, family by family.
use Rattle.std.specs.Prelude.{Option, Some, None}
use Rattle.layout.specs.declared.Shape.{Shape}
use Prim.Native.Nat.{ℕ, zero, suc, ◌+◌, ◌*◌, ◌-◌, ◌/◌, ◌%◌, ◌≤◌, ◌<◌}
use Prim.Native.String.{String}
use mathlib.Core.Path.{◌≡◌, refl, sym, ap}
use mathlib.Core.Bool.{Bool, true, false}
use mathlib.Core.List.{List, [], ◌∷◌, ◌++◌}
use native.Mathlib.Omega.{arith}
use borrow.Author.Tests.{ltb-true, ltb-false}
use lib.Dec.{ltb, leb, eqb}
use lib.ListN.{length, take, drop, replicate, length-append, length-take, length-drop, length-replicate, set}
use lib.Ieee.{Float}
use Rattle.octets.specs.Octet.{octets}
use Rattle.octets.specs.Choice.{when◌then◌else◌}
use Rattle.octets.specs.Answer.{Answer, accepted, refused, ◌then◌}
use Rattle.octets.specs.Filled.{done, leaving, room_for}
use Rattle.parts.specs.declared.Span.{Span}
use Rattle.parts.specs.declared.Parts.{Parts}
use Rattle.parts.specs.Spans.{part_of}
use Rattle.isup.specs.declared.Message.{Message}
use Rattle.finding.specs.Find.{Spot, locate_of}
use Rattle.number.specs.declared.Number.{Number}
use Rattle.isup.specs.Table.{shape_of}
use Rattle.isup.specs.Read.{read_of}
use Rattle.isup.specs.Write.{write_in, write_of, compact_in, compact_of}
use Rattle.bicc.specs.declared.Message.{Message as CallMessage}
use Rattle.bicc.specs.Table.{call_shape_of as bicc_shape_of}
use Rattle.bicc.specs.Read.{call_read_of as bicc_read_of}
use Rattle.bicc.specs.Write.{call_write_in as bicc_write_in, call_write_of as bicc_write_of, call_compact_in as bicc_compact_in, call_compact_of as bicc_compact_of}
use Rattle.sccp.specs.declared.Message.{Message as SccpMessage}
use Rattle.sccp.specs.Table.{sccp, sccp_shape_of}
use Rattle.sccp.specs.Read.{sccp_read_of}
use Rattle.sccp.specs.Write.{sccp_write_in, sccp_write_of, sccp_compact_in, sccp_compact_of}
use Rattle.family.specs.Family.{Family, read_in}
use Rattle.family.specs.Steps.{offer_at_lem, place_after_lem, steps_from, start_in}
use Rattle.family.proofs.Steps.{done-stays}
use Rattle.runs.specs.declared.Field.{Field}
use Rattle.isup.specs.Table.{isup}
use Rattle.bicc.specs.Table.{bicc}
use Rattle.number.specs.Read.{number_in, read_number_of}
use Rattle.dialling.specs.Write.{number_octets, write_number_of}
use Rattle.decimals.specs.Decimals.{real_of_lem}
use Rattle.velocity.specs.declared.Mark.{Mark}
use Rattle.velocity.specs.declared.Mark.TheVariants.{Upward, Downward}
use Rattle.velocity.specs.declared.Velocity.TheVariants.{Horizontal as Along, WithVertical as AlongAndUp}
use Rattle.velocity.specs.declared.Codes.{Codes}
use Rattle.velocity.specs.declared.Codes.TheVariants.{Horizontal, WithVertical}
use Rattle.velocity.specs.declared.Course.{Course}
use Rattle.velocity.specs.Velocity.{codes_of, Stands, alone, beside, known_of}
use Rattle.totals.specs.declared.Count.{Count}
use Rattle.totals.specs.Blocks.{rebuild_of}
use Rattle.totals.specs.Question.{busy_between_lem}
use Rattle.layout.proofs.Packed.{bit-small}
use Rattle.rights.specs.Tables.{Tables}
use Rattle.plans.specs.Plans.{ticked}
use Rattle.plans.specs.Turns.{check_at}
use Rattle.surveys.specs.Surveys.{tick_count}
use Rattle.planning.specs.Outcome.{planned_of}
use Rattle.planning.proofs.Outcome.{plan-nine}
use Rattle.board.proofs.Kept.{board-buffer-length, desk-board-buffer-length}
use Rattle.words.specs.Said.{said}
use Rattle.printing.specs.Shown.{decimal_in, decimal_of, hex_pairs, hex_of}
use Rattle.fields.specs.Kinds.{FieldSays}
use Rattle.forms.specs.Rows.{SHAPE, READ, WRITE, COMPACT, NUMBER, OWN, HELPER, SET, ACT, BLOCK, UNBLOCK, VELOCITY, VELOCITY-LONG, VELOCITY-BACK, VELOCITY-BACK-LONG, BICC-SHAPE, BICC-READ, BICC-WRITE, BICC-COMPACT, SCCP-SHAPE, SCCP-READ, SCCP-WRITE, SCCP-COMPACT, LIST, BICC-LIST, SCCP-LIST, BUSY, TOTALS, TOTAL, REBUILD, TICK, PLAN, CHECK}
use Rattle.requests.specs.Words.{number_at, octet_at_lem, octets_at}
use Rattle.lines.specs.Lines.{counted, shown, refusal, fault_line, written_line, octets_line, blank, lent, again_line, compact_line}
use Rattle.read_lines.specs.Read.{optional_word, shape_line, parts_line, read_line}
use Rattle.codec_lines.specs.Codec.{found_line, codec_line_lem}
use Rattle.bicc_lines.specs.Bicc.{code_line, bicc_line_lem}
use Rattle.sccp_lines.specs.Sccp.{three_line, type_line, sccp_line_lem}
use Rattle.list_lines.specs.Lists.{offer_text, steps_text, list_from, list_by, list_in, list_line_lem}
use Rattle.list_lines.proofs.Stepping.{offered}
use Rattle.number_lines.specs.Numbers.{signals_line, number_line, numbers_line_lem}
use Rattle.velocity_lines.specs.Velocities.{typed_mark, mark_word, codes_line, coded_line, whole_in, course_line, known_line, by_value, by_mark, velocity_line, velocity_long_line, back_line, back_long_line, code_at, velocities_line_lem}
use Rattle.octets.specs.Applied.{spread}
use Rattle.block_lines.specs.Blocks.{notice_line, block_done}
use Rattle.busy_lines.specs.Busy.{busy_line, rebuild_line, busy_after, rebuilt, busy_done}
use Rattle.plan_lines.specs.Night.{plan_lent, plan_line, checked_line, night_after, night_done}
use Rattle.table_lines.specs.Tables.{DeskTables, desk_tables, turn, rows_line, set_turn, table_turn_lem}
use Rattle.act_lines.specs.Acts.{reply_line, acts_of, act_turn_lem}
use Rattle.further_lines.specs.Further.{further_line_lem, further_done}
use Rattle.turns.specs.Turns.{Desk, bad_turn, block_turn_lem, further_turn_lem, turn_by, held_turn, night_turn, row_turn_lem}

-- ten digits at the most
decimal-length : (k n : ℕ) → length (decimal_in k n) ≤ k
unfolding decimal_in
decimal-length zero n = omega arith
decimal-length (suc k) n = go (ltb 9 n) (decimal_in k (n / 10)) (decimal-length k (n / 10))
  where
    go : (t : Bool) (xs : List ℕ) → length xs ≤ k → length ((when t then xs else []) ++ ((48 + n % 10) ∷ [])) ≤ suc k
    go true xs h = omega (arith, length-append xs ((48 + n % 10) ∷ []))
    go false xs h = omega arith

-- two digits an octet, or one `-`
pairs-length : (xs : List ℕ) → length (hex_pairs xs) ≡ 2 * length xs
unfolding hex_pairs
pairs-length [] = refl
pairs-length (x ∷ xs) = omega (arith, pairs-length xs)

hex-length : (xs : List ℕ) → length (hex_of xs) ≤ 2 * length xs + 1
unfolding hex_of
hex-length xs = go (eqb (length xs) 0)
  where
    go : (t : Bool) → length (when t then 45 ∷ [] else hex_pairs xs) ≤ 2 * length xs + 1
    go true = omega arith
    go false = omega (arith, pairs-length xs)

-- of one octet two digits
pair-length : (x : ℕ) → length (hex_of (x ∷ [])) ≡ 2
unfolding hex_of hex_pairs
pair-length x = refl

-- a word and a number
pub counted-length : (w : String) (n : ℕ) → length (counted w n) ≤ length (said w) + 10
counted-length w n = omega (arith, length-append (said w) (decimal_of n), decimal-length 10 n)

fault-length : (n at : ℕ) → length (fault_line n at) ≤ 50
unfolding fault_line
fault-length n at = go (ltb n 3) (ltb 8 n)
  where
    go : (s t : Bool) → length (when s then refusal n else when t then refusal n else refusal n ++ counted " at " at) ≤ 50
    go true t = omega (arith, counted-length "refused " n)
    go false true = omega (arith, counted-length "refused " n)
    go false false = omega (arith, length-append (refusal n) (counted " at " at), counted-length "refused " n, counted-length " at " at)

shown-length : (w : String) (xs : List ℕ) (most : ℕ) → length xs ≤ most → length (shown w xs) ≤ length (said w) + 2 * most + 1
shown-length w xs most h = omega (arith, length-append (said w) (hex_of xs), hex-length xs)

-- octets of a list are no more than it has
octets-length : (m : List ℕ) (from n most : ℕ) → length m ≤ most → length (octets m from n) ≤ most
octets-length m from n most h = omega (arith, length-take n (drop from m), length-drop from m)

front_length : (m : List ℕ) (n most : ℕ) → length m ≤ most → length (take n m) ≤ most
front_length m n most h = omega (arith, length-take n m)

-- ---- the lines, by how long they can get
shape-fits : (r : Option Shape) → length (shape_line r) ≤ 100
unfolding shape_line
shape-fits (Some s) =
    omega (arith, length-append (counted "fixed " s.fixed ++ counted " variable " s.vars) (optional_word s.opt), length-append (counted "fixed " s.fixed) (counted " variable " s.vars), counted-length "fixed " s.fixed, counted-length " variable " s.vars, go s.opt)
  where
    go : (t : Bool) → length (optional_word t) ≤ 13
    go true = omega arith
    go false = omega arith
shape-fits None = omega (arith, counted-length "refused " 3)

module _ (most : ℕ) (m : List ℕ) (h : length m ≤ most) where
  part-fits : (w : String) (s : Span) → length (shown w (part_of m s)) ≤ length (said w) + 2 * most + 1
  part-fits w s = shown-length w (part_of m s) most (octets-length m s.from (s.to - s.from) most h)

  parts-fit : (p : Parts) → length (parts_line m p) ≤ 8 * most + 100
  unfolding parts_line
  parts-fit p =
      let a = shown " fixed " (part_of m p.fixed) in
      let b = shown " first " (part_of m p.first) in
      let c = shown " second " (part_of m p.second) in
      let d = shown " optional " (part_of m p.optional) in
      omega (arith, length-append (a ++ b ++ c) d, length-append (a ++ b) c, length-append a b, part-fits " fixed " p.fixed, part-fits " first " p.first, part-fits " second " p.second, part-fits " optional " p.optional)

  read_fits : (x : Answer Message) → length (read_line m x) ≤ 8 * most + 200
  unfolding read_line
  read_fits (accepted x) =
      let a = counted "circuit " x.circuit in
      let b = shown " type " (x.kind ∷ []) in
      omega (arith, length-append (a ++ b) (parts_line m x.parts), length-append a b, counted-length "circuit " x.circuit, shown-length " type " (x.kind ∷ []) 1 (omega arith), parts-fit x.parts)
  read_fits (refused n at) = omega (arith, fault-length n at)

  code_fits : (x : Answer CallMessage) → length (code_line m x) ≤ 8 * most + 200
  unfolding code_line
  code_fits (accepted x) =
      let a = counted "code " x.code in
      let b = shown " type " (x.kind ∷ []) in
      omega (arith, length-append (a ++ b) (parts_line m x.parts), length-append a b, counted-length "code " x.code, shown-length " type " (x.kind ∷ []) 1 (omega arith), parts-fit x.parts)
  code_fits (refused n at) = omega (arith, fault-length n at)

  three-fit : (p : Parts) → length (three_line m p) ≤ 10 * most + 100
  unfolding three_line
  three-fit p =
      let a = shown " fixed " (part_of m p.fixed) in
      let b = shown " first " (part_of m p.first) in
      let c = shown " second " (part_of m p.second) in
      let d = shown " third " (part_of m p.third) in
      let e = shown " optional " (part_of m p.optional) in
      omega (arith, length-append (a ++ b ++ c ++ d) e, length-append (a ++ b ++ c) d, length-append (a ++ b) c, length-append a b, part-fits " fixed " p.fixed, part-fits " first " p.first, part-fits " second " p.second, part-fits " third " p.third, part-fits " optional " p.optional)

  type-fits : (x : Answer SccpMessage) → length (type_line m x) ≤ 10 * most + 200
  unfolding type_line
  type-fits (accepted x) = omega (arith, length-append (shown "type " (x.kind ∷ [])) (three_line m x.parts), shown-length "type " (x.kind ∷ []) 1 (omega arith), three-fit x.parts)
  type-fits (refused n at) = omega (arith, fault-length n at)

  written-fits : (x : Answer ℕ) → length (written_line x m) ≤ 2 * most + 100
  unfolding written_line
  written-fits (accepted n) = omega (arith, shown-length "octets " (take n m) most (front_length m n most h))
  written-fits (refused n at) = omega (arith, counted-length "refused " n)

  again-fits : (x : Answer ℕ) → length (again_line x m) ≤ 2 * most + 100
  unfolding again_line
  again-fits (accepted n) = omega (arith, shown-length "octets " (take n m) most (front_length m n most h))
  again-fits (refused n at) = omega (arith, fault-length n at)

  reply-fits : (x : Answer ℕ) → length (reply_line x m) ≤ 2 * most + 100
  unfolding reply_line
  reply-fits (accepted n) = omega (arith, shown-length "answer " (take n m) most (front_length m n most h))
  reply-fits (refused n at) = omega (arith, fault-length n at)

  notice-fits : (x : Answer ℕ) → length (notice_line x m) ≤ 2 * most + 100
  unfolding notice_line
  notice-fits (accepted n) = omega (arith, shown-length "answer " (take n m) most (front_length m n most h))
  notice-fits (refused n at) = omega (arith, counted-length "refused " n)

  signals-fit : (x : Answer Number) → length (signals_line x m) ≤ 2 * most + 200
  unfolding signals_line
  signals-fit (accepted x) =
      let a = counted "nature " x.nature in
      let b = counted " plan " x.plan in
      let c = counted " internal " x.internal in
      let d = shown " signals " (take x.count m) in
      omega (arith, length-append (a ++ b ++ c) d, length-append (a ++ b) c, length-append a b, counted-length "nature " x.nature, counted-length " plan " x.plan, counted-length " internal " x.internal, shown-length " signals " (take x.count m) most (front_length m x.count most h))
  signals-fit (refused n at) = omega (arith, counted-length "refused " n)

  rows_fit : (first last : ℕ) → length (rows_line m first last) ≤ 2 * most + 100
  rows_fit first last = omega (arith, shown-length "rows " (octets m first (last + 1 - first)) most (octets-length m first (last + 1 - first) most h))

  found-fits : (d : List ℕ) → length d ≤ most → (x : Answer Spot) → length (found_line m d x) ≤ 2 * most + 100
  unfolding found_line
  found-fits d k (accepted s) = go (eqb s.holder 100)
    where
      go : (t : Bool) → length (when t then shown "defaults " (octets d s.start s.len) else shown "message " (octets m s.start s.len)) ≤ 2 * most + 100
      go true = omega (arith, shown-length "defaults " (octets d s.start s.len) most (octets-length d s.start s.len most k))
      go false = omega (arith, shown-length "message " (octets m s.start s.len) most (octets-length m s.start s.len most h))
  found-fits d k (refused n at) = omega (arith, fault-length n at)

-- the steps from octet i on show three characters an octet at the most
field-length : (m : List ℕ) (f : Field) → length (offer_text m (Some f)) ≤ 5 + 2 * f.len
field-length m f =
    let a = shown " " (f.name ∷ []) in
    let b = shown " " (octets m f.at f.len) in
    omega (arith, length-append a b, length-append (said " ") (hex_of (f.name ∷ [])), pair-length f.name, shown-length " " (octets m f.at f.len) f.len (omega (arith, length-take f.len (drop f.at m))))

steps-length : (n : ℕ) (m : List ℕ) (i : ℕ) → length (steps_text m (steps_from n m i)) ≤ 3 * (length m - i)
unfolding steps_from steps_text
steps-length zero m i = omega arith
steps-length (suc n) m i = go (steps-length n m (place_after_lem m i)) (offer_at_lem m i) refl
  where
    go : length (steps_text m (steps_from n m (place_after_lem m i))) ≤ 3 * (length m - place_after_lem m i) → (g : Option Field) → offer_at_lem m i ≡ g → length (offer_text m g ++ steps_text m (steps_from n m (place_after_lem m i))) ≤ 3 * (length m - i)
    go rest (Some f) e = let x = offered m i f e in omega (arith, length-append (offer_text m (Some f)) (steps_text m (steps_from n m (place_after_lem m i))), field-length m f, rest, x.past, x.starts, x.inside)
    go rest None e = omega (arith, rest, done-stays m i e)

-- a lent buffer keeps its length
done-length : {A : Type 0} (buffer : List ℕ) (x : Answer (A × List ℕ)) → length (done buffer (x then room_for buffer)).left ≡ length buffer
done-length {A} buffer (accepted y) = go (ltb (length buffer) (length y.1)) refl
  where
    go : (t : Bool) → ltb (length buffer) (length y.1) ≡ t → length (done buffer (when t then refused 13 0 else accepted y)).left ≡ length buffer
    go true e = refl
    go false e = omega (arith, length-append y.1 (drop (length y.1) buffer), length-drop (length y.1) buffer, ltb-false (length buffer) (length y.1) e)
done-length buffer (refused n at) = refl

lent_length : (room : ℕ) → length (lent room) ≤ 1024
unfolding blank
lent_length room = omega (arith, length-take {A = ℕ} room (replicate 1024 0), length-replicate {A = ℕ} 1024 0)

-- what a request's fields hold is short
abbrev pub ShortAll : List FieldSays → Type 0
ShortAll gs = (i : ℕ) → length (octets_at gs i) ≤ 1024

module _ (which : ℕ) (gs : List FieldSays) (h : ShortAll gs) where
  -- the codec's requests
  codec-fits : length (codec_line_lem which gs) ≤ 40000
  unfolding codec_line_lem write_of compact_of
  codec-fits = go (eqb which SHAPE) (eqb which READ) (eqb which WRITE) (eqb which COMPACT)
    where
      go : (a b c d : Bool) → length (when a then shape_line (shape_of (octet_at_lem gs 0))
          else when b then read_line (octets_at gs 0) (read_of (octets_at gs 0))
          else when c then octets_line (write_of (number_at gs 0) (number_at gs 1) (octets_at gs 2) (octets_at gs 3) (octets_at gs 4) (octets_at gs 5) (lent (number_at gs 6)))
          else when d then compact_line (compact_of (octets_at gs 0) (lent (number_at gs 1)))
          else found_line (octets_at gs 1) (octets_at gs 2) (locate_of (octets_at gs 1) (octets_at gs 2) (number_at gs 0))) ≤ 40000
      go true b c d = omega (arith, shape-fits (shape_of (octet_at_lem gs 0)))
      go false true c d = omega (arith, read_fits 1024 (octets_at gs 0) (h 0) (read_of (octets_at gs 0)))
      go false false true d =
          let x = write_of (number_at gs 0) (number_at gs 1) (octets_at gs 2) (octets_at gs 3) (octets_at gs 4) (octets_at gs 5) (lent (number_at gs 6)) in
          omega (arith, written-fits 1024 x.left (omega (arith, lent_length (number_at gs 6), done-length (lent (number_at gs 6)) (write_in (number_at gs 0) (number_at gs 1) (octets_at gs 2) (octets_at gs 3) (octets_at gs 4) (octets_at gs 5)))) x.answer)
      go false false false true =
          let x = compact_of (octets_at gs 0) (lent (number_at gs 1)) in
          omega (arith, again-fits 1024 x.left (omega (arith, lent_length (number_at gs 1), done-length (lent (number_at gs 1)) (compact_in (octets_at gs 0)))) x.answer)
      go false false false false = omega (arith, found-fits 1024 (octets_at gs 1) (h 1) (octets_at gs 2) (h 2) (locate_of (octets_at gs 1) (octets_at gs 2) (number_at gs 0)))

  -- BICC's
  bicc-fits : length (bicc_line_lem which gs) ≤ 40000
  unfolding bicc_line_lem bicc_write_of bicc_compact_of
  bicc-fits = go (eqb which BICC-SHAPE) (eqb which BICC-READ) (eqb which BICC-WRITE)
    where
      go : (a b c : Bool) → length (when a then shape_line (bicc_shape_of (octet_at_lem gs 0))
          else when b then code_line (octets_at gs 0) (bicc_read_of (octets_at gs 0))
          else when c then octets_line (bicc_write_of (number_at gs 0) (number_at gs 1) (octets_at gs 2) (octets_at gs 3) (octets_at gs 4) (octets_at gs 5) (lent (number_at gs 6)))
          else compact_line (bicc_compact_of (octets_at gs 0) (lent (number_at gs 1)))) ≤ 40000
      go true b c = omega (arith, shape-fits (bicc_shape_of (octet_at_lem gs 0)))
      go false true c = omega (arith, code_fits 1024 (octets_at gs 0) (h 0) (bicc_read_of (octets_at gs 0)))
      go false false true =
          let x = bicc_write_of (number_at gs 0) (number_at gs 1) (octets_at gs 2) (octets_at gs 3) (octets_at gs 4) (octets_at gs 5) (lent (number_at gs 6)) in
          omega (arith, written-fits 1024 x.left (omega (arith, lent_length (number_at gs 6), done-length (lent (number_at gs 6)) (bicc_write_in (number_at gs 0) (number_at gs 1) (octets_at gs 2) (octets_at gs 3) (octets_at gs 4) (octets_at gs 5)))) x.answer)
      go false false false =
          let x = bicc_compact_of (octets_at gs 0) (lent (number_at gs 1)) in
          omega (arith, again-fits 1024 x.left (omega (arith, lent_length (number_at gs 1), done-length (lent (number_at gs 1)) (bicc_compact_in (octets_at gs 0)))) x.answer)

  -- SCCP's
  sccp-fits : length (sccp_line_lem which gs) ≤ 40000
  unfolding sccp_line_lem sccp_write_of sccp_compact_of
  sccp-fits = go (eqb which SCCP-SHAPE) (eqb which SCCP-READ) (eqb which SCCP-WRITE)
    where
      go : (a b c : Bool) → length (when a then shape_line (sccp_shape_of (octet_at_lem gs 0))
          else when b then type_line (octets_at gs 0) (sccp_read_of (octets_at gs 0))
          else when c then octets_line (sccp_write_of (number_at gs 0) (octets_at gs 1) (octets_at gs 2) (octets_at gs 3) (octets_at gs 4) (octets_at gs 5) (lent (number_at gs 6)))
          else compact_line (sccp_compact_of (octets_at gs 0) (lent (number_at gs 1)))) ≤ 40000
      go true b c = omega (arith, shape-fits (sccp_shape_of (octet_at_lem gs 0)))
      go false true c = omega (arith, type-fits 1024 (octets_at gs 0) (h 0) (sccp_read_of (octets_at gs 0)))
      go false false true =
          let x = sccp_write_of (number_at gs 0) (octets_at gs 1) (octets_at gs 2) (octets_at gs 3) (octets_at gs 4) (octets_at gs 5) (lent (number_at gs 6)) in
          omega (arith, written-fits 1024 x.left (omega (arith, lent_length (number_at gs 6), done-length (lent (number_at gs 6)) (sccp_write_in (number_at gs 0) (octets_at gs 1) (octets_at gs 2) (octets_at gs 3) (octets_at gs 4) (octets_at gs 5)))) x.answer)
      go false false false =
          let x = sccp_compact_of (octets_at gs 0) (lent (number_at gs 1)) in
          omega (arith, again-fits 1024 x.left (omega (arith, lent_length (number_at gs 1), done-length (lent (number_at gs 1)) (sccp_compact_in (octets_at gs 0)))) x.answer)

  -- a message's parameters
  steps-fit : (m : List ℕ) → length m ≤ 1024 → (i : ℕ) (g : Option Field) → length (list_from m i g) ≤ 40000
  steps-fit m k i (Some f) = omega (arith, length-append (said "parameters") (steps_text m (steps_from (length m) m i)), steps-length (length m) m i)
  steps-fit m k i None = omega arith

  listed-fits : (F : Family) (m : List ℕ) → length m ≤ 1024 → length (list_in F m) ≤ 40000
  unfolding list_in
  listed-fits F m k = go (read_in F m)
    where
      go : (x : Answer Parts) → length (list_by m (start_in F m) x) ≤ 40000
      go (accepted p) = steps-fit m k (start_in F m) (offer_at_lem m (start_in F m))
      go (refused n at) = omega (arith, fault-length n at)

  list-fits : length (list_line_lem which gs) ≤ 40000
  unfolding list_line_lem
  list-fits = go (eqb which LIST) (eqb which BICC-LIST)
    where
      go : (a b : Bool) → length (when a then list_in isup (octets_at gs 0) else when b then list_in bicc (octets_at gs 0) else list_in sccp (octets_at gs 0)) ≤ 40000
      go true b = listed-fits isup (octets_at gs 0) (h 0)
      go false true = listed-fits bicc (octets_at gs 0) (h 0)
      go false false = listed-fits sccp (octets_at gs 0) (h 0)

  -- SCCP's, those that list, and a line that is no request
  further-fits : length (further_line_lem which gs) ≤ 40000
  unfolding further_line_lem
  further-fits = go (leb which SCCP-COMPACT) (leb which SCCP-LIST)
    where
      go : (a b : Bool) → length (when a then sccp_line_lem which gs else when b then list_line_lem which gs else said "bad line") ≤ 40000
      go true b = sccp-fits
      go false true = list-fits
      go false false = omega arith

  -- those for numbers
  numbers_fit : length (numbers_line_lem which gs) ≤ 40000
  unfolding numbers_line_lem
  numbers_fit = go (eqb which NUMBER)
    where
      go : (a : Bool) → length (when a then number_line (read_number_of (octets_at gs 0) (lent (number_at gs 1))) else octets_line (write_number_of (number_at gs 0) (number_at gs 1) (number_at gs 2) (octets_at gs 3) (lent (number_at gs 4)))) ≤ 40000
      go true =
          let x = read_number_of (octets_at gs 0) (lent (number_at gs 1)) in
          omega (arith, signals-fit 1024 x.left (omega (arith, lent_length (number_at gs 1), done-length (lent (number_at gs 1)) (number_in (octets_at gs 0)))) x.answer)
      go false =
          let x = write_number_of (number_at gs 0) (number_at gs 1) (number_at gs 2) (octets_at gs 3) (lent (number_at gs 4)) in
          omega (arith, written-fits 1024 x.left (omega (arith, lent_length (number_at gs 4), done-length (lent (number_at gs 4)) (number_octets (number_at gs 0) (number_at gs 1) (number_at gs 2) (octets_at gs 3)))) x.answer)

-- those for velocities
mark-fits : (m : Mark) → length (mark_word m) ≤ 5
mark-fits Upward = omega arith
mark-fits Downward = omega arith

codes-fit : (c : Codes) → length (codes_line c) ≤ 100
unfolding codes_line
codes-fit (Horizontal b s) = omega (arith, length-append (counted "bearing " b) (counted " speed " s), counted-length "bearing " b, counted-length " speed " s)
codes-fit (WithVertical b s u m) =
    omega (arith, length-append (counted "bearing " b ++ counted " speed " s ++ counted " vertical " u) (mark_word m), length-append (counted "bearing " b ++ counted " speed " s) (counted " vertical " u), length-append (counted "bearing " b) (counted " speed " s), counted-length "bearing " b, counted-length " speed " s, counted-length " vertical " u, mark-fits m)

coded-fits : (x : Answer Codes) → length (coded_line x) ≤ 100
unfolding coded_line
coded-fits (accepted c) = codes-fit c
coded-fits (refused n at) = omega (arith, counted-length "refused " n)

course-fits : (c : Course) → length (course_line c) ≤ 50
unfolding course_line
course-fits c = omega (arith, length-append (counted "bearing " (whole_in c.bearing)) (counted " speed " (whole_in c.speed)), counted-length "bearing " (whole_in c.bearing), counted-length " speed " (whole_in c.speed))

known-fits : (x : Answer Stands) → length (known_line x) ≤ 100
unfolding known_line
known-fits (accepted (alone c)) = omega (arith, course-fits c)
known-fits (accepted (beside c u m)) = omega (arith, length-append (course_line c ++ counted " vertical " (whole_in u)) (mark_word m), length-append (course_line c) (counted " vertical " (whole_in u)), course-fits c, counted-length " vertical " (whole_in u), mark-fits m)
known-fits (refused n at) = omega (arith, counted-length "refused " n)

value-fits : (r : Option Float) (f : Float → List ℕ) → ((x : Float) → length (f x) ≤ 100) → length (by_value r f) ≤ 100
value-fits (Some x) f h = h x
value-fits None f h = omega arith

by-mark-fits : (r : Option Mark) (f : Mark → List ℕ) → ((m : Mark) → length (f m) ≤ 100) → length (by_mark r f) ≤ 100
by-mark-fits (Some m) f h = h m
by-mark-fits None f h = omega arith

velocity-fits : (b s : List ℕ) → length (velocity_line b s) ≤ 100
unfolding velocity_line
velocity-fits b s = value-fits (real_of_lem b) _ (λ x. value-fits (real_of_lem s) _ (λ y. coded-fits (codes_of (Along x y))))

velocity-long-fits : (b s u m : List ℕ) → length (velocity_long_line b s u m) ≤ 100
unfolding velocity_long_line
velocity-long-fits b s u m =
    value-fits (real_of_lem b) _ (λ x. value-fits (real_of_lem s) _ (λ y. value-fits (real_of_lem u) _ (λ z. by-mark-fits (typed_mark m) _ (λ w. coded-fits (codes_of (AlongAndUp x y z w))))))

back-long-fits : (b s u : ℕ) (m : List ℕ) → length (back_long_line b s u m) ≤ 100
unfolding back_long_line
back-long-fits b s u m = by-mark-fits (typed_mark m) _ (λ w. known-fits (known_of (WithVertical b s u w)))

velocities-fit : (which : ℕ) (gs : List FieldSays) → length (velocities_line_lem which gs) ≤ 40000
unfolding velocities_line_lem
velocities-fit which gs = go (eqb which VELOCITY) (eqb which VELOCITY-LONG) (eqb which VELOCITY-BACK)
  where
    go : (a b c : Bool) → length (when a then velocity_line (octets_at gs 0) (octets_at gs 1)
        else when b then velocity_long_line (octets_at gs 0) (octets_at gs 1) (octets_at gs 2) (octets_at gs 3)
        else when c then back_line (code_at gs 0) (code_at gs 1)
        else back_long_line (code_at gs 0) (code_at gs 1) (octet_at_lem gs 2) (octets_at gs 3)) ≤ 40000
    go true b c = omega (arith, velocity-fits (octets_at gs 0) (octets_at gs 1))
    go false true c = omega (arith, velocity-long-fits (octets_at gs 0) (octets_at gs 1) (octets_at gs 2) (octets_at gs 3))
    go false false true = omega (arith, known-fits (known_of (Horizontal (code_at gs 0) (code_at gs 1))))
    go false false false = omega (arith, back-long-fits (code_at gs 0) (code_at gs 1) (octet_at_lem gs 2) (octets_at gs 3))

-- a question's line
count_fits : (x : Answer Count) → length (busy_line x) ≤ 100
unfolding busy_line
count_fits (accepted c) = omega (arith, length-append (counted "count " c.count) (counted " looked " c.looked), counted-length "count " c.count, counted-length " looked " c.looked)
count_fits (refused n at) = omega (arith, counted-length "refused " n)

-- a rebuild's line
rebuild-fits : (x : Answer ℕ) → length (rebuild_line x) ≤ 100
unfolding rebuild_line
rebuild-fits (accepted n) = omega arith
rebuild-fits (refused n at) = omega (arith, counted-length "refused " n)

-- those about how many are busy
busy-fits : (states totals : List ℕ) → length totals ≤ 4096 → (which : ℕ) (gs : List FieldSays) → length (busy_done states totals which gs).line ≤ 40000
unfolding busy_done
busy-fits states totals h which gs = go (eqb which BUSY) (eqb which TOTALS) (eqb which TOTAL)
  where
    go : (a b c : Bool)
        → length (when a then busy_after totals (busy_line (busy_between_lem states totals (number_at gs 0) (number_at gs 1)))
        else when b then busy_after totals (shown "totals " totals)
        else when c then busy_after (set totals (number_at gs 0) (octet_at_lem gs 1)) (said "ok")
        else rebuilt states totals).line ≤ 40000
    go true b c = omega (arith, count_fits (busy_between_lem states totals (number_at gs 0) (number_at gs 1)))
    go false true c = omega (arith, shown-length "totals " totals 4096 h)
    go false false true = omega arith
    go false false false = omega (arith, rebuild-fits (rebuild_of states totals).answer)

module _ (T : DeskTables) (k : length T.tables.states ≤ 4096) (w : length T.totals ≤ 4096) where
  -- those of the tables
  table_fits : (which : ℕ) (gs : List FieldSays) → length (table_turn_lem T which gs).line ≤ 40000
  unfolding table_turn_lem
  table_fits which gs = go (eqb which OWN) (eqb which HELPER) (eqb which SET)
    where
      go : (a h b : Bool) → length (when a then turn (desk_tables T.tables.states (spread T.tables.owners (number_at gs 0) (number_at gs 1) (octet_at_lem gs 2)) T.tables.helpers T.totals) (said "ok")
          else when h then turn (desk_tables T.tables.states T.tables.owners (spread T.tables.helpers (number_at gs 0) (number_at gs 1) (octet_at_lem gs 2)) T.totals) (said "ok")
          else when b then turn (set_turn T (number_at gs 0) (number_at gs 1) (octet_at_lem gs 2)) (said "ok")
          else turn T (rows_line T.tables.states (number_at gs 0) (number_at gs 1))).line ≤ 40000
      go true h b = omega arith
      go false true b = omega arith
      go false false true = omega arith
      go false false false = omega (arith, rows_fit 4096 T.tables.states k (number_at gs 0) (number_at gs 1))

  -- the hub's
  act-fits : (gs : List FieldSays) → length (act_turn_lem T gs).line ≤ 40000
  unfolding act_turn_lem
  act-fits gs =
      let a = acts_of T gs in
      omega (arith, reply-fits 1024 a.buffer (omega (arith, lent_length (number_at gs 2), board-buffer-length T.tables T.totals (number_at gs 0) (octets_at gs 1) (lent (number_at gs 2)))) a.answer)

  -- those that block from our side
  block-fits : (which : ℕ) (gs : List FieldSays) → length (block_turn_lem T which gs).line ≤ 40000
  unfolding block_done
  block-fits which gs =
      let a = block_done T.tables.states T.totals which gs in
      omega (arith, notice-fits 1024 a.buffer (omega (arith, lent_length (number_at gs 1), desk-board-buffer-length T.tables.states T.totals (number_at gs 0) (eqb which BLOCK) (lent (number_at gs 1)))) a.answer)

  -- the further ones
  further-turn-fits : (which : ℕ) (gs : List FieldSays) → ShortAll gs → length (further_turn_lem T which gs).line ≤ 40000
  unfolding further_done
  further-turn-fits which gs h = go (ltb which BUSY) (leb which REBUILD)
    where
      go : (a b : Bool) → length (when a then busy_after T.totals (further_line_lem which gs) else when b then busy_done T.tables.states T.totals which gs else busy_after T.totals (said "bad line")).line ≤ 40000
      go true b = further-fits which gs h
      go false true = busy-fits T.tables.states T.totals w which gs
      go false false = omega arith

  -- a row before those of a maintenance night
  held_fits : (which : ℕ) (gs : List FieldSays) → ShortAll gs → length (turn_by T which gs).line ≤ 40000
  unfolding turn_by
  held_fits which gs h = go (ltb which NUMBER) (ltb which OWN) (ltb which ACT) (eqb which ACT) (leb which UNBLOCK) (leb which VELOCITY-BACK-LONG) (leb which BICC-COMPACT)
    where
      go : (a b c d u e f : Bool) → length (when a then turn T (codec_line_lem which gs)
          else when b then turn T (numbers_line_lem which gs)
          else when c then table_turn_lem T which gs
          else when d then act_turn_lem T gs
          else when u then block_turn_lem T which gs
          else when e then turn T (velocities_line_lem which gs)
          else when f then turn T (bicc_line_lem which gs)
          else further_turn_lem T which gs).line ≤ 40000
      go true b c d u e f = codec-fits which gs h
      go false true c d u e f = numbers_fit which gs h
      go false false true d u e f = table_fits which gs
      go false false false true u e f = act-fits gs
      go false false false false true e f = block-fits which gs
      go false false false false false true f = velocities-fit which gs
      go false false false false false false true = bicc-fits which gs h
      go false false false false false false false = further-turn-fits which gs h

-- no more are ticked than there are
ticks-few : (tick : ℕ → Bool) (c n : ℕ) → tick_count tick c n ≤ n
unfolding tick_count
ticks-few tick c zero = omega arith
ticks-few tick c (suc n) = omega (arith, bit-small (tick c), ticks-few tick (suc c) n)

-- a plan's line, of nine octets for each circuit at the most
plan-line-fits : (T : Tables) (ticks : List ℕ) (sender kind room : ℕ) → length (plan_line T ticks sender kind room) ≤ 80000
unfolding written_line
plan-line-fits T ticks sender kind room = go (planned_of T ticks sender kind (plan_lent room)).answer refl
  where
    rest : List ℕ
    rest = (planned_of T ticks sender kind (plan_lent room)).left

    go : (x : Answer ℕ) → (planned_of T ticks sender kind (plan_lent room)).answer ≡ x → length (written_line x rest) ≤ 80000
    go (accepted n) e =
        let s = plan-nine T ticks sender kind (plan_lent room) n rest (ap (λ (x : Answer ℕ). leaving x rest) (sym e)) in
        omega (arith, shown-length "octets " (take n rest) 36864 (omega (arith, length-take n rest, s, ticks-few (ticked ticks) 0 4096)))
    go (refused n at) e = omega (arith, counted-length "refused " n)

checked-fits : (b : Bool) → length (checked_line b) ≤ 3
unfolding checked_line
checked-fits true = omega arith
checked-fits false = omega arith

-- those of a maintenance night
night-fits : (T : Tables) (ticks : List ℕ) (which : ℕ) (gs : List FieldSays) → length (night_done T ticks which gs).line ≤ 80000
unfolding night_done
night-fits T ticks which gs = go (eqb which TICK) (eqb which PLAN)
  where
    go : (a b : Bool)
        → length (when a then night_after (spread ticks (number_at gs 0) (number_at gs 1) (octet_at_lem gs 2)) (said "ok")
        else when b then night_after ticks (plan_line T ticks (number_at gs 0) (number_at gs 1) (number_at gs 2))
        else night_after ticks (checked_line (check_at T ticks (number_at gs 0) (number_at gs 1) (octets_at gs 2)))).line ≤ 80000
    go true b = omega arith
    go false true = plan-line-fits T ticks (number_at gs 0) (number_at gs 1) (number_at gs 2)
    go false false = omega (arith, checked-fits (check_at T ticks (number_at gs 0) (number_at gs 1) (octets_at gs 2)))

-- a row of the table: what its fields hold is short, unless it is one of a maintenance night
pub row_fits : (D : Desk) → length D.held.tables.states ≤ 4096 → length D.held.totals ≤ 4096 → (which : ℕ) (gs : List FieldSays) → (which < TICK → ShortAll gs) → length (row_turn_lem D which gs).line ≤ 80000
unfolding row_turn_lem
row_fits D k w which gs h = go (ltb which TICK) (leb which CHECK) refl
  where
    go : (s t : Bool) → ltb which TICK ≡ s → length (when s then held_turn D.ticks (turn_by D.held which gs) else when t then night_turn D which gs else bad_turn D).line ≤ 80000
    go true t e = omega (arith, held_fits D.held k w which gs (h (ltb-true which TICK e)))
    go false true e = night-fits D.held.tables D.ticks which gs
    go false false e = omega arith
