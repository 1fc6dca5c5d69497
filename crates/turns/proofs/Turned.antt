-- What a turn leaves, family by family.
use Prim.Native.Nat.{ℕ, ◌≤◌, ◌<◌}
use mathlib.Core.Path.{◌≡◌, refl}
use mathlib.Core.List.{List}
use native.Mathlib.Omega.{arith}
use borrow.Author.Tests.{lt-ltb, le-ltb, le-leb, lt-leb, ne_eqb}
use Rattle.fields.specs.declared.Field.{Field}
use Rattle.fields.specs.Kinds.{FieldSays}
use Rattle.requests.specs.Along.{said_in}
use Rattle.requests.proofs.Said.{number-at}
use Rattle.codec_lines.specs.Codec.{codec_line_lem}
use Rattle.bicc_lines.specs.Bicc.{bicc_line_lem}
use Rattle.number_lines.specs.Numbers.{numbers_line_lem}
use Rattle.velocity_lines.specs.Velocities.{velocities_line_lem}
use Rattle.block_lines.specs.Blocks.{block_done}
use Rattle.table_lines.specs.Tables.{DeskTables, turn, table_turn_lem}
use Rattle.act_lines.specs.Acts.{act_turn_lem}
use Rattle.turns.specs.Turns.{Desk, bad_turn, block_turn_lem, further_turn_lem, turn_by, held_turn, night_turn, row_turn_lem}

module _ (T : DeskTables) (which : ℕ) (gs : List FieldSays) where
  -- a row of each family
  pub turn-codec : which < 5 → turn T (codec_line_lem which gs) ≡ turn_by T which gs
  unfolding turn_by
  turn-codec h = rw (lt-ltb _ _ h) refl

  pub turn-numbers : 5 ≤ which → which < 7 → turn T (numbers_line_lem which gs) ≡ turn_by T which gs
  unfolding turn_by
  turn-numbers l h = rw (le-ltb _ _ l, lt-ltb _ _ h) refl

  pub turn-tables : 7 ≤ which → which < 11 → table_turn_lem T which gs ≡ turn_by T which gs
  unfolding turn_by
  turn-tables l h = let m : 5 ≤ which = omega arith in rw (le-ltb _ _ m, le-ltb _ _ l, lt-ltb _ _ h) refl

  pub turn-hub : which ≡ 11 → act_turn_lem T gs ≡ turn_by T which gs
  unfolding turn_by
  turn-hub e = rw e refl

  pub turn-blocks : 11 ≤ which → (which ≡ 11 → ⊥) → which ≤ 13 → block_turn_lem T which gs ≡ turn_by T which gs
  unfolding turn_by
  turn-blocks l n h =
      let m : 5 ≤ which = omega arith in
      let k : 7 ≤ which = omega arith in
      rw (le-ltb _ _ m, le-ltb _ _ k, le-ltb _ _ l, ne_eqb _ _ n, le-leb _ _ h) refl

  pub turn-velocities : (which ≡ 11 → ⊥) → 13 < which → which ≤ 17 → turn T (velocities_line_lem which gs) ≡ turn_by T which gs
  unfolding turn_by
  turn-velocities n b h =
      let m : 5 ≤ which = omega arith in
      let k : 7 ≤ which = omega arith in
      let l : 11 ≤ which = omega arith in
      rw (le-ltb _ _ m, le-ltb _ _ k, le-ltb _ _ l, ne_eqb _ _ n, lt-leb _ _ b, le-leb _ _ h) refl

  pub turn-bicc : (which ≡ 11 → ⊥) → 17 < which → which ≤ 21 → turn T (bicc_line_lem which gs) ≡ turn_by T which gs
  unfolding turn_by
  turn-bicc n v h =
      let m : 5 ≤ which = omega arith in
      let k : 7 ≤ which = omega arith in
      let l : 11 ≤ which = omega arith in
      let b : 13 < which = omega arith in
      rw (le-ltb _ _ m, le-ltb _ _ k, le-ltb _ _ l, ne_eqb _ _ n, lt-leb _ _ b, lt-leb _ _ v, le-leb _ _ h) refl

  pub turn-further : (which ≡ 11 → ⊥) → 21 < which → further_turn_lem T which gs ≡ turn_by T which gs
  unfolding turn_by
  turn-further n h =
      let m : 5 ≤ which = omega arith in
      let k : 7 ≤ which = omega arith in
      let l : 11 ≤ which = omega arith in
      let b : 13 < which = omega arith in
      let v : 17 < which = omega arith in
      rw (le-ltb _ _ m, le-ltb _ _ k, le-ltb _ _ l, ne_eqb _ _ n, lt-leb _ _ b, lt-leb _ _ v, lt-leb _ _ h) refl

-- the requests of the tables have no octets
pub table-any : (T : DeskTables) (which : ℕ) (s t : List ℕ) (fs : List Field) → table_turn_lem T which (said_in s fs) ≡ table_turn_lem T which (said_in t fs)
unfolding table_turn_lem
table-any T which s t fs = rw (number-at s fs 0, number-at s fs 1, number-at s fs 2, number-at t fs 0, number-at t fs 1, number-at t fs 2) refl

-- nor have those that block from our side
pub block-any : (T : DeskTables) (which : ℕ) (s t : List ℕ) (fs : List Field) → block_turn_lem T which (said_in s fs) ≡ block_turn_lem T which (said_in t fs)
unfolding block_done
block-any T which s t fs = rw (number-at s fs 0, number-at s fs 1, number-at t fs 0, number-at t fs 1) refl

module _ (D : Desk) (which : ℕ) (gs : List FieldSays) where
  -- a row before those of a maintenance night, one of them, and none
  pub row-held : which < 33 → held_turn D.ticks (turn_by D.held which gs) ≡ row_turn_lem D which gs
  unfolding row_turn_lem
  row-held h = rw (lt-ltb _ _ h) refl

  pub row-night : 33 ≤ which → which ≤ 35 → night_turn D which gs ≡ row_turn_lem D which gs
  unfolding row_turn_lem
  row-night l h = rw (le-ltb _ _ l, le-leb _ _ h) refl

  pub row-bad : 33 ≤ which → 35 < which → bad_turn D ≡ row_turn_lem D which gs
  unfolding row_turn_lem
  row-bad l h = rw (le-ltb _ _ l, lt-leb _ _ h) refl
