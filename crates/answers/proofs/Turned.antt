-- What a line asks, and what its turn leaves.
use Prim.Native.Nat.{ℕ, ◌≤◌, ◌<◌}
use mathlib.Core.Path.{◌≡◌, refl, ◌∙◌, ap}
use mathlib.Core.Bool.{Bool, true, false}
use mathlib.Core.List.{List}
use borrow.Author.Tests.{lt-ltb, le-ltb, eqb-true}
use lib.Dec.{eqb}
use lib.ListN.{length}
use Rattle.octets.specs.Choice.{when◌then◌else◌}
use Rattle.requests.specs.declared.Request.{Request}
use Rattle.requests.specs.Words.{asks, nothing, asked_of}
use Rattle.requests.specs.Along.{taken, request_of_lem, said_in, says_of}
use Rattle.requests.proofs.Agree.{request-says}
use Rattle.lines.specs.Lines.{refusal}
use Rattle.turns.specs.Turns.{Desk, desk_turn, bad_turn, row_turn_lem}
use Rattle.answers.specs.Answers.{desk_sized, turn_for, turn_of, turn_in}

-- by the row alone
says-turn : (D : Desk) (r : Request) (s : List ℕ) → row_turn_lem D r.which (said_in s r.fields) ≡ turn_for D (says_of (taken r s))
unfolding row_turn_lem
says-turn D r s = go (eqb r.which 255) refl
  where
    none : r.which ≡ 255 → row_turn_lem D r.which (said_in s r.fields) ≡ bad_turn D
    none e = rw e refl

    go : (t : Bool) → eqb r.which 255 ≡ t → row_turn_lem D r.which (said_in s r.fields) ≡ turn_for D (when t then nothing else asks r.which (said_in s r.fields))
    go true e = none (eqb-true r.which 255 e)
    go false e = refl

module _ (line scratch rest : List ℕ) (r : Request) (e : taken r rest ≡ request_of_lem line scratch) (h : 41032 ≤ length scratch) where
  -- the request that was read asks what the line asks
  asked-same : says_of (taken r rest) ≡ asked_of line
  asked-same = ap says_of e ∙ request-says line scratch h

  -- so its turn is the line's
  pub turn-asked : (D : Desk) → desk_sized D ≡ true → row_turn_lem D r.which (said_in rest r.fields) ≡ turn_in (length scratch) line D
  unfolding turn_of
  turn-asked D s = rw (le-ltb _ _ h, s) (says-turn D r rest ∙ ap (turn_for D) asked-same)

-- where the scratch is too short, or something of the desk has another length
module _ (line : List ℕ) (n : ℕ) (D : Desk) where
  pub turn-scratch : n < 41032 → bad_turn D ≡ turn_in n line D
  turn-scratch h = rw (lt-ltb _ _ h) refl

  pub turn-unsized : 41032 ≤ n → desk_sized D ≡ false → desk_turn D (refusal 16) ≡ turn_in n line D
  unfolding turn_of
  turn-unsized h s = rw (le-ltb _ _ h, s) refl
