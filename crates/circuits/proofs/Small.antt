-- Everything that goes into an answer is small enough for it.
use Rattle.hub.specs.declared.Handled.{Handled}
use Prim.Native.Nat.{ℕ, ◌≤◌}
use mathlib.Core.Path.{◌≡◌}
use mathlib.Core.Bool.{Bool, true, false}
use mathlib.Core.List.{List}
use native.Mathlib.Omega.{arith}
use lib.Dec.{eqb}
use lib.ListN.{length}
use Rattle.octets.specs.Octet.{AllOctets, octet}
use Rattle.octets.specs.Choice.{when◌then◌else◌}
use Rattle.octets.specs.Answer.{Answer, accepted, refused}
use Rattle.octets.proofs.Answer.{refused-same}
use Rattle.octets.proofs.Places.{first_so}
use Rattle.telling.specs.Telling.{In16Bits}
use Rattle.asks.specs.Asks.{ask_of}
use Rattle.asks.proofs.Reading.{ask-sound}
use Rattle.replies.proofs.Writing.{reply-length}
use Rattle.rights.specs.Tables.{Tables}
use Rattle.hub.specs.Acts.{After, act_of}
use Rattle.hub.specs.Desk.{desk_of, desk_faults}
use Rattle.hub.specs.Deeds.{with_circuits}
use Rattle.hub.specs.Faults.{act_faults}
use Rattle.hub.proofs.Writing.{length-reply}
use Rattle.hub.proofs.Called.{call-accepted}
use Rattle.hub.proofs.Judged.{act-refuses-exactly}
use Rattle.hub.proofs.Places.{act-places-within}
use Rattle.hub.proofs.Desk.{desk-called, desk-placeless, desk-refuses-exactly}
use Rattle.board.specs.Board.{board_after, totals_after, keeping, board_of, alone, desk_board_of}
use Rattle.board.proofs.Kept.{kept-accepted}
use Rattle.boundary.proofs.Numbers.{AtLeastOne}
use Rattle.boundary.proofs.Places.{Plain}
use Rattle.circuits.proofs.Numbers.{act-from-one, desk-from-one}

-- 16 is so; with the totals kept a call has no other refusal that is new
kept-plain : (states totals buffer : List ℕ) (named : Answer ℕ → Answer Handled) (r : After) (n at : ℕ) → (r.answer ≡ refused n at → Plain n at) → (keeping states totals buffer named r).answer ≡ refused n at → Plain n at
kept-plain states totals buffer named r n at h e = go (eqb (length totals) 64) e
  where
    go : (t : Bool) → (when t then board_after r.answer r.states (totals_after r.states (named r.answer) totals) r.buffer else board_after (refused 16 0) states totals buffer).answer ≡ refused n at → Plain n at
    go true q = h q
    go false q = let s = refused-same q in (omega (arith, s.0), omega (arith, s.1))

-- ---- a message
module _ (T : Tables) (sender : ℕ) (m buffer : List ℕ) where
  -- the hub's answer has 40 octets at the most
  hub-small : (n : ℕ) → AllOctets m → (act_of T sender m buffer).answer ≡ accepted n → n ≤ 40
  hub-small n o e =
      let k = call-accepted T sender m buffer n e in
      let s = ask-sound m k.ask o k.allowed.asks in
      omega (arith, k.count, length-reply T.states m k.ask, reply-length k.ask.act k.ask.range (octet T.states k.ask.circuit) s.few s.fewer)

  -- and so has the board's
  pub act-small : (totals : List ℕ) (n : ℕ) → AllOctets m → (board_of T totals sender m buffer).answer ≡ accepted n → n ≤ 40
  unfolding board_of
  act-small totals n o e = hub-small n o (kept-accepted T.states totals buffer (with_circuits (ask_of m)) (act_of T sender m buffer) n e).1

  -- a refusal is plain
  pub act-plain : (totals : List ℕ) (n at : ℕ) → (board_of T totals sender m buffer).answer ≡ refused n at → Plain n at
  unfolding board_of
  act-plain totals n at =
      kept-plain T.states totals buffer (with_circuits (ask_of m)) (act_of T sender m buffer) n at
      (λ q. (first_so AtLeastOne (act_faults T sender m (length buffer)) n at (act-from-one T sender m (length buffer)) ((act-refuses-exactly T sender m buffer n at).0 q), omega (arith, act-places-within T sender m buffer n at q)))

  pub act-fits : (totals : List ℕ) → AllOctets m → In16Bits (board_of T totals sender m buffer).answer
  act-fits totals o = (λ n q. omega (arith, act-small totals n o q), λ n at q. (act-plain totals n at q).1)

-- ---- a desk call
module _ (states totals : List ℕ) (circuit : ℕ) (set : Bool) (buffer : List ℕ) where
  -- its answer has three octets
  pub desk-small : (n : ℕ) → (desk_board_of states totals circuit set buffer).answer ≡ accepted n → n ≤ 3
  unfolding desk_board_of
  desk-small n e = omega (arith, (desk-called states circuit set buffer n (kept-accepted states totals buffer (alone circuit) (desk_of states circuit set buffer) n e).1).count)

  -- a refusal is plain
  pub desk-plain : (n at : ℕ) → (desk_board_of states totals circuit set buffer).answer ≡ refused n at → Plain n at
  unfolding desk_board_of
  desk-plain n at =
      kept-plain states totals buffer (alone circuit) (desk_of states circuit set buffer) n at
      (λ q. (first_so AtLeastOne (desk_faults states circuit (length buffer)) n at (desk-from-one states circuit (length buffer)) ((desk-refuses-exactly states circuit set buffer n at).0 q), omega (arith, desk-placeless states circuit set buffer n at q)))

  pub desk-fits : In16Bits (desk_board_of states totals circuit set buffer).answer
  desk-fits = (λ n q. omega (arith, desk-small n q), λ n at q. (desk-plain n at q).1)
