-- The octet that a refused call is about: the reader's, handed on; the hub's
-- own numbers are about none.
use Prim.Native.Nat.{ℕ, ◌+◌, ◌≤◌, ◌<◌}
use mathlib.Core.Path.{◌≡◌}
use mathlib.Core.List.{List}
use mathlib.Core.Bool.{Bool, true, false}
use mathlib.Core.Logic.{◌⊎◌, inr, ⊎_elim}
use native.Mathlib.Omega.{arith}
use lib.Dec.{ltb}
use lib.ListN.{length}
use Rattle.std.specs.Prelude.{is_some}
use Rattle.octets.specs.Choice.{when◌then◌else◌}
use Rattle.octets.specs.Answer.{refused, ◌then◌}
use Rattle.octets.proofs.Places.{UpTo, up-to-accepted, up-to-refused, up-to-if, up-to-then, handed-on}
use Rattle.isup.specs.Read.{read_of}
use Rattle.isup.proofs.Places.{handed-within, others-placeless}
use Rattle.asks.specs.declared.Ask.{Ask}
use Rattle.asks.specs.Asks.{ask_of}
use Rattle.asks.proofs.Places.{ask-hands-on}
use Rattle.rights.specs.Tables.{Tables, sized}
use Rattle.rights.specs.Rights.{first_foreign_lem, first_illegal_lem}
use Rattle.hub.specs.Replies.{reply_of}
use Rattle.rights.specs.Permits.{is_taken, is_unhelpable, permitted_of}
use Rattle.hub.specs.Acts.{roomed, allowed_of, grant_of, after, act_of}
use Rattle.hub.proofs.Given.{grant-sized}
use Rattle.hub.proofs.Judged.{answered}

allowed-placeless : (T : Tables) (sender : ℕ) (m : List ℕ) (room : ℕ) (a : Ask) → UpTo 0 (allowed_of T sender m room a)
unfolding allowed_of permitted_of
allowed-placeless T sender m room a =
    up-to-then _ (permitted_of T sender a) (roomed T m room)
    (up-to-if _ (is_some (first_foreign_lem T.owners T.helpers sender a.circuit (a.range + 1))) (λ _. up-to-refused _ 19 0 (omega arith))
    (λ _. up-to-if _ (is_unhelpable T sender a) (λ _. up-to-refused _ 22 0 (omega arith))
    (λ _. up-to-if _ (is_some (first_illegal_lem T.states a.circuit (a.range + 1))) (λ _. up-to-refused _ 20 0 (omega arith))
    (λ _. up-to-if _ (is_taken T.states a.act a.circuit) (λ _. up-to-refused _ 21 0 (omega arith)) (λ _. up-to-accepted _ _)))))
    (λ b e. up-to-if _ (ltb room (length (reply_of T.states m b))) (λ _. up-to-refused _ 13 0 (omega arith)) (λ _. up-to-accepted _ _))

module _ (T : Tables) (sender : ℕ) (m buffer : List ℕ) (n at : ℕ) where
  -- where the tables are of the right length the reader's refusal is the call's, octet and all
  pub act-refused-too : length T.states ≡ 4096 → length T.owners ≡ 4096 → length T.helpers ≡ 4096 → read_of m ≡ refused n at → act_of T sender m buffer ≡ after (refused n at) T.states buffer
  unfolding act_of ask_of
  act-refused-too p q h e = rw (grant-sized T sender m (length buffer) p q h, e)

  module _ (e : (act_of T sender m buffer).answer ≡ refused n at) where
    -- and any other is about no octet
    pub act-hands-on : (read_of m ≡ refused n at) ⊎ (at ≡ 0)
    unfolding act_of grant_of
    act-hands-on = go (sized T) ((answered T sender m buffer (grant_of T sender m (length buffer)) n at).0 e)
      where
        go : (t : Bool) → (when t then (ask_of m then allowed_of T sender m (length buffer)) else refused 16 0) ≡ refused n at → (read_of m ≡ refused n at) ⊎ (at ≡ 0)
        go true h = ⊎_elim (ask-hands-on m n at) (λ z. inr z) (handed-on (ask_of m) (allowed_of T sender m (length buffer)) (allowed-placeless T sender m (length buffer)) n at h)
        go false h = inr (let z = up-to-refused {A = Ask} 0 16 0 (omega arith) n at h in omega (arith, z))

    pub act-places-within : at ≤ 268
    act-places-within = handed-within m n at act-hands-on

    pub act-others : (n < 3) ⊎ (8 < n) → at ≡ 0
    act-others = others-placeless m n at act-hands-on
