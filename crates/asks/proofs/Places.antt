-- The octet that a refusal to ask is about: the reader's, handed on; 17, 14 and 18 are about none.
use Prim.Native.Nat.{ℕ, ◌+◌}
use mathlib.Core.Path.{◌≡◌}
use mathlib.Core.List.{List, [], ◌∷◌}
use mathlib.Core.Logic.{◌⊎◌}
use native.Mathlib.Omega.{arith}
use lib.Dec.{ltb, eqb}
use Rattle.octets.specs.Answer.{refused}
use Rattle.octets.proofs.Places.{UpTo, up-to-accepted, up-to-refused, up-to-if, up-to-then, handed-on}
use Rattle.isup.specs.declared.Message.{Message}
use Rattle.isup.specs.Read.{read_of}
use Rattle.rows.specs.declared.Act.{Act}
use Rattle.asks.specs.Types.{type_of, acts, act_among, act_for}
use Rattle.asks.specs.Asks.{broken, ask_in_lem, asked_for, asked_in, ask_of}

among-placeless : (kind : ℕ) (l : List Act) → UpTo 0 (act_among kind l)
among-placeless kind [] = up-to-refused _ 17 0 (omega arith)
among-placeless kind (a ∷ l) = up-to-if _ (eqb kind (type_of a)) (λ _. up-to-accepted _ _) (λ _. among-placeless kind l)

asked-placeless : (m : List ℕ) (x : Message) → UpTo 0 (asked_in m x)
unfolding asked_in act_for
asked-placeless m x =
    up-to-then _ (act_for x.kind) (asked_for m x) (among-placeless x.kind acts)
    (λ act e. up-to-if _ (broken act m x) (λ _. up-to-refused _ 14 0 (omega arith))
    (λ _. up-to-if _ (ltb 4095 ((ask_in_lem act m x).circuit + (ask_in_lem act m x).range)) (λ _. up-to-refused _ 18 0 (omega arith)) (λ _. up-to-accepted _ _)))

-- a refusal is the reader's, octet and all, or about no octet
pub ask-hands-on : (m : List ℕ) (n at : ℕ) → ask_of m ≡ refused n at → (read_of m ≡ refused n at) ⊎ (at ≡ 0)
unfolding ask_of
ask-hands-on m n at e = handed-on (read_of m) (asked_in m) (asked-placeless m) n at e
