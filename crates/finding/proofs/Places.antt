-- The octet that a refused search is about: the reader's, handed on; the
-- search's own numbers are about none.
use Prim.Native.Nat.{ℕ, ◌≤◌, ◌<◌}
use mathlib.Core.Path.{◌≡◌, refl}
use mathlib.Core.List.{List}
use mathlib.Core.Logic.{◌⊎◌}
use native.Mathlib.Omega.{arith}
use lib.Dec.{ltb}
use Rattle.std.specs.Prelude.{Option, Some, None}
use Rattle.octets.specs.Answer.{refused}
use Rattle.octets.proofs.Places.{UpTo, up-to-accepted, up-to-refused, up-to-if, handed-on}
use Rattle.parts.specs.declared.Span.{Span}
use Rattle.runs.specs.Run.{is_run_lem, named_from}
use Rattle.isup.specs.Read.{read_of}
use Rattle.isup.proofs.Places.{handed-within, others-placeless}
use Rattle.finding.specs.Find.{named_in, in_defaults, in_message, sought_in, locate_of}

sought-placeless : (m : List ℕ) (run : Span) (d : List ℕ) (name : ℕ) → UpTo 0 (sought_in m run d name)
unfolding sought_in
sought-placeless m run d name =
    up-to-if _ (is_run_lem d)
    (λ _. up-to-if _ (ltb 255 name) (λ _. up-to-refused _ 15 0 (omega arith)) (λ _. first (named_in m run name) (named_from d 0 name)))
    (λ _. up-to-refused _ 11 0 (omega arith))
  where
    first : (u v : Option (ℕ × ℕ)) → UpTo 0 (in_message u (in_defaults v))
    first (Some (a, n)) v = up-to-accepted _ _
    first None (Some (a, n)) = up-to-accepted _ _
    first None None = up-to-refused _ 15 0 (omega arith)

module _ (m d : List ℕ) (name n at : ℕ) where
  -- the reader's refusal is the search's, octet and all
  pub find-refused-too : read_of m ≡ refused n at → locate_of m d name ≡ refused n at
  unfolding locate_of
  find-refused-too e = rw e refl

  module _ (e : locate_of m d name ≡ refused n at) where
    -- and any other is about no octet
    pub find-hands-on : (read_of m ≡ refused n at) ⊎ (at ≡ 0)
    unfolding locate_of
    find-hands-on = handed-on (read_of m) (λ x. sought_in m x.parts.optional d name) (λ x. sought-placeless m x.parts.optional d name) n at e

    pub find-places-within : at ≤ 268
    find-places-within = handed-within m n at find-hands-on

    pub find-others : (n < 3) ⊎ (8 < n) → at ≡ 0
    find-others = others-placeless m n at find-hands-on
