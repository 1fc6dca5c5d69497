-- A stretch of octets, as many of them as there are.
use Prim.Native.Nat.{ℕ, ◌+◌, ◌-◌, ◌≤◌, ◌<◌}
use mathlib.Core.Path.{◌≡◌, refl, sym, ◌∙◌}
use mathlib.Core.List.{List, []}
use native.Mathlib.Omega.{arith}
use lib.ListN.{length, take, drop, drop_of_length-le, length-drop}
use lib.Seq.{take_all, take-nil}
use Rattle.octets.specs.Octet.{octets}

module _ (all : List ℕ) (from count : ℕ) where
  -- from past the end on there are none
  pub stretch-none : length all < from → [] ≡ octets all from count
  stretch-none h = let le : length all ≤ from = omega arith in sym (rw (drop_of_length-le all le) (take-nil count))

  -- fewer than were asked for
  pub stretch-short : length all - from < count → take (length all - from) (drop from all) ≡ octets all from count
  stretch-short h =
      take_all (length all - from) (drop from all) (simp length-drop (omega arith))
      ∙ sym (take_all count (drop from all) (simp length-drop (omega arith)))

  -- as many as were asked for
  pub stretch-whole : take (from + count - from) (drop from all) ≡ octets all from count
  stretch-whole = let e : from + count - from ≡ count = omega arith in rw e refl
