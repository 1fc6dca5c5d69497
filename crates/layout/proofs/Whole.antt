-- The container from its pieces, over plain variables: a caller hands over what its calls ensure.
use Prim.Native.Nat.{ℕ, ◌+◌, ◌≤◌, ◌<◌}
use mathlib.Core.Path.{◌≡◌}
use mathlib.Core.List.{List}
use borrow.Author.Tests.{lt-ltb, le-ltb}
use lib.ListN.{length}
use Rattle.octets.specs.Answer.{Answer, accepted, refused}
use Rattle.parts.specs.declared.Span.{Span}
use Rattle.layout.specs.declared.Shape.{Shape}
use Rattle.parts.specs.Spans.{span}
use Rattle.layout.specs.Container.{start_of, end_of, variable_slot_lem, optional_slot_lem, container_of}
use Rattle.parts.specs.Overlap.{judged}

module _ (m : List ℕ) (w : ℕ) (s : Shape) (e : ℕ) (q : e ≡ end_of w s) where
  pub container-cut : length m < e → refused 4 (length m) ≡ container_of m w s
  unfolding container_of
  container-cut h = simp (lt-ltb _ _ (rw q at h))

  abbrev pub slot : ℕ → Answer Span
  slot k = variable_slot_lem m (start_of w s) k s.vars e

  module _ (h : e ≤ length m) where
    pub bad-first : (n at : ℕ) → slot 0 ≡ refused n at → refused n at ≡ container_of m w s
    unfolding container_of
    bad-first n at p = simp (le-ltb _ _ (rw q at h), rw q at p)

    pub bad-second : (a : Span) (n at : ℕ) → slot 0 ≡ accepted a → slot 1 ≡ refused n at → refused n at ≡ container_of m w s
    unfolding container_of
    bad-second a n at p₁ p₂ = simp (le-ltb _ _ (rw q at h), rw q at p₁, rw q at p₂)

    pub bad-third : (a b : Span) (n at : ℕ) → slot 0 ≡ accepted a → slot 1 ≡ accepted b → slot 2 ≡ refused n at → refused n at ≡ container_of m w s
    unfolding container_of
    bad-third a b n at p₁ p₂ p₃ = simp (le-ltb _ _ (rw q at h), rw q at p₁, rw q at p₂, rw q at p₃)

    pub bad-optional : (a b c : Span) (n at : ℕ) → slot 0 ≡ accepted a → slot 1 ≡ accepted b → slot 2 ≡ accepted c → optional_slot_lem m s.opt e ≡ refused n at → refused n at ≡ container_of m w s
    unfolding container_of
    bad-optional a b c n at p₁ p₂ p₃ p₄ = simp (le-ltb _ _ (rw q at h), rw q at p₁, rw q at p₂, rw q at p₃, rw q at p₄)

    pub container-whole : (a b c d : Span) → slot 0 ≡ accepted a → slot 1 ≡ accepted b → slot 2 ≡ accepted c → optional_slot_lem m s.opt e ≡ accepted d
        → judged (span (w + 1) (start_of w s)) a b c d ≡ container_of m w s
    unfolding container_of
    container-whole a b c d p₁ p₂ p₃ p₄ = simp (le-ltb _ _ (rw q at h), rw q at p₁, rw q at p₂, rw q at p₃, rw q at p₄)
