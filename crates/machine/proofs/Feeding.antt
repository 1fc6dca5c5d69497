-- Feeding in any chunks is feeding the whole; what is awaited is collected,
-- and completed with its last octet.
use Prim.Native.Nat.{ℕ, ◌+◌, ◌<◌}
use mathlib.Core.Path.{◌≡◌, refl, ◌∙◌, ap}
use mathlib.Core.List.{List, [], ◌∷◌, ◌++◌, append_assoc}
use native.Mathlib.Omega.{arith}
use borrow.Author.Tests.{lt-ltb, le-ltb, eq-eqb, ne_eqb}
use lib.ListN.{length, length-append}
use Rattle.book.specs.declared.Await.{Await}
use Rattle.book.specs.declared.Await.TheVariants.{Bad}
use Rattle.book.specs.Awaits.{want_of}
use Rattle.day.specs.Day.{Day, Machine, machine}
use Rattle.machine.specs.Machine.{completed, step_of, feed_of}

-- chunks of any sizes are the whole
pub any-chunks : (m : Machine) (xs ys : List ℕ) → feed_of m (xs ++ ys) ≡ feed_of (feed_of m xs) ys
unfolding feed_of
any-chunks m [] ys = refl
any-chunks m (x ∷ xs) ys = any-chunks (step_of m x) xs ys

-- ---- one octet
module _ (a : Await) (got : List ℕ) (t : Day) (x : ℕ) where
  longer : length (got ++ (x ∷ [])) ≡ length got + 1
  longer = length-append got (x ∷ [])

  pub step-over : want_of a ≡ 0 → step_of (machine a got t) x ≡ machine Bad [] t
  unfolding step_of
  step-over e = rw (eq-eqb (want_of a) 0 e)

  pub step-more : length got + 1 < want_of a → step_of (machine a got t) x ≡ machine a (got ++ (x ∷ [])) t
  unfolding step_of
  step-more h =
      rw (ne_eqb (want_of a) 0 (λ e. omega arith), lt-ltb (length (got ++ (x ∷ []))) (want_of a) (omega (arith, longer)))

  pub step-last : length got + 1 ≡ want_of a → step_of (machine a got t) x ≡ completed a (got ++ (x ∷ [])) t
  unfolding step_of
  step-last h =
      rw (ne_eqb (want_of a) 0 (λ e. omega arith), le-ltb (length (got ++ (x ∷ []))) (want_of a) (omega (arith, longer)))

-- ---- the octets of what is awaited
-- fewer than are awaited are kept
pub feed-short : (a : Await) (got xs : List ℕ) (t : Day) → length got + length xs < want_of a → (feed_of (machine a got t) xs).awaits ≡ a
unfolding feed_of
feed-short a got [] t h = refl
feed-short a got (x ∷ xs) t h =
    ap (λ (m : Machine). (feed_of m xs).awaits) (step-more a got t x (omega arith))
    ∙ feed-short a (got ++ (x ∷ [])) xs t (omega (arith, length-append got (x ∷ [])))

-- as many as are awaited complete it
pub feed-collect : (a : Await) (got xs rest : List ℕ) (t : Day) → length got < want_of a → length got + length xs ≡ want_of a → feed_of (machine a got t) (xs ++ rest) ≡ feed_of (completed a (got ++ xs) t) rest
unfolding feed_of
feed-collect a got [] rest t l e = absurd (omega arith)
feed-collect a got (x ∷ []) rest t l e = ap (λ (m : Machine). feed_of m rest) (step-last a got t x (omega arith))
feed-collect a got (x ∷ y ∷ xs) rest t l e =
    ap (λ (m : Machine). feed_of m ((y ∷ xs) ++ rest)) (step-more a got t x (omega arith))
    ∙ feed-collect a (got ++ (x ∷ [])) (y ∷ xs) rest t (omega (arith, length-append got (x ∷ []))) (omega (arith, length-append got (x ∷ [])))
    ∙ ap (λ (l : List ℕ). feed_of (completed a l t) rest) (append_assoc got (x ∷ []) (y ∷ xs))

-- all that is awaited, from its first octet on
pub feed-whole : (a : Await) (xs rest : List ℕ) (t : Day) → 0 < want_of a → length xs ≡ want_of a → feed_of (machine a [] t) (xs ++ rest) ≡ feed_of (completed a xs t) rest
feed-whole a xs rest t h e = feed-collect a [] xs rest t h (omega arith)

-- what is no book stays none
pub feed-bad : (xs : List ℕ) (t : Day) → feed_of (machine Bad [] t) xs ≡ machine Bad [] t
unfolding feed_of
feed-bad [] t = refl
feed-bad (x ∷ xs) t = ap (λ (m : Machine). feed_of m xs) (step-over Bad [] t x refl) ∙ feed-bad xs t
