-- A word that is kept as it is typed.
use Rattle.std.specs.Prelude.{Some, None}
use Prim.Native.Nat.{ℕ, suc, ◌+◌, ◌-◌, ◌≤◌}
use mathlib.Core.Path.{◌≡◌, refl, ◌∙◌}
use mathlib.Core.Bool.{Bool, true, false}
use mathlib.Core.List.{List, [], ◌∷◌}
use native.Mathlib.Omega.{arith}
use borrow.Author.Tests.{le-ltb}
use lib.Dec.{ltb}
use lib.ListN.{length, take, set}
use lib.Seq.{sets, take-set-le, length-sets}
use Rattle.octets.specs.Choice.{when◌then◌else◌}
use Rattle.words.specs.Into.{Entry, entry}
use Rattle.fields.specs.Placed.{word_into}

-- a run of stores changes nothing before it
sets-keep : (xs buffer : List ℕ) (n at : ℕ) → n ≤ at → take n (sets buffer at xs) ≡ take n buffer
sets-keep [] buffer n at h = refl
sets-keep (x ∷ xs) buffer n at h = sets-keep xs (set buffer at x) n (suc at) (omega arith) ∙ take-set-le n buffer at x h

module _ (word buffer : List ℕ) (at : ℕ) where
  -- it has too many octets
  pub word-long : ltb 18 (length word) ≡ true → word_into word buffer at ≡ entry None buffer
  unfolding word_into
  word-long t = rw t refl

  -- there is room for it
  pub word-into : ltb 18 (length word) ≡ false → at + length word ≤ length buffer → word_into word buffer at ≡ entry (Some (length word)) (sets buffer at word)
  unfolding word_into
  word-into t h =
      let a : at ≤ length buffer = omega arith in
      let b : length word ≤ length buffer - at = omega arith in
      rw (t, le-ltb _ _ a, le-ltb _ _ b) refl

  -- the same by the code's own tests
  pub word_room : length word ≤ 18 → at ≤ length buffer → length word ≤ length buffer - at → entry (Some (length word)) (sets buffer at word) ≡ word_into word buffer at
  unfolding word_into
  word_room h a l = rw (le-ltb _ _ h, le-ltb _ _ a, le-ltb _ _ l) refl

  -- nothing before `at` changes, and the buffer keeps its length
  pub word_keeps : (take at (word_into word buffer at).left ≡ take at buffer) × (length (word_into word buffer at).left ≡ length buffer)
  unfolding word_into
  word_keeps = go (ltb 18 (length word)) (ltb (length buffer) at) (ltb (length buffer - at) (length word))
    where
      chose : Bool → Bool → Bool → Entry
      chose many past full = when many then entry None buffer else when past then entry None buffer else when full then entry None buffer else entry (Some (length word)) (sets buffer at word)

      go : (many past full : Bool) → (take at (chose many past full).left ≡ take at buffer) × (length (chose many past full).left ≡ length buffer)
      go true past full = (refl, refl)
      go false true full = (refl, refl)
      go false false true = (refl, refl)
      go false false false = (sets-keep word buffer at at (omega arith), length-sets buffer at word)
