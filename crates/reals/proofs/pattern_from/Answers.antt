use Prim.Native.Nat.{ℕ, ◌+◌, ◌-◌, ◌*◌, ◌^◌, ◌≤◌, ◌<◌}
use mathlib.Core.Path.{◌≡◌, sym, ◌∙◌}
use mathlib.Core.List.{List}
use native.Mathlib.Nat.{pow-succ', pow-le-pow_right, lt_of_lt_of_le}
use native.Mathlib.Numerals.{add-one}
use native.Mathlib.Omega.{arith}
use lib.Dec.{lit<}
use lib.ListN.{length, take, drop, length-take, length-drop}
use Rattle.decimals.proofs.Steps.{hex-none, hex-more, hex-ended}
use Rattle.reals.proofs.pattern_from.Goals as goal

-- i digits stand for less than 16 to the i, and so do those with one more
hex-grows : (v i x : ℕ) → v < 16 ^ i → x ≤ 15 → 16 * v + x < 16 ^ (i + 1)
hex-grows v i x l e = rw (add-one i) (omega (arith, pow-succ' 16 i))

-- before another of the 16 digits, the number has room for it: the word has 18 octets, the first two are no digits
hex-15 : (word : List ℕ) (v i : ℕ) → v < 16 ^ i → i < length (take (length word - 2) (drop 2 word)) → length word ≡ 18 → v < 1152921504606846976
hex-15 word v i l h e =
    let few : i ≤ 15 = omega (arith, length-take (length word - 2) (drop 2 word), length-drop 2 word) in
    lt_of_lt_of_le l (pow-le-pow_right {n = 16} (lit< tt) {i = i} {j = 15} few)

pub returns-then-digit-gt15 : goal.returns-then-digit-gt15
returns-then-digit-gt15 c = sym (hex-none _ c.loop-octet.octet-index c.loop-octet-test.true _ (omega arith)) ∙ c.loop-octet.invariant.1

pub overflow_mul-number : goal.overflow_mul-number
overflow_mul-number c = omega (arith, hex-15 c.args.word.now c.loop-octet.number c.loop-octet.octet-index c.loop-octet.invariant.0 c.loop-octet-test.true c.requires)

pub overflow_add-number : goal.overflow_add-number
overflow_add-number c = omega (arith, hex-15 c.args.word.now c.loop-octet.number c.loop-octet.octet-index c.loop-octet.invariant.0 c.loop-octet-test.true c.requires)

pub loop-octet-preserved : goal.loop-octet-preserved
loop-octet-preserved c = (
  hex-grows c.loop-octet.number c.loop-octet.octet-index _ c.loop-octet.invariant.0 (omega arith),
  rw c.value-digit.ensures.0 (sym (hex-more _ c.loop-octet.octet-index c.loop-octet-test.true c.loop-octet.number (omega arith)) ∙ c.loop-octet.invariant.1),
)

pub returns : goal.returns
returns c = sym (hex-ended _ c.loop-octet.octet-index _ (omega arith)) ∙ c.loop-octet.invariant.1
