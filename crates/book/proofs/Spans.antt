-- What the tests of a span and the counts come to.
use Prim.Native.Nat.{ℕ, suc, ◌+◌, ◌*◌, ◌/◌, ◌%◌, ◌≤◌, ◌<◌}
use mathlib.Core.Path.{◌≡◌, refl}
use mathlib.Core.Bool.{Bool, true, false}
use native.Mathlib.Omega.{arith}
use borrow.Author.Tests.{lt-ltb, le-ltb, ne_eqb, ltb-false, eqb-false}
use lib.Dec.{ltb, eqb}
use Rattle.octets.specs.Choice.{when◌then◌else◌}
use Rattle.book.specs.declared.Await.TheVariants.{Span, Head}
use Rattle.book.specs.Book.{Span as Owned, GoodSpan}
use Rattle.book.specs.Awaits.{spans_await_lem, entries_await_lem, bad_span_lem}

-- two octets say their number
pub word-said : (n : ℕ) → n % 256 + 256 * (n / 256) ≡ n
word-said n = omega arith

-- ---- the spans
pub span-good : (next : ℕ) (s : Owned) → GoodSpan next s → bad_span_lem next s.first s.last s.sender ≡ false
span-good next s g =
    rw (le-ltb s.first next g.above, le-ltb s.last s.first g.upwards, le-ltb 4095 s.last g.circuits) (ne_eqb s.sender 0 (λ e. omega (arith, g.somebody)))

pub span-passed : (next first last sender : ℕ) → bad_span_lem next first last sender ≡ false → (next ≤ first) × (first ≤ last) × (last ≤ 4095) × (sender ≡ 0 → ⊥)
span-passed next first last sender e = go (ltb first next) refl (ltb last first) refl (ltb 4095 last) refl e
  where
    go : (a : Bool) → ltb first next ≡ a → (b : Bool) → ltb last first ≡ b → (c : Bool) → ltb 4095 last ≡ c → (when a then true else (when b then true else (when c then true else eqb sender 0))) ≡ false → (next ≤ first) × (first ≤ last) × (last ≤ 4095) × (sender ≡ 0 → ⊥)
    go true p b q c r f = absurd (let z : ◌≡◌ {A = ℕ} 0 1 = cc in omega arith)
    go false p true q c r f = absurd (let z : ◌≡◌ {A = ℕ} 0 1 = cc in omega arith)
    go false p false q true r f = absurd (let z : ◌≡◌ {A = ℕ} 0 1 = cc in omega arith)
    go false p false q false r f = (ltb-false first next p, ltb-false last first q, ltb-false 4095 last r, eqb-false sender 0 f)

pub spans-more : (n next : ℕ) → spans_await_lem (suc n) next ≡ Span (suc n) next
spans-more n next = rw (ne_eqb (suc n) 0 (λ e. omega arith))

pub entries-more : (n : ℕ) → entries_await_lem (suc n) ≡ Head (suc n)
entries-more n = rw (ne_eqb (suc n) 0 (λ e. omega arith))

-- ---- the tests of a span, one after the other
module _ (next first last sender : ℕ) where
  pub bad-below : first < next → true ≡ bad_span_lem next first last sender
  bad-below h = rw (lt-ltb first next h)

  pub bad-back : next ≤ first → last < first → true ≡ bad_span_lem next first last sender
  bad-back a h = rw (le-ltb first next a, lt-ltb last first h)

  pub bad-beyond : next ≤ first → first ≤ last → 4095 < last → true ≡ bad_span_lem next first last sender
  bad-beyond a b h = rw (le-ltb first next a, le-ltb last first b, lt-ltb 4095 last h)

  pub bad-nobody : next ≤ first → first ≤ last → last ≤ 4095 → eqb sender 0 ≡ bad_span_lem next first last sender
  bad-nobody a b h = rw (le-ltb first next a, le-ltb last first b, le-ltb 4095 last h)
