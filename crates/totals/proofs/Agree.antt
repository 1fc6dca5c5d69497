-- What a question looks at: the whole blocks and the loose rows, and no other. With right totals
-- the count is the full count.
use Prim.Native.Nat.{ℕ, ◌+◌, ◌-◌, ◌*◌, ◌/◌, ◌≤◌, ◌<◌}
use mathlib.Core.Path.{◌≡◌, refl, ◌∙◌, ap}
use mathlib.Core.Bool.{Bool, true, false}
use mathlib.Core.List.{List}
use mathlib.Core.Logic.{◌⊎◌, inl, inr, ⊎_elim}
use native.Mathlib.Omega.{arith}
use native.Mathlib.Decide.{dec_lt}
use borrow.Author.Tests.{lt-ltb, le-ltb}
use lib.Dec.{ltb}
use Rattle.octets.specs.Octet.{octet, AllOctets}
use Rattle.octets.specs.Choice.{when◌then◌else◌}
use Rattle.octets.proofs.Sum.{total-none}
use Rattle.rows.specs.Rows.{busy}
use Rattle.totals.specs.Blocks.{busy_in, AllRight}
use Rattle.totals.specs.Question.{first_whole, past_whole, looked_at, busy_count, looked_of}
use Rattle.totals.specs.Looked.{is_asked, block_first, block_last, is_whole, is_loose, loose_and_whole}
use Rattle.totals.proofs.Counting.{looked-whole, looked-loose, ones-whole, ones-loose}
use Rattle.totals.proofs.Sums.{busy-most}
use Rattle.totals.proofs.Spans.{total-by, one_span, two-spans, blocks-whole, total-octets}

-- ---- which circuits are asked about, which blocks are whole, and which rows are loose
neither : (t : Bool) → (when t then false else false) ≡ false
neither true = refl
neither false = refl

unless : (t u : Bool) → u ≡ false → (when t then u else false) ≡ false
unless true u e = e
unless false u e = refl

module _ (a b : ℕ) where
  asked-yes : (i : ℕ) → a ≤ i → i ≤ b → is_asked a b i ≡ true
  asked-yes i h k = rw (le-ltb i a h, le-ltb b i k) refl

  asked-below : (i : ℕ) → i < a → is_asked a b i ≡ false
  asked-below i h = rw (lt-ltb i a h) refl

  asked-above : (i : ℕ) → b < i → is_asked a b i ≡ false
  asked-above i h = rw (lt-ltb b i h) (neither (ltb i a))

  whole-yes : (k : ℕ) → first_whole a ≤ k → k < past_whole b → is_whole a b k ≡ true
  whole-yes k h l =
      ap (λ (t : Bool). when t then is_asked a b (block_last k) else false) (asked-yes (block_first k) (omega arith) (omega arith))
      ∙ asked-yes (block_last k) (omega arith) (omega arith)

  whole_below : (k : ℕ) → k < first_whole a → is_whole a b k ≡ false
  whole_below k h = ap (λ (t : Bool). when t then is_asked a b (block_last k) else false) (asked-below (block_first k) (omega arith))

  whole_above : (k : ℕ) → past_whole b ≤ k → is_whole a b k ≡ false
  whole_above k h = unless (is_asked a b (block_first k)) (is_asked a b (block_last k)) (asked-above (block_last k) (omega arith))

  loose-outside : (i : ℕ) → (i < a) ⊎ (b < i) → is_loose a b i ≡ false
  loose-outside i h =
      ap (λ (t : Bool). when t then (when is_whole a b (i / 64) then false else true) else false)
      (⊎_elim (λ l. asked-below i l) (λ l. asked-above i l) h)

  loose-yes : (i : ℕ) → a ≤ i → i ≤ b → is_whole a b (i / 64) ≡ false → is_loose a b i ≡ true
  loose-yes i h k e =
      ap (λ (t : Bool). when t then (when is_whole a b (i / 64) then false else true) else false) (asked-yes i h k)
      ∙ ap (λ (t : Bool). when t then false else true) e

  loose-no : (i : ℕ) → is_whole a b (i / 64) ≡ true → is_loose a b i ≡ false
  loose-no i e = unless (is_asked a b i) (when is_whole a b (i / 64) then false else true) (ap (λ (t : Bool). when t then false else true) e)

-- ---- the sums over all of them
taken : (t : Bool) (v : ℕ) → t ≡ true → (when t then v else 0) ≡ v
taken t v e = ap (λ (s : Bool). when s then v else 0) e

passed : (t : Bool) (v : ℕ) → t ≡ false → (when t then v else 0) ≡ 0
passed t v e = ap (λ (s : Bool). when s then v else 0) e

-- with whole blocks
with-whole : (row whole : ℕ → ℕ) (a b : ℕ) → b ≤ 4095 → first_whole a < past_whole b → looked_at row whole a b ≡ loose_and_whole row whole a b
with-whole row whole a b k l =
    let rows =
    two-spans (λ i. when is_loose a b i then row i else 0) row a (64 * first_whole a) (64 * past_whole b) (b + 1) 4096
    (omega arith) (omega arith) (omega arith) (omega arith)
    (λ i p. passed (is_loose a b i) (row i) (loose-outside a b i (inl p)))
    (λ i p q. taken (is_loose a b i) (row i) (loose-yes a b i p (omega arith) (whole_below a b (i / 64) (omega arith))))
    (λ i p q. passed (is_loose a b i) (row i) (loose-no a b i (whole-yes a b (i / 64) (omega arith) (omega arith))))
    (λ i p q. taken (is_loose a b i) (row i) (loose-yes a b i (omega arith) (omega arith) (whole_above a b (i / 64) (omega arith))))
    (λ i p q. passed (is_loose a b i) (row i) (loose-outside a b i (inr (omega arith)))) in
    let blocks =
    one_span (λ j. when is_whole a b j then whole j else 0) whole (first_whole a) (past_whole b) 64
    (omega arith) (omega arith)
    (λ j p. passed (is_whole a b j) (whole j) (whole_below a b j p))
    (λ j p q. taken (is_whole a b j) (whole j) (whole-yes a b j p q))
    (λ j p q. passed (is_whole a b j) (whole j) (whole_above a b j p)) in
    let sums = looked-whole row whole a b l in
    omega (arith, rows, blocks, sums)

-- with none
with_none : (row whole : ℕ → ℕ) (a b : ℕ) → a ≤ b → b ≤ 4095 → past_whole b ≤ first_whole a → looked_at row whole a b ≡ loose_and_whole row whole a b
with_none row whole a b h k l =
    let rows =
    one_span (λ i. when is_loose a b i then row i else 0) row a (b + 1) 4096
    (omega arith) (omega arith)
    (λ i p. passed (is_loose a b i) (row i) (loose-outside a b i (inl p)))
    (λ i p q. taken (is_loose a b i) (row i) (loose-yes a b i p (omega arith) (no_block (i / 64))))
    (λ i p q. passed (is_loose a b i) (row i) (loose-outside a b i (inr (omega arith)))) in
    let blocks = total-none (λ j. when is_whole a b j then whole j else 0) 0 64 (λ j p. passed (is_whole a b (0 + j)) (whole (0 + j)) (no_block (0 + j))) in
    let sums = looked-loose row whole a b l in
    omega (arith, rows, blocks, sums)
  where
    no_block : (j : ℕ) → is_whole a b j ≡ false
    no_block j = go (dec_lt j (first_whole a))
      where
        go : Dec (j < first_whole a) → is_whole a b j ≡ false
        go (yes p) = whole_below a b j p
        go (no p) = whole_above a b j (omega arith)

-- what is looked at is each loose row and each whole block, and no other
pub looked-exactly : (row whole : ℕ → ℕ) (a b : ℕ) → a ≤ b → b ≤ 4095 → looked_at row whole a b ≡ loose_and_whole row whole a b
looked-exactly row whole a b h k = go (dec_lt (first_whole a) (past_whole b))
  where
    go : Dec (first_whole a < past_whole b) → looked_at row whole a b ≡ loose_and_whole row whole a b
    go (yes l) = with-whole row whole a b k l
    go (no l) = with_none row whole a b h k (omega arith)

-- ---- the count with right totals
pub full-count : (rows totals : List ℕ) (a b : ℕ) → a ≤ b → b ≤ 4095 → AllRight rows totals → busy_count rows totals a b ≡ busy_in rows a (b + 1 - a)
full-count rows totals a b h k r = go (dec_lt (first_whole a) (past_whole b))
  where
    go : Dec (first_whole a < past_whole b) → busy_count rows totals a b ≡ busy_in rows a (b + 1 - a)
    go (no l) = looked-loose (λ i. busy (octet rows i)) (octet totals) a b (omega arith)
    go (yes l) =
        let sums = looked-whole (λ i. busy (octet rows i)) (octet totals) a b l in
        let blocks = blocks-whole (octet totals) (λ i. busy (octet rows i)) (first_whole a) (past_whole b - first_whole a) (λ j p. r (first_whole a + j) (omega arith)) in
        let span : 64 * (past_whole b - first_whole a) ≡ 64 * past_whole b - 64 * first_whole a = omega arith in
        let same = ap (λ (n : ℕ). busy_in rows (64 * first_whole a) n) span in
        let first = total-by (λ i. busy (octet rows i)) a (64 * first_whole a) (b + 1) (omega arith) (omega arith) in
        let second = total-by (λ i. busy (octet rows i)) (64 * first_whole a) (64 * past_whole b) (b + 1) (omega arith) (omega arith) in
        omega (arith, sums, blocks, same, first, second)

-- with octets as totals, right or wrong, the count is that of 64 totals of 255 at the most
pub count_most : (rows totals : List ℕ) (a b : ℕ) → a ≤ b → b ≤ 4095 → AllOctets totals → busy_count rows totals a b ≤ 16320
count_most rows totals a b h k o = go (dec_lt (first_whole a) (past_whole b))
  where
    go : Dec (first_whole a < past_whole b) → busy_count rows totals a b ≤ 16320
    go (no l) = omega (arith, looked-loose (λ i. busy (octet rows i)) (octet totals) a b (omega arith), busy-most rows a (b + 1 - a))
    go (yes l) =
        let sums = looked-whole (λ i. busy (octet rows i)) (octet totals) a b l in
        let blocks = total-octets (octet totals) o (first_whole a) (past_whole b - first_whole a) in
        let first = busy-most rows a (64 * first_whole a - a) in
        let last = busy-most rows (64 * past_whole b) (b + 1 - 64 * past_whole b) in
        omega (arith, sums, blocks, first, last)

-- ---- how many numbers are looked at
-- 188 at the most
pub looked-most : (a b : ℕ) → a ≤ b → b ≤ 4095 → looked_of a b ≤ 188
looked-most a b h k = go (dec_lt (first_whole a) (past_whole b))
  where
    go : Dec (first_whole a < past_whole b) → looked_of a b ≤ 188
    go (yes l) = omega (arith, ones-whole a b l)
    go (no l) = omega (arith, ones-loose a b (omega arith))

-- 188 are reached: 63 rows before 62 blocks, and 63 after
pub looked-reached : looked_of 1 4094 ≡ 188
looked-reached = ones-whole 1 4094 (omega arith)

-- all circuits are 64 looks, and one circuit is one
pub looked-all : looked_of 0 4095 ≡ 64
looked-all = ones-whole 0 4095 (omega arith)

pub looked-one : looked_of 5 5 ≡ 1
looked-one = ones-loose 5 5 (omega arith)
