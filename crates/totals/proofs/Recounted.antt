-- Blocks counted anew: which totals are right afterwards, and which stay.
use Prim.Native.Nat.{ℕ, ◌+◌, ◌-◌, ◌*◌, ◌/◌, ◌≤◌, ◌<◌}
use mathlib.Core.Path.{◌≡◌, sym, ◌∙◌, ap}
use mathlib.Core.List.{List}
use mathlib.Core.Logic.{◌⊎◌, inl, inr, ⊎_elim}
use native.Mathlib.Omega.{arith}
use native.Mathlib.Decide.{dec_lt}
use lib.ListN.{length, set}
use lib.Seq.{ext_get_or}
use Rattle.octets.specs.Octet.{octet}
use Rattle.octets.proofs.Applied.{applied-none, applied-more, applied-beyond, length-applied, applied-below, applied-past, applied-in}
use Rattle.octets.proofs.Sum.{total-same}
use Rattle.rows.specs.Rows.{busy}
use Rattle.totals.specs.Blocks.{block_count_lem, Right, AllRight, blocks_counted, recounted}

-- ---- a loop over the blocks from k to m
module _ (rows : List ℕ) (k m : ℕ) (totals : List ℕ) where
  -- one block
  pub counted_step : (v : ℕ) → k ≤ m → v ≡ block_count_lem rows k → blocks_counted rows k m totals ≡ blocks_counted rows (k + 1) m (set totals k v)
  counted_step v h e = applied-more _ k (m + 1 - k) (k + 1) (m + 1 - (k + 1)) v totals (omega arith) (omega arith) e

  -- no block is left
  pub counted_stop : m < k → totals ≡ blocks_counted rows k m totals
  counted_stop h = sym (applied-none _ k (m + 1 - k) totals (omega arith))

  -- no total is left
  pub counted-end : length totals ≤ k → totals ≡ blocks_counted rows k m totals
  counted-end h = sym (applied-beyond _ k (m + 1 - k) totals h)

-- ---- what a recount means
module _ (rows : List ℕ) (first last : ℕ) (totals : List ℕ) where
  pub length-recounted : length (recounted rows first last totals) ≡ length totals
  unfolding recounted
  length-recounted = length-applied _ (first / 64) (last / 64 + 1 - first / 64) totals

  -- the total of each block from that of the first circuit to that of the last
  -- is right, whatever it was
  pub recounted-right : (k : ℕ) → first / 64 ≤ k → k ≤ last / 64 → k < length totals → Right rows (recounted rows first last totals) k
  unfolding recounted
  recounted-right k a b h = applied-in _ (first / 64) (last / 64 + 1 - first / 64) totals k a (omega arith) h

  -- so the total of each block that holds one of these circuits
  pub recounted-named : (c : ℕ) → first ≤ c → c ≤ last → c / 64 < length totals → Right rows (recounted rows first last totals) (c / 64)
  recounted-named c a b h = recounted-right (c / 64) (omega arith) (omega arith) h

  -- every other total stays
  pub recounted-stays : (k : ℕ) → (k < first / 64) ⊎ (last / 64 < k) → octet (recounted rows first last totals) k ≡ octet totals k
  unfolding recounted
  recounted-stays k h = go (dec_lt k (first / 64))
    where
      go : Dec (k < first / 64) → octet (blocks_counted rows (first / 64) (last / 64) totals) k ≡ octet totals k
      go (yes l) = applied-below _ (first / 64) (last / 64 + 1 - first / 64) totals k l
      go (no l) = applied-past _ (first / 64) (last / 64 + 1 - first / 64) totals k (⊎_elim (λ a. absurd (l a)) (λ a. omega arith) h)

-- a block is within the span, or it is not
pub block-or : (first last k : ℕ) → ((first / 64 ≤ k) × (k ≤ last / 64)) ⊎ ((k < first / 64) ⊎ (last / 64 < k))
block-or first last k = go (dec_lt k (first / 64)) (dec_lt (last / 64) k)
  where
    go : Dec (k < first / 64) → Dec (last / 64 < k) → ((first / 64 ≤ k) × (k ≤ last / 64)) ⊎ ((k < first / 64) ⊎ (last / 64 < k))
    go (yes a) b = inr (inl a)
    go (no a) (yes b) = inr (inr b)
    go (no a) (no b) = inl (omega arith, omega arith)

-- rows that agree on a block have the same count of it
pub block_same : (rows rows' : List ℕ) (k : ℕ) → ((i : ℕ) → i / 64 ≡ k → octet rows' i ≡ octet rows i) → block_count_lem rows' k ≡ block_count_lem rows k
block_same rows rows' k h =
    total-same (λ i. busy (octet rows' i)) (λ i. busy (octet rows i)) (64 * k) (64 * k) 64
    (λ j l. ap busy (h (64 * k + j) (omega arith)))

-- rows change only in the blocks of a span, and these are counted anew: a total
-- that was right is right for the new rows
pub right-stays : (rows rows' : List ℕ) (first last : ℕ) (totals : List ℕ)
    → ((i : ℕ) → (i / 64 < first / 64) ⊎ (last / 64 < i / 64) → octet rows' i ≡ octet rows i)
    → (k : ℕ) → k < length totals → Right rows totals k → Right rows' (recounted rows' first last totals) k
right-stays rows rows' first last totals same k h r =
    ⊎_elim
    (λ w. recounted-right rows' first last totals k w.0 w.1 h)
    (λ w.
    recounted-stays rows' first last totals k w
    ∙ r
    ∙ sym (block_same rows rows' k (λ i e. same i (⊎_elim (λ a. inl (omega arith)) (λ a. inr (omega arith)) w))))
    (block-or first last k)

-- so where every total was right, every total is right again
pub all-right-stays : (rows rows' : List ℕ) (first last : ℕ) (totals : List ℕ) → length totals ≡ 64
    → ((i : ℕ) → (i / 64 < first / 64) ⊎ (last / 64 < i / 64) → octet rows' i ≡ octet rows i)
    → AllRight rows totals → AllRight rows' (recounted rows' first last totals)
all-right-stays rows rows' first last totals n same r k h = right-stays rows rows' first last totals same k (omega arith) (r k h)

-- a recount over all the blocks of an earlier one leaves nothing of it, by whatever rows that was
pub recounted-swallows : (rows rows' : List ℕ) (a b c d : ℕ) (totals : List ℕ) → a / 64 ≤ c / 64 → d / 64 ≤ b / 64
    → recounted rows a b (recounted rows' c d totals) ≡ recounted rows a b totals
recounted-swallows rows rows' a b c d totals p q =
    ext_get_or 0 (recounted rows a b (recounted rows' c d totals)) (recounted rows a b totals)
    (outer ∙ sym (length-recounted rows a b totals))
    (λ k h. same k (omega (arith, outer)))
  where
    inner : length (recounted rows' c d totals) ≡ length totals
    inner = length-recounted rows' c d totals

    outer : length (recounted rows a b (recounted rows' c d totals)) ≡ length totals
    outer = length-recounted rows a b (recounted rows' c d totals) ∙ inner

    same : (k : ℕ) → k < length totals → octet (recounted rows a b (recounted rows' c d totals)) k ≡ octet (recounted rows a b totals) k
    same k h =
        ⊎_elim
        (λ w. recounted-right rows a b (recounted rows' c d totals) k w.0 w.1 (omega (arith, inner)) ∙ sym (recounted-right rows a b totals k w.0 w.1 h))
        (λ w.
        recounted-stays rows a b (recounted rows' c d totals) k w
        ∙ recounted-stays rows' c d totals k (⊎_elim (λ l. inl (omega arith)) (λ l. inr (omega arith)) w)
        ∙ sym (recounted-stays rows a b totals k w))
        (block-or a b k)
