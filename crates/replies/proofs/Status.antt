-- What an answer carries. The status, once over its width: r/8+1 octets, the message's bits 0 to r
-- or the 8s of the rows, and spare bits 0. The circuit states: octet i is the state of row i.
use Prim.Native.Nat.{ℕ, ◌+◌, ◌*◌, ◌/◌, ◌%◌, ◌^◌, ◌≤◌, ◌<◌}
use mathlib.Core.Path.{◌≡◌, sym, ◌∙◌, ap}
use mathlib.Core.Bool.{false}
use mathlib.Core.List.{List}
use mathlib.Core.Logic.{⊎_elim}
use native.Mathlib.Omega.{arith}
use native.Mathlib.Nat.{zero-add, mod-lt, div-eq_of_lt, zero-div}
use borrow.Author.Tests.{lt-ltb, le-ltb, ltb-true, ltb-false}
use lib.Dec.{ltb, eqb}
use lib.ListN.{get_or-eq_default}
use lib.Pow.{pow_pos, pow_mono}
use Rattle.octets.specs.Octet.{octet}
use Rattle.octets.proofs.Choice.{decided}
use Rattle.octets.proofs.Tabulate.{tabulated-from, tabulated, length-tabulate}
use Rattle.rows.specs.Rows.{local, circuit_state_lem}
use Rattle.marks.specs.Marks.{status_octet_lem, bits_in_lem, locked_bits, locked_octet_lem}
use Rattle.marks.proofs.Counted.{kept-bit}
use Rattle.marks.proofs.Locked.{locked-bit, locked-past}
use Rattle.asks.specs.Asks.{width, bit_at}
use Rattle.replies.specs.Replies.{status_given, status_locked, states_from}
use Rattle.replies.specs.Rules.{Marks, Locks, States}

-- a bit past it is 0
cut-bit : (x j k : ℕ) → k < j → x % 2 ^ (k + 1) / 2 ^ j % 2 ≡ 0
cut-bit x j k h =
    let a : x % 2 ^ (k + 1) < 2 ^ (k + 1) = mod-lt x (pow_pos (k + 1)) in
    let b : 2 ^ (k + 1) ≤ 2 ^ j = pow_mono (omega arith) in
    ap (λ (n : ℕ). n % 2) (div-eq_of_lt {n = x % 2 ^ (k + 1)} {m = 2 ^ j} (omega (arith, a, b)))

module _ (range : ℕ) (given : List ℕ) where
  status : List ℕ
  status = status_given range given

  whole-octet : (k : ℕ) → k < range / 8 → octet status k ≡ octet given k
  unfolding status_octet_lem status
  whole-octet k h =
      tabulated (status_octet_lem range given) (width range) k (omega arith) ∙ rw (lt-ltb k (range / 8) h)

  last-octet : (k : ℕ) → k ≡ range / 8 → octet status k ≡ octet given k % 2 ^ (range % 8 + 1)
  unfolding status_octet_lem status
  last-octet k e =
      tabulated (status_octet_lem range given) (width range) k (omega arith) ∙ rw (le-ltb k (range / 8) (omega arith))

  past-octet : (k : ℕ) → range / 8 < k → octet status k ≡ 0
  unfolding status
  past-octet k h = get_or-eq_default status 0 {n = k} (omega (arith, length-tabulate (status_octet_lem range given) 0 (width range)))

  bit-marks : (i : ℕ) → i ≤ range → bit_at status 0 i ≡ bit_at given 0 i
  unfolding bit_at
  bit-marks i h =
      rw (zero-add (i / 8))
      (⊎_elim
      (λ t. ap (λ (o : ℕ). eqb (o / 2 ^ (i % 8) % 2) 1) (whole-octet (i / 8) (ltb-true _ _ t)))
      (λ t.
      let e : i / 8 ≡ range / 8 = omega (arith, ltb-false (i / 8) (range / 8) t) in
      ap (λ (o : ℕ). eqb (o / 2 ^ (i % 8) % 2) 1) (last-octet (i / 8) e)
      ∙ ap (λ (b : ℕ). eqb b 1) (kept-bit _ (i % 8) (range % 8) (omega arith)))
      (decided (ltb (i / 8) (range / 8))))

  bit-spare : (i : ℕ) → range < i → bit_at status 0 i ≡ false
  unfolding bit_at
  bit-spare i h =
      rw (zero-add (i / 8))
      (⊎_elim
      (λ t. ap (λ (o : ℕ). eqb (o / 2 ^ (i % 8) % 2) 1) (past-octet (i / 8) (ltb-true _ _ t)) ∙ ap (λ (n : ℕ). eqb (n % 2) 1) (zero-div (2 ^ (i % 8))))
      (λ t.
      let e : i / 8 ≡ range / 8 = omega (arith, ltb-false (range / 8) (i / 8) t) in
      ap (λ (o : ℕ). eqb (o / 2 ^ (i % 8) % 2) 1) (last-octet (i / 8) e)
      ∙ ap (λ (b : ℕ). eqb b 1) (cut-bit _ (i % 8) (range % 8) (omega arith)))
      (decided (ltb (range / 8) (i / 8))))

  -- the status of an answer carries the message's marks, and its spare bits are 0
  pub status-marks : Marks given 0 range (status_given range given)
  unfolding status
  status-marks = record {
    wide = length-tabulate (status_octet_lem range given) 0 (width range);
    marks = bit-marks;
    spare = bit-spare;
  }

-- ---- GRA's status, once over its width
module _ (range : ℕ) (group : List ℕ) where
  locked : List ℕ
  locked = status_locked range group

  -- octet k of it
  locked-at : (k : ℕ) → k ≤ range / 8 → octet locked k ≡ locked_bits group (8 * k) (bits_in_lem range k)
  unfolding locked
  locked-at k h = tabulated (locked_octet_lem range group) (width range) k (omega arith)

  -- how many bits octet i/8 has: those up to r
  bits-reach : (i : ℕ) → i ≤ range → i % 8 < bits_in_lem range (i / 8)
  unfolding bits_in_lem
  bits-reach i h =
      ⊎_elim
      (λ t. rw t (omega arith))
      (λ t. rw t (omega (arith, ltb-false (i / 8) (range / 8) t)))
      (decided (ltb (i / 8) (range / 8)))

  -- and no more
  bits-end : (i : ℕ) → range < i → i / 8 ≤ range / 8 → bits_in_lem range (i / 8) ≤ i % 8
  unfolding bits_in_lem
  bits-end i h k = let e : i / 8 ≡ range / 8 = omega arith in rw (le-ltb (i / 8) (range / 8) (omega arith)) (omega arith)

  bit-locks : (i : ℕ) → i ≤ range → bit_at locked 0 i ≡ eqb (local (octet group i)) 1
  unfolding bit_at
  bit-locks i h =
      let e : 8 * (i / 8) + i % 8 ≡ i = omega arith in
      rw (zero-add (i / 8))
      (ap (λ (o : ℕ). eqb (o / 2 ^ (i % 8) % 2) 1) (locked-at (i / 8) (omega arith))
      ∙ ap (λ (b : ℕ). eqb b 1) (locked-bit group (8 * (i / 8)) (bits_in_lem range (i / 8)) (i % 8) (bits-reach i h))
      ∙ ap (λ (k : ℕ). eqb (local (octet group k)) 1) e)

  bit-unlocked : (i : ℕ) → range < i → bit_at locked 0 i ≡ false
  unfolding bit_at locked
  bit-unlocked i h =
      rw (zero-add (i / 8))
      (⊎_elim
      (λ t.
      let e : octet (status_locked range group) (i / 8) ≡ 0 = get_or-eq_default (status_locked range group) 0 {n = i / 8} (omega (arith, ltb-true (range / 8) (i / 8) t, length-tabulate (locked_octet_lem range group) 0 (width range))) in
      ap (λ (o : ℕ). eqb (o / 2 ^ (i % 8) % 2) 1) e ∙ ap (λ (n : ℕ). eqb (n % 2) 1) (zero-div (2 ^ (i % 8))))
      (λ t.
      let l : i / 8 ≤ range / 8 = ltb-false (range / 8) (i / 8) t in
      ap (λ (o : ℕ). eqb (o / 2 ^ (i % 8) % 2) 1) (locked-at (i / 8) l)
      ∙ ap (λ (b : ℕ). eqb b 1) (locked-past group (8 * (i / 8)) (bits_in_lem range (i / 8)) (i % 8) (bits-end i h l)))
      (decided (ltb (range / 8) (i / 8))))

  -- the status of GRA has the 8s of the rows, and its spare bits are 0
  pub locks-shown : Locks group 0 range (status_locked range group)
  unfolding locked
  locks-shown = record {
    wide = length-tabulate (locked_octet_lem range group) 0 (width range);
    locks = λ i h. bit-locks i h ∙ ap (λ (k : ℕ). eqb (local (octet group k)) 1) (sym (zero-add i));
    spare = bit-unlocked;
  }

-- each circuit state is that of its row
pub states-shown : (group : List ℕ) (range : ℕ) → States group 0 range (states_from group 0 (range + 1))
states-shown group range = record {
  wide = length-tabulate (λ i. circuit_state_lem (octet group i)) 0 (range + 1);
  each = λ i h. tabulated-from (λ k. circuit_state_lem (octet group k)) (range + 1) 0 i (omega arith);
}
