-- Any two answers that a public function's contract allows are one.
use Prim.Native.Nat.{ℕ, ◌+◌, ◌*◌}
use mathlib.Core.Path.{◌≡◌}
use mathlib.Core.Bool.{Bool}
use Rattle.octets.proofs.Answer.{one_answer}
use Rattle.book.specs.declared.Await.{Await}
use Rattle.book.specs.Awaits.{want_of, spans_await_lem, entries_await_lem, bad_span_lem}

pub word-determined : (low high : ℕ) {r s : ℕ} → r ≡ low + 256 * high → s ≡ low + 256 * high → r ≡ s
word-determined low high = one_answer

pub want-determined : (a : Await) {r s : ℕ} → r ≡ want_of a → s ≡ want_of a → r ≡ s
want-determined a = one_answer

pub spans-await-determined : (n next : ℕ) {r s : Await} → r ≡ spans_await_lem n next → s ≡ spans_await_lem n next → r ≡ s
spans-await-determined n next = one_answer

pub entries-await-determined : (n : ℕ) {r s : Await} → r ≡ entries_await_lem n → s ≡ entries_await_lem n → r ≡ s
entries-await-determined n = one_answer

pub bad-span-determined : (next first last sender : ℕ) {r s : Bool} → r ≡ bad_span_lem next first last sender → s ≡ bad_span_lem next first last sender → r ≡ s
bad-span-determined next first last sender = one_answer
