-- Any two answers that a public function's contract allows are equal.
use Prim.Native.Nat.{ℕ}
use mathlib.Core.Path.{◌≡◌}
use mathlib.Core.List.{List}
use Rattle.octets.proofs.Answer.{one_answer}
use Rattle.marks.specs.Marks.{cut_to, marks_in_lem, status_octet_lem, locked_octet_lem}

pub cut-determined : (x range r s : ℕ) → r ≡ cut_to x range → s ≡ cut_to x range → r ≡ s
cut-determined x range r s = one_answer

pub marks-in-determined : (range : ℕ) (status : List ℕ) (r s : ℕ) → r ≡ marks_in_lem range status → s ≡ marks_in_lem range status → r ≡ s
marks-in-determined range status r s = one_answer

pub status-octet-determined : (range : ℕ) (status : List ℕ) (j r s : ℕ) → r ≡ status_octet_lem range status j → s ≡ status_octet_lem range status j → r ≡ s
status-octet-determined range status j r s = one_answer

pub locked-octet-determined : (range : ℕ) (group : List ℕ) (j r s : ℕ) → r ≡ locked_octet_lem range group j → s ≡ locked_octet_lem range group j → r ≡ s
locked-octet-determined range group j r s = one_answer
