-- Any two outcomes that the public function's contract allows are equal.
use mathlib.Core.Path.{◌≡◌, ap}
use Prim.Native.Nat.{ℕ}
use mathlib.Core.List.{List}
use Rattle.octets.proofs.Answer.{one_answer}
use Rattle.requests.specs.declared.Request.{Request}
use Rattle.requests.specs.Along.{Asking, taken, request_of_lem}

-- what a line asks, and the scratch
pub request-of-determined : (line scratch : List ℕ) {r s : Request} {left rest : List ℕ} → taken r left ≡ request_of_lem line scratch → taken s rest ≡ request_of_lem line scratch → (r ≡ s) × (left ≡ rest)
request-of-determined line scratch p q = let e = one_answer p q in (ap (λ (t : Asking). t.request) e, ap (λ (t : Asking). t.left) e)
