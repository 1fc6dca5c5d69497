-- One step of a walk over signals to read, as a proof of the code cites it.
use Prim.Native.Nat.{ℕ, suc, ◌<◌, ◌≤◌}
use mathlib.Core.Path.{◌≡◌, sym, ◌∙◌, ap}
use mathlib.Core.List.{List}
use native.Mathlib.Omega.{arith}
use lib.ListN.{length, get_or, drop, set, drop_of_length-le}
use lib.Seq.{drop-cons, sets}
use denote.Ref.{MutBor, at_last}
use Rattle.number.specs.Contents.{count_in, signals_in}
use Rattle.number.proofs.Laws.{length-signals}

-- nothing is left to store
pub sets-none : (l : List ℕ) (i k : ℕ) (xs : List ℕ) → length xs ≤ k → sets l i (drop k xs) ≡ l
sets-none l i k xs h = rw (drop_of_length-le xs h)

-- one is stored, and then the rest
pub sets_more : (l : List ℕ) (i i' k k' v : ℕ) (xs : List ℕ) → k < length xs → v ≡ get_or xs k 0 → k' ≡ suc k → i' ≡ suc i → sets (set l i v) i' (drop k' xs) ≡ sets l i (drop k xs)
sets_more l i i' k k' v xs h e p q = rw (drop-cons xs k 0 h, e, p, q)

-- none is left to read
pub read_none : (contents : List ℕ) (x : MutBor (List ℕ)) (k : ℕ) → count_in contents ≤ k → x ≡ at_last x (sets x.now k (drop k (signals_in contents)))
read_none contents x k h = ap (at_last x) (sym (sets-none x.now k k (signals_in contents) (omega (arith, length-signals contents))))

-- signal k is read, and then the rest
pub read_more : (contents : List ℕ) (x : MutBor (List ℕ)) {y : MutBor (List ℕ)} (k k' v : ℕ) → k < count_in contents → k' ≡ suc k → y ≡ at_last x (sets (set x.now k v) k' (drop k' (signals_in contents))) → v ≡ get_or (signals_in contents) k 0 → y ≡ at_last x (sets x.now k (drop k (signals_in contents)))
read_more contents x k k' v h e rest is =
    rest ∙ ap (at_last x) (sets_more x.now k k' k k' v (signals_in contents) (omega (arith, length-signals contents)) is e e)
