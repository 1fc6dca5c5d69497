-- What a call stores, over plain variables.
use Prim.Native.Nat.{ℕ, zero, suc, ◌+◌, ◌<◌}
use mathlib.Core.Path.{◌≡◌, refl, ◌∙◌, ap}
use mathlib.Core.Bool.{Bool, true, false}
use mathlib.Core.List.{List}
use native.Mathlib.Omega.{arith}
use native.Mathlib.Nat.{add-zero, add-sub_cancel_left}
use lib.ListN.{length, get_or, set}
use Rattle.octets.specs.Octet.{octet}
use Rattle.octets.specs.Applied.{applied}
use Rattle.octets.proofs.Applied.{applied-none, applied-more, applied-same}
use Rattle.octets.proofs.Octet.{octets-octet, octets-agree}
use Rattle.rows.specs.declared.Act.{Act}
use Rattle.rows.specs.declared.Act.TheVariants.{Query}
use Rattle.rows.specs.Rows.{changed_row, row_of}
use Rattle.asks.specs.declared.Ask.{Ask}
use Rattle.asks.specs.Asks.{mark_of}
use Rattle.replies.specs.Replies.{answer_to, reply_length}
use Rattle.replies.proofs.Writing.{length-answer}
use Rattle.hub.specs.Rows.{effect, rows_after}
use Rattle.rights.specs.Names.{Named}
use Rattle.hub.specs.Replies.{status_in, reply_of}

-- ---- the answer
-- how many octets it has: of the rows that of circuit m matters alone, and the message does not
pub length-reply : (states m : List ℕ) (a : Ask) → length (reply_of states m a) ≡ reply_length a.act a.range (octet states a.circuit)
unfolding reply_of
length-reply states m a =
    length-answer a.act a.circuit a.range a.block _ _
    ∙ ap (reply_length a.act a.range) (octets-octet states a.circuit (a.range + 1) 0 (omega arith) ∙ ap (octet states) (add-zero a.circuit))

-- it depends on the named rows alone
pub reply-alike : (s t m : List ℕ) (a : Ask) → a.circuit + a.range < length s → a.circuit + a.range < length t → ((c : ℕ) → Named a c → octet s c ≡ octet t c) → reply_of s m a ≡ reply_of t m a
unfolding reply_of
reply-alike s t m a h k e =
    ap (λ (group : List ℕ). answer_to a.act a.circuit a.range a.block group (status_in m a.status a.range))
    (octets-agree t s a.circuit (a.range + 1) (omega arith) (omega arith) (λ j p q. e j (p, omega arith)))

-- ---- a row
module _ (m : List ℕ) (a : Ask) (i n n' : ℕ) (t : Bool) (states : List ℕ) (q : t ≡ mark_of m a.status i) (e : n ≡ suc n') where
  pub row-marked : (v : ℕ) → t ≡ true → v ≡ changed_row a.act a.block (get_or states (a.circuit + i) 0) → applied (effect m a) (a.circuit + i) n states ≡ applied (effect m a) (a.circuit + (i + 1)) n' (set states (a.circuit + i) v)
  row-marked v h c =
      applied-more (effect m a) (a.circuit + i) n (a.circuit + (i + 1)) n' v states e (omega arith)
      (rw (add-sub_cancel_left, ← q, h) c)

  pub row-unmarked : t ≡ false → applied (effect m a) (a.circuit + i) n states ≡ applied (effect m a) (a.circuit + (i + 1)) n' states
  row-unmarked h =
      applied-same (effect m a) (a.circuit + i) n (a.circuit + (i + 1)) n' states e (omega arith)
      (rw (add-sub_cancel_left, ← q, h))

-- ---- the rows of a query
-- a change that keeps each row keeps them all
kept-all : (f : ℕ → ℕ → ℕ) → ((k row : ℕ) → f k row ≡ row) → (k n : ℕ) (l : List ℕ) → applied f k n l ≡ l
kept-all f h k zero l = applied-none f k 0 l refl
kept-all f h k (suc n) l = applied-same f k (suc n) (suc k) n l refl refl (h k _) ∙ kept-all f h (suc k) n l

same_row : (act : Act) (block : ℕ) (t : Bool) (row : ℕ) → act ≡ Query → row_of act block t row ≡ row
unfolding changed_row
same_row act block true row e = ap (λ (k : Act). changed_row k block row) e
same_row act block false row e = refl

-- a query keeps every row
pub rows-queried : (m : List ℕ) (a : Ask) (states : List ℕ) → a.act ≡ Query → rows_after m a states ≡ states
rows-queried m a states e = kept-all (effect m a) (λ k row. same_row a.act a.block (mark_of m a.status _) row e) a.circuit (a.range + 1) states
