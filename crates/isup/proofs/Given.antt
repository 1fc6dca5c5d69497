-- The reader from what its calls ensure, over plain variables.
use Prim.Native.Nat.{ℕ, ◌≤◌}
use mathlib.Core.Path.{◌≡◌, sym, ◌∙◌, ap}
use mathlib.Core.List.{List}
use native.Mathlib.Omega.{arith}
use lib.ListN.{length}
use Rattle.std.specs.Prelude.{Option, Result, Ok, Err}
use Rattle.octets.specs.Answer.{accepted, refused, ◌then◌}
use Rattle.octets.specs.Told.{refusal_number, refusal_place, told}
use Rattle.octets.specs.declared.Refusal.{Refusal}
use Rattle.parts.specs.declared.Parts.{Parts}
use Rattle.layout.specs.Container.{kind_at, parts_of}
use Rattle.layout.specs.declared.Shape.{Shape}
use Rattle.layout.proofs.Exactly.{parts-exactly}
use Rattle.isup.specs.declared.Message.{Message}
use Rattle.isup.specs.Table.{shape_of}
use Rattle.isup.specs.Read.{circuit_of_lem, message, read_of}

module _ (m : List ℕ) (k : ℕ) (r : Option Shape) (b : Result Parts Refusal) (kq : k ≡ kind_at m 2) (rq : r ≡ shape_of k) (bq : told b ≡ parts_of m 2 268 r) where
  whole : told b ≡ parts_of m 2 268 (shape_of (kind_at m 2))
  whole = bq ∙ ap (parts_of m 2 268) (rq ∙ ap shape_of kq)

  pub read-long : (p : Parts) → b ≡ Ok p → 2 ≤ length m
  read-long p e = let f = (parts-exactly m 2 268 r p).0 (sym bq ∙ ap told e) in omega (arith, f.least)

  pub read-laid : (p : Parts) (ci : ℕ) → b ≡ Ok p → ci ≡ circuit_of_lem m → accepted (record { circuit = ci; kind = k; parts = p }) ≡ read_of m
  unfolding read_of
  read-laid p ci e q =
      ap accepted (λ i. record { circuit = q i; kind = kq i; parts = p })
      ∙ ap (λ x. x then λ p. accepted (message m p)) (sym (ap told e) ∙ whole)

  pub read-broken : (why : Refusal) → b ≡ Err why → refused (refusal_number why) (refusal_place why) ≡ read_of m
  unfolding read_of
  read-broken why e = ap (λ x. x then λ p. accepted (message m p)) (sym (ap told e) ∙ whole)

-- the reader's answer, handed on
module _ (m : List ℕ) (x : Result Message Refusal) (q : told x ≡ read_of m) where
  pub read-message : (y : Message) → x ≡ Ok y → read_of m ≡ accepted y
  read-message y e = sym q ∙ ap told e

  pub read-refused : (why : Refusal) → x ≡ Err why → read_of m ≡ refused (refusal_number why) (refusal_place why)
  read-refused why e = sym q ∙ ap told e
