-- The functions from what their calls ensure, over plain variables.
use Prim.Native.Nat.{ℕ, ◌+◌, ◌*◌, ◌≤◌, ◌<◌}
use mathlib.Core.Path.{◌≡◌, refl, sym, ◌∙◌, ap}
use mathlib.Core.List.{List, [], ◌∷◌}
use native.Mathlib.Omega.{arith}
use borrow.Author.Tests.{le-ltb, lt-ltb}
use lib.ListN.{length}
use Rattle.std.specs.Prelude.{Option, Some, None, Result, Ok, Err}
use Rattle.octets.specs.Octet.{octet, octets}
use Rattle.octets.specs.Answer.{accepted, refused, ◌then◌}
use Rattle.octets.specs.Filled.{done, leaving, room_for}
use Rattle.octets.specs.Told.{refusal_number, refusal_place, told}
use Rattle.octets.specs.declared.Refusal.{Refusal}
use Rattle.layout.specs.declared.Shape.{Shape}
use Rattle.parts.specs.declared.Parts.{Parts}
use Rattle.layout.specs.Container.{kind_at, parts_of}
use Rattle.layout.proofs.Exactly.{parts-exactly}
use Rattle.writing.specs.Write.{write_parts_of}
use Rattle.family.specs.Family.{read_in, rewrite_in, rewrite_of}
use Rattle.bicc.specs.Table.{call_shape_of, bicc}
use Rattle.bicc.specs.Read.{call_code_of, call_message, call_read_of}
use Rattle.bicc.specs.Write.{call_order_of, call_write_in, call_write_of, call_compact_in, call_compact_of}

pub code-four : (m : List ℕ) → 4 ≤ length m → octet m 0 + 256 * (octet m 1 + 256 * (octet m 2 + 256 * octet m 3)) ≡ call_code_of m
code-four [] h = absurd (omega arith)
code-four (a ∷ []) h = absurd (omega arith)
code-four (a ∷ b ∷ []) h = absurd (omega arith)
code-four (a ∷ b ∷ c ∷ []) h = absurd (omega arith)
code-four (a ∷ b ∷ c ∷ d ∷ r) h = omega arith

module _ (m : List ℕ) (k : ℕ) (r : Option Shape) (b : Result Parts Refusal) (kq : k ≡ kind_at m 4) (rq : r ≡ call_shape_of k) (bq : told b ≡ parts_of m 4 270 r) where
  whole : told b ≡ read_in bicc m
  whole = bq ∙ ap (parts_of m 4 270) (rq ∙ ap call_shape_of kq)

  pub read-long : (p : Parts) → b ≡ Ok p → 4 ≤ length m
  read-long p e = let f = (parts-exactly m 4 270 r p).0 (sym bq ∙ ap told e) in omega (arith, f.least)

  pub read-laid : (p : Parts) (c : ℕ) → b ≡ Ok p → c ≡ call_code_of m → accepted (record { code = c; kind = k; parts = p }) ≡ call_read_of m
  unfolding call_read_of
  read-laid p c e q =
      ap accepted (λ i. record { code = q i; kind = kq i; parts = p })
      ∙ ap (λ x. x then λ p. accepted (call_message m p)) (sym (ap told e) ∙ whole)

  pub read-broken : (why : Refusal) → b ≡ Err why → refused (refusal_number why) (refusal_place why) ≡ call_read_of m
  unfolding call_read_of
  read-broken why e = ap (λ x. x then λ p. accepted (call_message m p)) (sym (ap told e) ∙ whole)

module _ (code kind : ℕ) (fixed first second run buffer : List ℕ) where
  pub write-high : 255 < kind → leaving (refused 3 0) buffer ≡ call_write_of code kind fixed first second run buffer
  unfolding call_write_of call_write_in
  write-high k = rw (lt-ltb _ _ k) refl

  pub write-unknown : kind ≤ 255 → call_shape_of kind ≡ None → leaving (refused 3 0) buffer ≡ call_write_of code kind fixed first second run buffer
  unfolding call_write_of call_write_in
  write-unknown k e = rw (le-ltb _ _ k, e) refl

  pub write-has : kind ≤ 255 → (s : Shape) → call_shape_of kind ≡ Some s → write_parts_of s 270 (call_order_of code kind fixed first second run) buffer ≡ call_write_of code kind fixed first second run buffer
  unfolding call_write_of call_write_in write_parts_of
  write-has k s e = rw (le-ltb _ _ k, e) refl

pub compact-given : (m head buffer : List ℕ) (k : ℕ) (r : Option Shape) → k ≡ kind_at m 4 → r ≡ call_shape_of k → head ≡ octets m 0 4 → rewrite_of m 4 270 r head buffer ≡ call_compact_of m buffer
unfolding rewrite_of call_compact_of call_compact_in
compact-given m head buffer k r kq rq hq = let q : r ≡ call_shape_of (kind_at m 4) = rq ∙ ap call_shape_of kq in λ i. done buffer (rewrite_in m 4 270 (q i) (hq i) then room_for buffer)
