-- The functions from what their calls ensure, over plain variables.
use Prim.Native.Nat.{ℕ, ◌≤◌, ◌<◌}
use mathlib.Core.Path.{◌≡◌, refl, sym, ◌∙◌, ap}
use mathlib.Core.List.{List, []}
use borrow.Author.Tests.{le-ltb, lt-ltb}
use Rattle.std.specs.Prelude.{Option, Some, None, Result, Ok, Err}
use Rattle.octets.specs.Answer.{accepted, refused, ◌then◌}
use Rattle.octets.specs.Filled.{done, leaving, room_for}
use Rattle.octets.specs.Told.{refusal_number, refusal_place, told}
use Rattle.octets.specs.declared.Refusal.{Refusal}
use Rattle.layout.specs.declared.Shape.{Shape}
use Rattle.parts.specs.declared.Parts.{Parts}
use Rattle.layout.specs.Container.{kind_at, parts_of}
use Rattle.writing.specs.Write.{write_parts_of}
use Rattle.family.specs.Family.{read_in, rewrite_in, rewrite_of}
use Rattle.sccp.specs.Table.{sccp_shape_of, sccp}
use Rattle.sccp.specs.Read.{sccp_message, sccp_read_of}
use Rattle.sccp.specs.Write.{sccp_order_of, sccp_write_in, sccp_write_of, sccp_compact_in, sccp_compact_of}

module _ (m : List ℕ) (k : ℕ) (r : Option Shape) (b : Result Parts Refusal) (kq : k ≡ kind_at m 0) (rq : r ≡ sccp_shape_of k) (bq : told b ≡ parts_of m 0 268 r) where
  whole : told b ≡ read_in sccp m
  whole = bq ∙ ap (parts_of m 0 268) (rq ∙ ap sccp_shape_of kq)

  pub read-laid : (p : Parts) → b ≡ Ok p → accepted (record { kind = k; parts = p }) ≡ sccp_read_of m
  unfolding sccp_read_of
  read-laid p e =
      ap accepted (λ i. record { kind = kq i; parts = p })
      ∙ ap (λ x. x then λ p. accepted (sccp_message m p)) (sym (ap told e) ∙ whole)

  pub read-broken : (why : Refusal) → b ≡ Err why → refused (refusal_number why) (refusal_place why) ≡ sccp_read_of m
  unfolding sccp_read_of
  read-broken why e = ap (λ x. x then λ p. accepted (sccp_message m p)) (sym (ap told e) ∙ whole)

module _ (kind : ℕ) (fixed first second third run buffer : List ℕ) where
  pub write-high : 255 < kind → leaving (refused 3 0) buffer ≡ sccp_write_of kind fixed first second third run buffer
  unfolding sccp_write_of sccp_write_in
  write-high k = rw (lt-ltb _ _ k) refl

  pub write-unknown : kind ≤ 255 → sccp_shape_of kind ≡ None → leaving (refused 3 0) buffer ≡ sccp_write_of kind fixed first second third run buffer
  unfolding sccp_write_of sccp_write_in
  write-unknown k e = rw (le-ltb _ _ k, e) refl

  pub write-has : kind ≤ 255 → (s : Shape) → sccp_shape_of kind ≡ Some s → write_parts_of s 268 (sccp_order_of kind fixed first second third run) buffer ≡ sccp_write_of kind fixed first second third run buffer
  unfolding sccp_write_of sccp_write_in write_parts_of
  write-has k s e = rw (le-ltb _ _ k, e) refl

pub compact-given : (m buffer : List ℕ) (k : ℕ) (r : Option Shape) → k ≡ kind_at m 0 → r ≡ sccp_shape_of k → rewrite_of m 0 268 r [] buffer ≡ sccp_compact_of m buffer
unfolding rewrite_of sccp_compact_of sccp_compact_in
compact-given m buffer k r kq rq = let q : r ≡ sccp_shape_of (kind_at m 0) = rq ∙ ap sccp_shape_of kq in λ i. done buffer (rewrite_in m 0 268 (q i) [] then room_for buffer)
