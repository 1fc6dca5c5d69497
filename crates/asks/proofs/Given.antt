-- What a message asks, from what the reader answers.
use Prim.Native.Nat.{ℕ, ◌+◌, ◌-◌, ◌≤◌, ◌<◌}
use mathlib.Core.Path.{◌≡◌, sym, ◌∙◌, ap}
use mathlib.Core.Bool.{true, false}
use mathlib.Core.List.{List}
use native.Mathlib.Omega.{arith}
use borrow.Author.Tests.{lt-ltb, le-ltb}
use lib.Dec.{ltb}
use lib.ListN.{take, drop}
use Rattle.std.specs.Prelude.{Result, Ok, Err}
use Rattle.octets.specs.Answer.{accepted, refused, ◌then◌}
use Rattle.octets.specs.Told.{refusal_number, refusal_place, told}
use Rattle.octets.specs.declared.Refusal.{Refusal}
use Rattle.parts.specs.declared.Span.{Span}
use Rattle.parts.specs.Spans.{span_size}
use Rattle.marks.specs.Marks.{marks_in_lem}
use Rattle.isup.specs.declared.Message.{Message}
use Rattle.isup.specs.Read.{read_of}
use Rattle.asks.specs.Asks.{range_in, width, group_status, asked_in, ask_of}

module _ (m : List ℕ) (y : Result Message Refusal) (e : told y ≡ read_of m) where
  pub read-refused : (why : Refusal) → y ≡ Err why → refused (refusal_number why) (refusal_place why) ≡ ask_of m
  unfolding ask_of
  read-refused why f = ap (λ z. z then asked_in m) (sym (ap told f) ∙ e)

  pub read-message : (x : Message) → y ≡ Ok x → read_of m ≡ accepted x
  read-message x f = sym e ∙ ap told f

  pub read_asked : (x : Message) → y ≡ Ok x → asked_in m x ≡ ask_of m
  unfolding ask_of
  read_asked x f = ap (λ z. z then asked_in m) (sym (ap told f) ∙ e)

-- the marks of the status that is handed on are those of the contents
module _ (m : List ℕ) (contents : Span) (n : ℕ) (e : span_size contents ≡ 1 + width (range_in m contents))
    (q : n ≡ marks_in_lem (range_in m contents) (take (contents.to - (contents.from + 1)) (drop (contents.from + 1) m))) where
  marks-same : n ≡ marks_in_lem (range_in m contents) (group_status m contents)
  marks-same =
      let w : contents.to - (contents.from + 1) ≡ width (range_in m contents) = omega (arith, e) in
      q ∙ ap (λ (k : ℕ). marks_in_lem (range_in m contents) (take k (drop (contents.from + 1) m))) w

  pub marks-over : 32 < n → ltb 32 (marks_in_lem (range_in m contents) (group_status m contents)) ≡ true
  marks-over h = lt-ltb 32 (marks_in_lem (range_in m contents) (group_status m contents)) (omega (arith, marks-same))

  pub marks-under : n ≤ 32 → ltb 32 (marks_in_lem (range_in m contents) (group_status m contents)) ≡ false
  marks-under h = le-ltb 32 (marks_in_lem (range_in m contents) (group_status m contents)) (omega (arith, marks-same))
