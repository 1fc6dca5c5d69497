-- The paper's book, by computation.
use Prim.Native.Nat.{ℕ, zero, suc, ◌+◌, ◌%◌, ◌<◌}
use mathlib.Core.Path.{◌≡◌, refl, sym, ◌∙◌, ap, fun_ext}
use mathlib.Core.Bool.{Bool, true, false, not}
use mathlib.Core.List.{List, [], ◌∷◌, ◌++◌}
use native.Mathlib.Omega.{arith}
use lib.Dec.{eqb}
use lib.ListN.{set, replicate}
use Rattle.octets.specs.Octet.{octet, AllOctets}
use Rattle.octets.specs.Choice.{when◌then◌else◌}
use Rattle.layout.specs.Container.{variable_slot_lem, optional_slot_lem, container_of, parts_of}
use Rattle.parts.specs.Overlap.{shares_of, judged, held}
use Rattle.isup.specs.Table.{shape_of}
use Rattle.isup.specs.Read.{read_of}
use Rattle.rows.specs.Rows.{is_legal, blocked_row, changed_row}
use Rattle.asks.specs.Types.{act_for}
use Rattle.asks.specs.Asks.{asked_in, ask_of, mark_of}
use Rattle.rights.specs.Rights.{may_help, first_not}
use Rattle.hub.specs.Replies.{status_in, reply_of}
use Rattle.rights.specs.Permits.{is_unhelpable, permitted_of}
use Rattle.hub.specs.Acts.{allowed_of, grant_of, act_of}
use Rattle.octets.specs.Applied.{applied}
use Rattle.words.specs.Said.{said}
use Rattle.printing.specs.Shown.{decimal_in}
use Rattle.octets.proofs.Octet.{zero-at}
use Rattle.book.specs.Book.{Book, book_octets, spans_octets, entries_octets, Good}
use Rattle.day.specs.Hub.{unhelped, Rows, at_first_lem, busy_at_lem, Heard, heard_of}
use Rattle.day.specs.Day.{nobody, start}
use Rattle.tallies.specs.Lines.{tally, four_numbers, lines_from, sums_from, lines_for}
use Rattle.tallies.specs.Reports.{busy_of_lem, text}
use Rattle.machine.specs.Replay.{owners_from, owners_of, outcomes, rows_at_end, count, tally_of, lines_of}
use Rattle.machine.specs.Machine.{feed_of}
use Rattle.machine.proofs.Counts.{one}
use Rattle.machine.proofs.Replays.{book-replayed}
use Rattle.tallies.specs.declared.Tally.{Tally}

abbrev pub sample_book : Book
sample_book = record {
  spans = record { first = 1; last = 4; sender = 7 } ∷ [];
  entries = record { sender = 7; message = 0x02 ∷ 0x00 ∷ 0x13 ∷ [] } ∷ [];
}

abbrev pub sample : List ℕ
sample = 0x01 ∷ 0x00 ∷ 0x01 ∷ 0x00 ∷ 0x04 ∷ 0x00 ∷ 0x07 ∷ 0x01 ∷ 0x00 ∷ 0x07 ∷ 0x03 ∷ 0x00 ∷ 0x02 ∷ 0x00 ∷ 0x13 ∷ []

sample-octets : book_octets sample_book ≡ sample
unfolding book_octets spans_octets entries_octets
sample-octets = refl

octets-more : (x : ℕ) (xs : List ℕ) → x < 256 → AllOctets xs → AllOctets (x ∷ xs)
octets-more x xs h o zero = h
octets-more x xs h o (suc i) = o i

sample-good : Good sample_book
sample-good = record {
  span_count = omega arith;
  entry_count = omega arith;
  spans = (record { above = omega arith; upwards = omega arith; circuits = omega arith; somebody = omega arith; one = omega arith }, tt);
  entries = (record { one = omega arith; short = omega arith; octets = octets-more 2 (0 ∷ 19 ∷ []) (omega arith) (octets-more 0 (19 ∷ []) (omega arith) (octets-more 19 [] (omega arith) (λ i. omega arith))) }, tt);
}

abbrev rows_then : Rows
rows_then = set at_first_lem 2 2

-- BLO on circuit 2, which is 7's
sample-heard : heard_of (owners_of sample_book) at_first_lem 7 (0x02 ∷ 0x00 ∷ 0x13 ∷ []) ≡ record { rows = rows_then; taken = true }
unfolding owners_from nobody at_first_lem unhelped heard_of act_of grant_of allowed_of permitted_of is_unhelpable may_help first_not is_legal reply_of status_in applied changed_row blocked_row mark_of ask_of asked_in act_for read_of parts_of container_of variable_slot_lem optional_slot_lem judged shares_of shape_of held
sample-heard = refl

-- no circuit is busy
even : (l : List ℕ) → ((i : ℕ) → octet l i % 2 ≡ 0) → (i k : ℕ) → octet (set l k 2) i % 2 ≡ 0
even [] h i k = refl
even (x ∷ l) h zero zero = refl
even (x ∷ l) h (suc i) zero = h (suc i)
even (x ∷ l) h zero (suc k) = h zero
even (x ∷ l) h (suc i) (suc k) = even l (λ j. h (suc j)) i k

rows-even : (i : ℕ) → busy_at_lem rows_then i ≡ 0
unfolding at_first_lem
rows-even i = even (replicate 4096 0) (λ j. ap (λ n. n % 2) (zero-at 4096 j)) i 2

pub none-busy : (owners : List ℕ) (rows : Rows) (q c n : ℕ) → ((i : ℕ) → busy_at_lem rows i ≡ 0) → busy_of_lem owners rows q c n ≡ 0
unfolding busy_of_lem
none-busy owners rows q c zero h = refl
none-busy owners rows q c (suc n) h =
    go (eqb (octet owners c) q) (none-busy owners rows q (suc c) n h)
  where
    go : (b : Bool) → busy_of_lem owners rows q (suc c) n ≡ 0 → (when b then busy_at_lem rows c else 0) + busy_of_lem owners rows q (suc c) n ≡ 0
    go true e = omega (arith, h c)
    go false e = omega arith

abbrev sample_tally : ℕ → Tally
sample_tally q = tally (one (eqb 7 q) + 0) (one (when eqb 7 q then true else false) + 0) (one (when eqb 7 q then false else false) + 0) 0

sample-tally : (q : ℕ) → tally_of sample_book q ≡ sample_tally q
unfolding count outcomes rows_at_end
sample-tally q = λ i. tally (one (eqb 7 q) + 0) (one (when eqb 7 q then (sample-heard i).taken else false) + 0) (one (when eqb 7 q then not (sample-heard i).taken else false) + 0) (sample-busy i)
  where
    sample-busy : busy_of_lem (owners_of sample_book) (heard_of (owners_of sample_book) at_first_lem 7 (0x02 ∷ 0x00 ∷ 0x13 ∷ [])).rows q 0 4096 ≡ 0
    sample-busy = ap (λ (h : Heard). busy_of_lem (owners_of sample_book) h.rows q 0 4096) sample-heard ∙ none-busy (owners_of sample_book) rows_then q 0 4096 rows-even

sample-said : lines_for sample_tally ≡ said "7 1 1 0 0" ++ (10 ∷ (said "all 1 1 0 0" ++ (10 ∷ [])))
unfolding lines_for lines_from sums_from four_numbers decimal_in
sample-said = refl

sample-lines : lines_of sample_book ≡ said "7 1 1 0 0" ++ (10 ∷ (said "all 1 1 0 0" ++ (10 ∷ [])))
sample-lines = ap lines_for (fun_ext sample-tally) ∙ sample-said

pub sample-replayed : text (feed_of start sample) ≡ said "7 1 1 0 0" ++ (10 ∷ (said "all 1 1 0 0" ++ (10 ∷ [])))
sample-replayed = ap (λ (xs : List ℕ). text (feed_of start xs)) (sym sample-octets) ∙ book-replayed sample_book sample-good ∙ sample-lines
