-- A good book's octets give exactly its lines: every number equals its count over the replay.
use Prim.Native.Nat.{ℕ, ◌+◌, ◌≤◌}
use mathlib.Core.Path.{◌≡◌, ◌∙◌, ap, fun_ext}
use native.Mathlib.Omega.{arith}
use Rattle.octets.specs.Octet.{octet}
use Rattle.book.specs.Book.{Recorded, Book, book_octets, Good}
use Rattle.day.specs.Hub.{at_first_lem}
use Rattle.day.specs.Day.{day, zeros, start, Machine}
use Rattle.tallies.specs.Lines.{tally, lines_for}
use Rattle.tallies.specs.Reports.{busy_of_lem, tally_in_lem, text_of, text}
use Rattle.machine.specs.Replay.{owners_of, outcomes, count, comes_from, accepted_from, refused_from, tally_of, lines_of}
use Rattle.machine.specs.Machine.{feed_of}
use Rattle.machine.proofs.Forward.{replayed, feed-book}
use Rattle.machine.proofs.Counts.{one-most, Replays, replays, all-counted, counters-at, counters-long}
use mathlib.Core.List.{List, [], ◌∷◌}
use lib.ListN.{length}
use Rattle.tallies.specs.declared.Tally.{Tally}
use lib.Dec.{eqb}

same-tally : (b : Book) → Good b → (q : ℕ) → tally_in_lem (replayed b) q ≡ tally_of b q
same-tally b g q =
    let t = day (owners_of b) at_first_lem zeros zeros in
    let z = counters-at q in
    let l = counters-long in
    let r : Replays b.entries t (replayed b) q = replays b.entries t q g.entries (record { wide = omega arith; long = omega arith; accepted = omega (arith, g.entry_count); refused = omega (arith, g.entry_count) }) in
    let a : octet (replayed b).accepted q ≡ count (accepted_from q) (outcomes (owners_of b) at_first_lem b.entries) = omega (arith, r.accepted) in
    let d : octet (replayed b).refused q ≡ count (refused_from q) (outcomes (owners_of b) at_first_lem b.entries) = omega (arith, r.refused) in
    let e : octet (replayed b).accepted q + octet (replayed b).refused q ≡ count (comes_from q) b.entries = omega (arith, all-counted b.entries (owners_of b) at_first_lem q) in
    λ i. tally (e i) (a i) (d i) (busy_of_lem (r.owners i) (r.rows i) q 0 4096)

pub book-replayed : (b : Book) → Good b → text (feed_of start (book_octets b)) ≡ lines_of b
unfolding text_of
book-replayed b g = ap text (feed-book b g) ∙ ap lines_for (fun_ext (same-tally b g))

-- the counters never wrap: at the end of a good book each is the count over the replay itself, and
-- all of them together are at most 65535
count_most : (q : ℕ) (ss : List Recorded) → count (comes_from q) ss ≤ length ss
unfolding count
count_most q [] = omega arith
count_most q (s ∷ ss) = omega (arith, one-most (eqb s.sender q), count_most q ss)

pub never-wraps : (b : Book) → Good b → (q : ℕ)
    → (octet (feed_of start (book_octets b)).day.accepted q ≡ (tally_of b q).accepted)
    × (octet (feed_of start (book_octets b)).day.refused q ≡ (tally_of b q).refused)
    × ((tally_of b q).accepted + (tally_of b q).refused ≤ 65535)
never-wraps b g q =
    let e = feed-book b g in
    let s = same-tally b g q in (
      ap (λ (m : Machine). octet m.day.accepted q) e ∙ ap (λ (t : Tally). t.accepted) s,
      ap (λ (m : Machine). octet m.day.refused q) e ∙ ap (λ (t : Tally). t.refused) s,
      omega (arith, all-counted b.entries (owners_of b) at_first_lem q, count_most q b.entries, g.entry_count),
    )
