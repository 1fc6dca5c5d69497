-- Any two answers that the contract of `feed` allows are one, and what it is lent holds the same
-- octets afterwards. What the three functions come to, in turn.
use Prim.Native.Nat.{ℕ}
use mathlib.Core.Path.{◌≡◌, sym, ◌∙◌, ap}
use mathlib.Core.Bool.{false}
use mathlib.Core.List.{List}
use mathlib.Core.Logic.{◌⊎◌, ⊎_elim}
use lib.ListN.{length}
use Rattle.octets.specs.Octet.{AllOctets}
use Rattle.octets.proofs.Answer.{one_answer}
use Rattle.octets.proofs.Choice.{decided}
use Rattle.book.specs.declared.Place.{Place}
use Rattle.book.specs.Book.{Book, book_octets, Good}
use Rattle.day.specs.Day.{Day, day_sized}
use Rattle.tallies.specs.Reports.{no_book, report_of}
use Rattle.machine.specs.Replay.{lines_of}
use Rattle.machine.specs.Machine.{nowhere, fits, Fed, fed, fed_of}
use Rattle.machine.proofs.Replays.{book-replayed}
use Rattle.machine.proofs.Backward.{refused-otherwise}
use Rattle.machine.proofs.Told.{feed-unsized, feed-unfit}
use Rattle.machine.proofs.Runs.{InChunks, run-reports}

pub feed-determined : (p : Place) (buffer : List ℕ) (t : Day) (chunk : List ℕ) {r s : Place} {a b : List ℕ} {u v : Day} → fed r a u ≡ fed_of p buffer t chunk → fed s b v ≡ fed_of p buffer t chunk → (r ≡ s) × (a ≡ b) × (u ≡ v)
feed-determined p buffer t chunk x y =
    let e = one_answer x y in
    (ap (λ (z : Fed). z.place) e, ap (λ (z : Fed). z.buffer) e, ap (λ (z : Fed). z.day) e)

-- tables or a buffer of other lengths, or a place that no book has: all that
-- was lent is kept, and there is no book
pub feed-keeps : (p : Place) (buffer : List ℕ) (t : Day) (chunk : List ℕ) → (day_sized t ≡ false) ⊎ (fits p (length buffer) ≡ false) → fed_of p buffer t chunk ≡ fed nowhere buffer t
feed-keeps p buffer t chunk h =
    ⊎_elim
    (λ e. sym (feed-unsized p buffer t chunk e))
    (λ f. ⊎_elim (λ e. sym (feed-unfit p buffer t chunk e f)) (λ e. sym (feed-unsized p buffer t chunk e)) (decided (day_sized t)))
    h

-- ---- the three functions in turn
pub good-reported : {p : Place} {buffer : List ℕ} {t : Day} (b : Book) → Good b → InChunks p buffer t (book_octets b) → report_of p t ≡ lines_of b
good-reported b g x = run-reports x ∙ book-replayed b g

pub others-reported : {p : Place} {buffer : List ℕ} {t : Day} {xs : List ℕ} → AllOctets xs → ((b : Book) → Good b → book_octets b ≡ xs → ⊥) → InChunks p buffer t xs → report_of p t ≡ no_book
others-reported {xs = xs} o n x = run-reports x ∙ refused-otherwise xs o n
