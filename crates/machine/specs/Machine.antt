-- A book as it comes, an octet at a time: what is awaited, what has come of
-- it, and the tables so far.
use Rattle.std.specs.Prelude.{ℕ, ◌+◌, ◌≤◌, ◌-◌, ◌<◌, List, [], ◌∷◌, ◌++◌, length, take, set, Bool, false, eqb, ltb, leb, ◌≡◌}
use Rattle.octets.specs.Octet.{octet}
use Rattle.octets.specs.Choice.{when◌then◌else◌}
use Rattle.book.specs.declared.Await.{Await}
use Rattle.book.specs.declared.Await.TheVariants.{SpanCount, Span, MessageCount, Head, Body, Done, Bad}
use Rattle.book.specs.declared.Place.{Place}
use Rattle.octets.specs.Applied.{spread}
use Rattle.book.specs.Awaits.{want_of, pair_at, spans_await_lem, entries_await_lem, bad_span_lem}
use Rattle.day.specs.Day.{Day, day, heard_in_lem, day_sized, Machine, machine}

-- the circuits of a span are the sender's
abbrev pub owned : ℕ → ℕ → ℕ → Day → Day
owned first last sender t =
    day (spread t.owners first last sender) t.rows t.accepted t.refused

-- what is awaited after a span, and the owners then
pub record Spanned : Type 0 where
  pub awaits : Await
  pub owners : List ℕ

-- both
abbrev pub spanned : Await → List ℕ → Spanned
spanned a owners = record { awaits = a; owners = owners }

-- a span that is bad ends the book, and the owners stay; of another the circuits
-- are the sender's, and the next is awaited
abbrev pub spanned_of : ℕ → ℕ → ℕ → ℕ → ℕ → List ℕ → Spanned
spanned_of left next first last sender owners =
    when bad_span_lem next first last sender then spanned Bad owners
    else spanned (spans_await_lem (left - 1) (last + 1)) (spread owners first last sender)

-- a span has come
abbrev pub span_come : ℕ → ℕ → ℕ → ℕ → ℕ → Day → Machine
span_come left next first last sender t =
    when bad_span_lem next first last sender then machine Bad [] t
    else machine (spans_await_lem (left - 1) (last + 1)) [] (owned first last sender t)

-- the head of a message has come; one with no octets has come whole
abbrev pub head_come : ℕ → ℕ → ℕ → Day → Machine
head_come left sender size t =
    when ltb 268 size then machine Bad [] t
    else (when eqb size 0 then machine (entries_await_lem (left - 1)) [] (heard_in_lem sender [] t) else machine (Body left sender size) [] t)

-- all that was awaited has come
unfoldable pub completed : Await → List ℕ → Day → Machine
completed SpanCount got t = machine (spans_await_lem (pair_at got 0) 0) [] t
completed (Span left next) got t = span_come left next (pair_at got 0) (pair_at got 2) (octet got 4) t
completed MessageCount got t = machine (entries_await_lem (pair_at got 0)) [] t
completed (Head left) got t = head_come left (octet got 0) (pair_at got 1) t
completed (Body left sender size) got t =
    machine (entries_await_lem (left - 1)) [] (heard_in_lem sender got t)
completed Done got t = machine Bad [] t
completed Bad got t = machine Bad [] t

-- fewer octets than are awaited are kept; as many are complete
abbrev pub gathered : Await → List ℕ → Day → Machine
gathered a got t = when ltb (length got) (want_of a) then machine a got t else completed a got t

-- one octet more
unfoldable pub step_of : Machine → ℕ → Machine
step_of m o = when eqb (want_of m.awaits) 0 then machine Bad [] m.day else gathered m.awaits (m.got ++ (o ∷ [])) m.day

-- octets one after the other
unfoldable pub feed_of : Machine → List ℕ → Machine
feed_of m [] = m
feed_of m (o ∷ os) = feed_of (step_of m o) os

-- ---- what the functions answer, for whatever they are lent
-- the machine that a place, a buffer and tables are: the octets that have
-- come stand at the buffer's front
abbrev pub machine_of : Place → List ℕ → Day → Machine
machine_of p buffer t = machine p.awaits (take p.held buffer) t

-- the octet goes behind those that have come, where one is awaited
abbrev pub stored_of : Machine → List ℕ → ℕ → List ℕ
stored_of m buffer o = when eqb (want_of m.awaits) 0 then buffer else set buffer (length m.got) o

-- the buffer after octets one after the other
unfoldable pub buffer_after : Machine → List ℕ → List ℕ → List ℕ
buffer_after m buffer [] = buffer
buffer_after m buffer (o ∷ os) = buffer_after (step_of m o) (stored_of m buffer o) os

-- the place of a machine
abbrev pub place_of : Machine → Place
place_of m = record { awaits = m.awaits; held = length m.got }

-- no book
abbrev pub nowhere : Place
nowhere = record { awaits = Bad; held = 0 }

-- what has come is less than what is awaited, and the buffer has room for that; where nothing is
-- awaited, nothing has come
abbrev pub fits_by : ℕ → ℕ → ℕ → Bool
fits_by held size room =
    when eqb size 0 then eqb held 0
    else (when ltb held size then (when ltb 268 size then false else leb 268 room) else false)

-- the same of a place
abbrev pub fits : Place → ℕ → Bool
fits p room = fits_by p.held (want_of p.awaits) room

-- all that a chunk leaves: the place, the buffer and the tables
pub record Fed : Type 0 where
  pub place : Place
  pub buffer : List ℕ
  pub day : Day

-- the three together
abbrev pub fed : Place → List ℕ → Day → Fed
fed p buffer t = record { place = p; buffer = buffer; day = t }

-- what machine m leaves of a buffer, once it has taken a chunk in
abbrev pub taken_in : Machine → List ℕ → List ℕ → Fed
taken_in m buffer chunk =
    fed (place_of (feed_of m chunk)) (buffer_after m buffer chunk) (feed_of m chunk).day

-- a chunk is taken in; tables or a buffer of other lengths, or a place that no
-- book has: no book, and all else is kept
abbrev pub fed_of : Place → List ℕ → Day → List ℕ → Fed
fed_of p buffer t chunk =
    when day_sized t
    then (when fits p (length buffer) then taken_in (machine_of p buffer t) buffer chunk
    else fed nowhere buffer t) else fed nowhere buffer t

-- as `fits` says it, with no test
pub record Ready (p : Place) (space : ℕ) : Type 0 where
  pub low : want_of p.awaits ≤ 268
  pub less : (want_of p.awaits ≡ 0 → ⊥) → p.held < want_of p.awaits
  pub room : (want_of p.awaits ≡ 0 → ⊥) → 268 ≤ space
  pub none : want_of p.awaits ≡ 0 → p.held ≡ 0
