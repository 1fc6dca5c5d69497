-- What the functions' steps come to, for their proofs.
use Prim.Native.Nat.{ℕ, suc, ◌+◌, ◌-◌, ◌*◌, ◌<◌, ◌≤◌}
use mathlib.Core.Path.{◌≡◌, refl, sym, ◌∙◌, ap}
use mathlib.Core.Bool.{Bool, true, false}
use mathlib.Core.List.{List, [], ◌∷◌, ◌++◌}
use native.Mathlib.Omega.{arith}
use native.Mathlib.Decide.{dec_lt}
use native.Mathlib.Numerals.{add-one}
use borrow.Author.Tests.{lt-ltb, le-ltb, eq-eqb, ne_eqb, ltb-true, ltb-false, leb-true, eqb-true, eqb-false}
use lib.Dec.{ltb, leb, eqb}
use lib.ListN.{length, take, drop, set, drop_of_length-le}
use lib.Seq.{get_or-take, take-suc-set, length-take-le, drop-cons}
use Rattle.octets.specs.Octet.{octet}
use Rattle.octets.specs.Choice.{when◌then◌else◌}
use Rattle.hub.specs.Acts.{after}
use Rattle.book.specs.declared.Await.{Await}
use Rattle.book.specs.declared.Await.TheVariants.{SpanCount, Span, MessageCount, Head, Body, Done, Bad}
use Rattle.book.specs.declared.Place.{Place}
use Rattle.octets.specs.Applied.{spread}
use Rattle.book.specs.Awaits.{want_of, pair_at, spans_await_lem, entries_await_lem, bad_span_lem}
use Rattle.day.specs.Day.{Day, day, Machine, machine, heard_in_lem, day_sized}
use Rattle.machine.specs.Machine.{Spanned, spanned, spanned_of, span_come, head_come, completed, step_of, feed_of, machine_of, fits_by, fits, fed_of, Ready, stored_of, buffer_after, place_of, nowhere, fed, taken_in}
use Rattle.machine.proofs.Feeding.{step-over, step-more, step-last}

-- ---- a span
pub span-refused : (left next first last sender : ℕ) (owners : List ℕ) → bad_span_lem next first last sender ≡ true → spanned Bad owners ≡ spanned_of left next first last sender owners
span-refused left next first last sender owners e = ap (λ (b : Bool). when b then spanned Bad owners else spanned (spans_await_lem (left - 1) (last + 1)) (spread owners first last sender)) (sym e)

pub span-owned : (left next first last sender : ℕ) (owners : List ℕ) {r : Await} {k : ℕ} {after : List ℕ} → bad_span_lem next first last sender ≡ false → k ≡ left - 1 → r ≡ spans_await_lem k (last + 1) → after ≡ spread owners first last sender → spanned r after ≡ spanned_of left next first last sender owners
span-owned left next first last sender owners e p q a =
    (λ i. spanned ((q ∙ ap (λ (k : ℕ). spans_await_lem k (last + 1)) p) i) (a i))
    ∙ ap (λ (b : Bool). when b then spanned Bad owners else spanned (spans_await_lem (left - 1) (last + 1)) (spread owners first last sender)) (sym e)

span-machine : (left next first last sender : ℕ) (t : Day) {r : Await} {after : List ℕ} → spanned r after ≡ spanned_of left next first last sender t.owners → machine r [] (day after t.rows t.accepted t.refused) ≡ span_come left next first last sender t
span-machine left next first last sender t {r} {after} e =
    ap (λ (s : Spanned). machine s.awaits [] (day s.owners t.rows t.accepted t.refused)) e ∙ go (bad_span_lem next first last sender)
  where
    go : (b : Bool) → (let s = when b then spanned Bad t.owners else spanned (spans_await_lem (left - 1) (last + 1)) (spread t.owners first last sender) in machine s.awaits [] (day s.owners t.rows t.accepted t.refused)) ≡ (when b then machine Bad [] t else machine (spans_await_lem (left - 1) (last + 1)) [] (day (spread t.owners first last sender) t.rows t.accepted t.refused))
    go true = refl
    go false = refl

-- ---- the head of a message
pub head-long : (left sender size : ℕ) (t : Day) → 268 < size → machine Bad [] t ≡ head_come left sender size t
head-long left sender size t h = rw (lt-ltb 268 size h)

pub head-none : (left sender size : ℕ) (t : Day) (m : List ℕ) {k : ℕ} {r : Await} {u : Day} → size ≤ 268 → size ≡ 0 → u ≡ heard_in_lem sender m t → m ≡ [] → k ≡ left - 1 → r ≡ entries_await_lem k → machine r [] u ≡ head_come left sender size t
head-none left sender size t m h z e n p q =
    (λ i. machine ((q ∙ ap entries_await_lem p) i) [] ((e ∙ ap (λ (l : List ℕ). heard_in_lem sender l t) n) i)) ∙ rw (le-ltb 268 size h, eq-eqb size 0 z)

pub head-body : (left sender size : ℕ) (t : Day) → size ≤ 268 → (size ≡ 0 → ⊥) → machine (Body left sender size) [] t ≡ head_come left sender size t
head-body left sender size t h z = rw (le-ltb 268 size h, ne_eqb size 0 z)

-- ---- all that was awaited, at the front of a buffer
module _ (buffer : List ℕ) (t : Day) where
  -- of any kind, once its kind is known
  pub come : {a b : Await} {m : Machine} → a ≡ b → m ≡ completed b (take (want_of b) buffer) t → m ≡ completed a (take (want_of a) buffer) t
  come p e = e ∙ (λ i. completed (sym p i) (take (want_of (sym p i)) buffer) t)

  pub come-span-count : {n : ℕ} {r : Await} → n ≡ octet buffer 0 + 256 * octet buffer 1 → r ≡ spans_await_lem n 0 → machine r [] t ≡ completed SpanCount (take 2 buffer) t
  unfolding completed
  come-span-count e p = rw (get_or-take 2 buffer 0 0 (omega arith), get_or-take 2 buffer 1 0 (omega arith)) (λ i. machine ((p ∙ ap (λ (k : ℕ). spans_await_lem k 0) e) i) [] t)

  pub come-entry-count : {n : ℕ} {r : Await} → n ≡ octet buffer 0 + 256 * octet buffer 1 → r ≡ entries_await_lem n → machine r [] t ≡ completed MessageCount (take 2 buffer) t
  unfolding completed
  come-entry-count e p = rw (get_or-take 2 buffer 0 0 (omega arith), get_or-take 2 buffer 1 0 (omega arith)) (λ i. machine ((p ∙ ap entries_await_lem e) i) [] t)

  pub come-span : (left next : ℕ) {first last : ℕ} {r : Await} {after : List ℕ} → first ≡ octet buffer 0 + 256 * octet buffer 1 → last ≡ octet buffer 2 + 256 * octet buffer 3 → spanned r after ≡ spanned_of left next first last (octet buffer 4) t.owners → machine r [] (day after t.rows t.accepted t.refused) ≡ completed (Span left next) (take 5 buffer) t
  unfolding completed
  come-span left next {first} {last} e f p =
      rw (get_or-take 5 buffer 0 0 (omega arith), get_or-take 5 buffer 1 0 (omega arith), get_or-take 5 buffer 2 0 (omega arith), get_or-take 5 buffer 3 0 (omega arith), get_or-take 5 buffer 4 0 (omega arith))
      (span-machine left next first last (octet buffer 4) t p ∙ (λ i. span_come left next (e i) (f i) (octet buffer 4) t))

  pub come-head : (left : ℕ) {size : ℕ} {m : Machine} → size ≡ octet buffer 1 + 256 * octet buffer 2 → m ≡ head_come left (octet buffer 0) size t → m ≡ completed (Head left) (take 3 buffer) t
  unfolding completed
  come-head left e p =
      rw (get_or-take 3 buffer 0 0 (omega arith), get_or-take 3 buffer 1 0 (omega arith), get_or-take 3 buffer 2 0 (omega arith))
      (p ∙ (λ i. head_come left (octet buffer 0) (e i) t))

  pub come-body : (left sender size : ℕ) {k : ℕ} {r : Await} {u : Day} → u ≡ heard_in_lem sender (take size buffer) t → k ≡ left - 1 → r ≡ entries_await_lem k → machine r [] u ≡ completed (Body left sender size) (take size buffer) t
  unfolding completed
  come-body left sender size e p q = λ i. machine ((q ∙ ap entries_await_lem p) i) [] (e i)

  pub come-done : machine Bad [] t ≡ completed Done (take 0 buffer) t
  unfolding completed
  come-done = refl

  pub come-bad : machine Bad [] t ≡ completed Bad (take 0 buffer) t
  unfolding completed
  come-bad = refl

-- ---- what is awaited then is never more than 268 octets
spans-low : (n next : ℕ) → want_of (spans_await_lem n next) ≤ 268
spans-low n next = go (eqb n 0)
  where
    go : (b : Bool) → want_of (when b then MessageCount else Span n next) ≤ 268
    go true = omega arith
    go false = omega arith

entries-low : (n : ℕ) → want_of (entries_await_lem n) ≤ 268
entries-low n = go (eqb n 0)
  where
    go : (b : Bool) → want_of (when b then Done else Head n) ≤ 268
    go true = omega arith
    go false = omega arith

span-low : (left next first last sender : ℕ) (t : Day) → want_of (span_come left next first last sender t).awaits ≤ 268
span-low left next first last sender t = go (bad_span_lem next first last sender)
  where
    go : (b : Bool) → want_of (when b then machine Bad [] t else machine (spans_await_lem (left - 1) (last + 1)) [] (day (spread t.owners first last sender) t.rows t.accepted t.refused)).awaits ≤ 268
    go true = omega arith
    go false = spans-low (left - 1) (last + 1)

head-low : (left sender size : ℕ) (t : Day) → want_of (head_come left sender size t).awaits ≤ 268
head-low left sender size t = go (ltb 268 size) refl (eqb size 0)
  where
    go : (b : Bool) → ltb 268 size ≡ b → (c : Bool) → want_of (when b then machine Bad [] t else (when c then machine (entries_await_lem (left - 1)) [] (heard_in_lem sender [] t) else machine (Body left sender size) [] t)).awaits ≤ 268
    go true e c = omega arith
    go false e true = entries-low (left - 1)
    go false e false = ltb-false 268 size e

pub completed-low : (a : Await) (got : List ℕ) (t : Day) → want_of (completed a got t).awaits ≤ 268
unfolding completed
completed-low SpanCount got t = spans-low (pair_at got 0) 0
completed-low (Span left next) got t = span-low left next (pair_at got 0) (pair_at got 2) (octet got 4) t
completed-low MessageCount got t = entries-low (pair_at got 0)
completed-low (Head left) got t = head-low left (octet got 0) (pair_at got 1) t
completed-low (Body left sender size) got t = entries-low (left - 1)
completed-low Done got t = omega arith
completed-low Bad got t = omega arith

-- ---- an octet
abbrev placed : Await → ℕ → Place
placed a n = record { awaits = a; held = n }

pub bad-ready : (space : ℕ) → Ready (placed Bad 0) space
bad-ready space = record { low = omega arith; less = λ n. absurd (n refl); room = λ n. absurd (n refl); none = λ e. refl }

pub ready_at : {p : Place} {space : ℕ} → Ready p space → (want_of p.awaits ≡ 0 → ⊥) → (p.held < want_of p.awaits) × (want_of p.awaits ≤ 268) × (268 ≤ space)
ready_at r n = (r.less n, r.low, r.room n)

pub step-none : (a : Await) (held : ℕ) (buffer : List ℕ) (t : Day) (o : ℕ) → want_of a ≡ 0 → machine Bad [] t ≡ step_of (machine_of (placed a held) buffer t) o
step-none a held buffer t o e = sym (step-over a (take held buffer) t o e)

-- it is stored behind those that have come
stored : (buffer : List ℕ) (held k o : ℕ) → held < length buffer → k ≡ suc held → take k (set buffer held o) ≡ take held buffer ++ (o ∷ [])
stored buffer held k o h e = rw e (take-suc-set buffer held o h)

pub step_kept : (a : Await) (held : ℕ) (buffer : List ℕ) (t : Day) (o : ℕ) → held < length buffer → held + 1 < want_of a → machine_of (placed a (held + 1)) (set buffer held o) t ≡ step_of (machine_of (placed a held) buffer t) o
step_kept a held buffer t o h l =
    let n : length (take held buffer) ≡ held = length-take-le held buffer (omega arith) in
    ap (λ (got : List ℕ). machine a got t) (stored buffer held (held + 1) o h (add-one held))
    ∙ sym (step-more a (take held buffer) t o (omega arith))

pub kept-ready : (a : Await) (held : ℕ) (space more : ℕ) → Ready (placed a held) space → space ≡ more → held + 1 < want_of a → Ready (placed a (held + 1)) more
kept-ready a held space more r e l = record { low = r.low; less = λ n. l; room = λ n. omega (arith, r.room n); none = λ e. absurd (omega (arith, l, e)) }

pub step-come : (a : Await) (held : ℕ) (buffer : List ℕ) (t : Day) (o : ℕ) {m : Machine} → held < length buffer → held < want_of a → want_of a ≤ held + 1 → m ≡ completed a (take (want_of a) (set buffer held o)) t → m ≡ step_of (machine_of (placed a held) buffer t) o
step-come a held buffer t o h k l e =
    let n : length (take held buffer) ≡ held = length-take-le held buffer (omega arith) in
    e
    ∙ ap (λ (got : List ℕ). completed a got t) (stored buffer held (want_of a) o h (omega arith))
    ∙ sym (step-last a (take held buffer) t o (omega arith))

pub come-ready : (a : Await) (got : List ℕ) (t u : Day) {r : Await} (space : ℕ) → 268 ≤ space → machine r [] u ≡ completed a got t → Ready (placed r 0) space
come-ready a got t u {r} space h e =
    let l : want_of r ≤ 268 = (let q : want_of r ≡ want_of (completed a got t).awaits = ap (λ (m : Machine). want_of m.awaits) e in omega (arith, completed-low a got t)) in
    record { low = l; less = λ n. omega (arith, n); room = λ n. h; none = λ n. refl }

pub fits-by : (p : Place) (space : ℕ) {size : ℕ} → size ≡ want_of p.awaits → fits_by p.held size space ≡ fits p space
fits-by p space e = ap (λ (n : ℕ). fits_by p.held n space) e

pub fits-ready : (p : Place) (space : ℕ) → fits p space ≡ true → Ready p space
fits-ready p space e = go (eqb (want_of p.awaits) 0) refl (ltb p.held (want_of p.awaits)) refl (ltb 268 (want_of p.awaits)) refl e
  where
    go : (x : Bool) → eqb (want_of p.awaits) 0 ≡ x → (y : Bool) → ltb p.held (want_of p.awaits) ≡ y → (z : Bool) → ltb 268 (want_of p.awaits) ≡ z → (when x then eqb p.held 0 else (when y then (when z then false else leb 268 space) else false)) ≡ true → Ready p space
    go true a y b z f h = let w = eqb-true (want_of p.awaits) 0 a in record { low = omega arith; less = λ n. absurd (n w); room = λ n. absurd (n w); none = λ n. eqb-true p.held 0 h }
    go false a false b z f h = absurd (let n : ◌≡◌ {A = ℕ} 0 1 = cc in omega arith)
    go false a true b true f h = absurd (let n : ◌≡◌ {A = ℕ} 0 1 = cc in omega arith)
    go false a true b false f h = record { low = ltb-false 268 (want_of p.awaits) f; less = λ n. ltb-true p.held (want_of p.awaits) b; room = λ n. leb-true 268 space h; none = λ n. absurd (eqb-false (want_of p.awaits) 0 a n) }

-- ---- the buffer
pub stored-none : (a : Await) (held : ℕ) (buffer : List ℕ) (t : Day) (o : ℕ) → want_of a ≡ 0 → buffer ≡ stored_of (machine_of (placed a held) buffer t) buffer o
stored-none a held buffer t o e = rw (eq-eqb (want_of a) 0 e)

pub stored_one : (a : Await) (held : ℕ) (buffer : List ℕ) (t : Day) (o : ℕ) → (want_of a ≡ 0 → ⊥) → held < length buffer → set buffer held o ≡ stored_of (machine_of (placed a held) buffer t) buffer o
stored_one a held buffer t o e h =
    let n : held ≡ length (take held buffer) = sym (length-take-le held buffer (omega arith)) in
    rw (ne_eqb (want_of a) 0 e) (ap (λ (k : ℕ). set buffer k o) n)

pub stored_next : (m n : Machine) (buffer after chunk : List ℕ) (i k : ℕ) → i < length chunk → k ≡ suc i → n ≡ step_of m (octet chunk i) → after ≡ stored_of m buffer (octet chunk i) → buffer_after n after (drop k chunk) ≡ buffer_after m buffer (drop i chunk)
unfolding buffer_after
stored_next m n buffer after chunk i k h e p q = rw (drop-cons chunk i 0 h, e, p, q)

pub stored-done : (m : Machine) (buffer chunk : List ℕ) (i : ℕ) → length chunk ≤ i → buffer_after m buffer (drop i chunk) ≡ buffer
unfolding buffer_after
stored-done m buffer chunk i h = rw (drop_of_length-le chunk h)

-- what has come stands in the buffer
ready_held : {p : Place} {space : ℕ} → Ready p space → p.held ≤ space
ready_held {p} {space} r = go (dec_lt 0 (want_of p.awaits))
  where
    go : Dec (0 < want_of p.awaits) → p.held ≤ space
    go (yes h) = let n : want_of p.awaits ≡ 0 → ⊥ = λ z. omega arith in omega (arith, r.less n, r.low, r.room n)
    go (no h) = omega (arith, r.none (omega arith))

-- ---- a chunk
pub feed-unsized : (p : Place) (buffer : List ℕ) (t : Day) (chunk : List ℕ) → day_sized t ≡ false → fed nowhere buffer t ≡ fed_of p buffer t chunk
feed-unsized p buffer t chunk e = ap (λ (b : Bool). when b then (when fits p (length buffer) then taken_in (machine_of p buffer t) buffer chunk else fed nowhere buffer t) else fed nowhere buffer t) (sym e)

fed-sized : (p : Place) (buffer : List ℕ) (t : Day) (chunk : List ℕ) (f : Bool) → day_sized t ≡ true → fits p (length buffer) ≡ f → (when f then taken_in (machine_of p buffer t) buffer chunk else fed nowhere buffer t) ≡ fed_of p buffer t chunk
fed-sized p buffer t chunk f e g = λ i. when sym e i then (when sym g i then taken_in (machine_of p buffer t) buffer chunk else fed nowhere buffer t) else fed nowhere buffer t

pub feed-unfit : (p : Place) (buffer : List ℕ) (t : Day) (chunk : List ℕ) → day_sized t ≡ true → fits p (length buffer) ≡ false → fed nowhere buffer t ≡ fed_of p buffer t chunk
feed-unfit p buffer t chunk = fed-sized p buffer t chunk false

pub feed-taken : (p : Place) (buffer : List ℕ) (t : Day) (chunk : List ℕ) → day_sized t ≡ true → fits p (length buffer) ≡ true → taken_in (machine_of p buffer t) buffer chunk ≡ fed_of p buffer t chunk
feed-taken p buffer t chunk = fed-sized p buffer t chunk true

pub feed-all : (p : Place) (buffer : List ℕ) (t : Day) (chunk : List ℕ) {at : Place} {after : List ℕ} {u : Day} → day_sized t ≡ true → fits p (length buffer) ≡ true → Ready at (length after) → machine_of at after u ≡ feed_of (machine_of p buffer t) chunk → after ≡ buffer_after (machine_of p buffer t) buffer chunk → fed at after u ≡ fed_of p buffer t chunk
feed-all p buffer t chunk {at} {after} {u} e f r q s =
    let n : at.held ≡ length (take at.held after) = sym (length-take-le at.held after (ready_held r)) in
    (λ i. fed (record { awaits = at.awaits; held = n i }) (s i) u)
    ∙ ap (λ (m : Machine). fed (place_of m) (buffer_after (machine_of p buffer t) buffer chunk) m.day) q
    ∙ feed-taken p buffer t chunk e f

pub feed-next : (m n : Machine) (chunk : List ℕ) (i k : ℕ) → i < length chunk → k ≡ suc i → n ≡ step_of m (octet chunk i) → feed_of n (drop k chunk) ≡ feed_of m (drop i chunk)
unfolding feed_of
feed-next m n chunk i k h e p = rw (drop-cons chunk i 0 h, e, p)

pub feed-done : (m : Machine) (chunk : List ℕ) (i : ℕ) → length chunk ≤ i → feed_of m (drop i chunk) ≡ m
unfolding feed_of
feed-done m chunk i h = rw (drop_of_length-le chunk h)
