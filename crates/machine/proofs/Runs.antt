-- What the three functions answer, in turn, for chunks of any sizes: the
-- report is the text of the whole.
use Prim.Native.Nat.{ℕ, suc, ◌+◌, ◌-◌, ◌<◌, ◌≤◌}
use mathlib.Core.Path.{◌≡◌, refl, sym, ◌∙◌, ap, subst}
use mathlib.Core.Bool.{Bool, true, false}
use mathlib.Core.List.{List, [], ◌∷◌, ◌++◌}
use native.Mathlib.Omega.{arith}
use native.Mathlib.Decide.{dec_lt}
use borrow.Author.Tests.{lt-ltb, le-ltb, le-leb, eq-eqb, eqb-true, eqb-false}
use lib.Dec.{ltb, eqb}
use lib.ListN.{length, take, set, length-set, length-append, length-replicate}
use lib.Seq.{length-take-le, take_all, take-suc-set}
use Rattle.octets.specs.Octet.{octet}
use Rattle.octets.specs.Choice.{when◌then◌else◌}
use Rattle.octets.proofs.Applied.{length-applied}
use Rattle.book.specs.declared.Await.{Await}
use Rattle.book.specs.declared.Await.TheVariants.{SpanCount, Span, MessageCount, Head, Body, Done, Bad}
use Rattle.book.specs.declared.Place.{Place}
use Rattle.book.specs.Awaits.{want_of, pair_at, spans_await_lem, entries_await_lem, bad_span_lem}
use Rattle.day.specs.Hub.{at_first_lem}
use Rattle.day.specs.Day.{nobody, Day, day, Machine, machine, heard_in_lem, start, zeros, sized_by, day_sized, begun_of}
use Rattle.tallies.specs.Reports.{text_of, text, no_book, report_of}
use Rattle.machine.specs.Machine.{owned, span_come, head_come, completed, step_of, feed_of, stored_of, buffer_after, machine_of, fits, Fed, fed, taken_in, fed_of}
use Rattle.machine.proofs.Feeding.{any-chunks, step-over, step-more, step-last}
use Rattle.machine.proofs.Told.{completed-low, feed-taken}
use Rattle.day.proofs.Kept.{Kept, kept-all, heard-kept, kept-sized}

-- all that was awaited has come: nothing is held, and the lengths stay
abbrev Next : Day → Machine → Type 0
Next t m = (m.got ≡ []) × Kept t m.day

span-next : (left next first last sender : ℕ) (t : Day) → Next t (span_come left next first last sender t)
span-next left next first last sender t = go (bad_span_lem next first last sender)
  where
    go : (b : Bool) → Next t (when b then machine Bad [] t else machine (spans_await_lem (left - 1) (last + 1)) [] (owned first last sender t))
    go true = (refl, kept-all t)
    go false = (refl, record { owners = length-applied (λ place old. sender) first (last + 1 - first) t.owners; rows = refl; accepted = refl; refused = refl })

head-next : (left sender size : ℕ) (t : Day) → Next t (head_come left sender size t)
head-next left sender size t = go (ltb 268 size) (eqb size 0)
  where
    go : (b c : Bool) → Next t (when b then machine Bad [] t else (when c then machine (entries_await_lem (left - 1)) [] (heard_in_lem sender [] t) else machine (Body left sender size) [] t))
    go true c = (refl, kept-all t)
    go false true = (refl, heard-kept sender [] t)
    go false false = (refl, kept-all t)

completed-next : (a : Await) (got : List ℕ) (t : Day) → Next t (completed a got t)
unfolding completed
completed-next SpanCount got t = (refl, kept-all t)
completed-next (Span left next) got t = span-next left next (pair_at got 0) (pair_at got 2) (octet got 4) t
completed-next MessageCount got t = (refl, kept-all t)
completed-next (Head left) got t = head-next left (octet got 0) (pair_at got 1) t
completed-next (Body left sender size) got t = (refl, heard-kept sender got t)
completed-next Done got t = (refl, kept-all t)
completed-next Bad got t = (refl, kept-all t)

-- ---- a machine that has come from the start
pub record Fine (m : Machine) : Type 0 where
  pub sizes : day_sized m.day ≡ true
  pub low : want_of m.awaits ≤ 268
  pub less : (want_of m.awaits ≡ 0 → ⊥) → length m.got < want_of m.awaits
  pub none : want_of m.awaits ≡ 0 → m.got ≡ []

completed-fine : (a : Await) (got : List ℕ) (t : Day) → day_sized t ≡ true → Fine (completed a got t)
completed-fine a got t e =
    let n = completed-next a got t in
    record { sizes = kept-sized t (completed a got t).day n.1 e; low = completed-low a got t; less = λ z. (let l = ap length n.0 in omega (arith, l, z)); none = λ z. n.0 }

step-fine : (m : Machine) (o : ℕ) → Fine m → Fine (step_of m o)
step-fine m o f = go (dec_lt 0 (want_of m.awaits)) (dec_lt (length m.got + 1) (want_of m.awaits))
  where
    go : Dec (0 < want_of m.awaits) → Dec (length m.got + 1 < want_of m.awaits) → Fine (step_of m o)
    go (no h) d = subst Fine (sym (step-over m.awaits m.got m.day o (omega arith))) (record { sizes = f.sizes; low = omega arith; less = λ z. absurd (z refl); none = λ z. refl })
    go (yes h) (yes d) = subst Fine (sym (step-more m.awaits m.got m.day o d)) (record { sizes = f.sizes; low = f.low; less = λ z. omega (arith, length-append m.got (o ∷ [])); none = λ z. absurd (omega arith) })
    go (yes h) (no d) = subst Fine (sym (step-last m.awaits m.got m.day o (let l = f.less (λ z. omega arith) in omega arith))) (completed-fine m.awaits (m.got ++ (o ∷ [])) m.day f.sizes)

pub feed-fine : (m : Machine) (xs : List ℕ) → Fine m → Fine (feed_of m xs)
unfolding feed_of
feed-fine m [] f = f
feed-fine m (x ∷ xs) f = feed-fine (step_of m x) xs (step-fine m x f)

start_fine : Fine start
unfolding nobody at_first_lem zeros
start_fine = record {
  sizes = λ i. sized_by (length-replicate {A = ℕ} 4096 0 i) (length-replicate {A = ℕ} 4096 0 i) (length-replicate {A = ℕ} 256 0 i) (length-replicate {A = ℕ} 256 0 i);
  low = omega arith;
  less = λ z. omega arith;
  none = λ z. refl;
}

-- a place and a buffer that are a fine machine fit
fine-fits : (p : Place) (buffer : List ℕ) (t : Day) → 268 ≤ length buffer → Fine (machine_of p buffer t) → fits p (length buffer) ≡ true
fine-fits p buffer t h f = go (eqb (want_of p.awaits) 0) refl (dec_lt (length buffer) p.held)
  where
    go : (b : Bool) → eqb (want_of p.awaits) 0 ≡ b → Dec (length buffer < p.held) → fits p (length buffer) ≡ true
    go true e (yes a) = absurd (let q = ap length (take_all p.held buffer (omega arith)) in let z = ap length (f.none (eqb-true (want_of p.awaits) 0 e)) in omega (arith, q, z))
    go true e (no a) =
        let q = length-take-le p.held buffer (omega arith) in
        let z = ap length (f.none (eqb-true (want_of p.awaits) 0 e)) in
        rw e (eq-eqb p.held 0 (omega (arith, q, z)))
    go false e (yes a) = absurd (let q = ap length (take_all p.held buffer (omega arith)) in let l = f.less (eqb-false (want_of p.awaits) 0 e) in omega (arith, q, l, f.low))
    go false e (no a) =
        let q = length-take-le p.held buffer (omega arith) in
        let l = f.less (eqb-false (want_of p.awaits) 0 e) in
        let k : p.held < want_of p.awaits = omega (arith, q, l) in
        rw (e, lt-ltb p.held (want_of p.awaits) k, le-ltb 268 (want_of p.awaits) f.low) (le-leb 268 (length buffer) h)

-- ---- what has come stands at the buffer's front, after any octets
pub record Stands (m : Machine) (buffer : List ℕ) : Type 0 where
  pub room : 268 ≤ length buffer
  pub front : take (length m.got) buffer ≡ m.got

empty-front : (m : Machine) (buffer : List ℕ) → m.got ≡ [] → take (length m.got) buffer ≡ m.got
empty-front m buffer e = ap (λ (l : List ℕ). take (length l) buffer) e ∙ sym e

step-stands : (m : Machine) (buffer : List ℕ) (o : ℕ) → Fine m → Stands m buffer → Stands (step_of m o) (stored_of m buffer o)
step-stands m buffer o f s = go (eqb (want_of m.awaits) 0) refl (dec_lt (length m.got + 1) (want_of m.awaits))
  where
    go : (b : Bool) → eqb (want_of m.awaits) 0 ≡ b → Dec (length m.got + 1 < want_of m.awaits) → Stands (step_of m o) (stored_of m buffer o)
    go true e d = rw e (record { room = s.room; front = empty-front (step_of m o) buffer (ap (λ (x : Machine). x.got) (step-over m.awaits m.got m.day o (eqb-true (want_of m.awaits) 0 e))) })
    go false e (yes d) =
        let l = f.less (eqb-false (want_of m.awaits) 0 e) in
        let g : (step_of m o).got ≡ m.got ++ (o ∷ []) = ap (λ (x : Machine). x.got) (step-more m.awaits m.got m.day o d) in
        let n = length-append m.got (o ∷ []) in
        let k : length (m.got ++ (o ∷ [])) ≡ suc (length m.got) = omega (arith, n) in
        rw e (record {
          room = simp length-set s.room;
          front =
              ap (λ (x : List ℕ). take (length x) (set buffer (length m.got) o)) g
              ∙ ap (λ (j : ℕ). take j (set buffer (length m.got) o)) k
              ∙ take-suc-set buffer (length m.got) o (omega (arith, l, f.low, s.room))
              ∙ ap (λ (x : List ℕ). x ++ (o ∷ [])) s.front
              ∙ sym g;
        })
    go false e (no d) =
        let l = f.less (eqb-false (want_of m.awaits) 0 e) in
        let g : (step_of m o).got ≡ [] = ap (λ (x : Machine). x.got) (step-last m.awaits m.got m.day o (omega arith)) ∙ (completed-next m.awaits (m.got ++ (o ∷ [])) m.day).0 in
        rw e (record { room = simp length-set s.room; front = empty-front (step_of m o) (set buffer (length m.got) o) g })

feed-stands : (m : Machine) (buffer xs : List ℕ) → Fine m → Stands m buffer → Stands (feed_of m xs) (buffer_after m buffer xs)
unfolding feed_of buffer_after
feed-stands m buffer [] f s = s
feed-stands m buffer (x ∷ xs) f s = feed-stands (step_of m x) (stored_of m buffer x) xs (step-fine m x f) (step-stands m buffer x f s)

-- the machine of what a chunk leaves is the machine that has taken it in
abbrev machine_in : Fed → Machine
machine_in x = machine_of x.place x.buffer x.day

taken-machine : (m : Machine) (buffer xs : List ℕ) → Fine m → Stands m buffer → machine_in (taken_in m buffer xs) ≡ feed_of m xs
taken-machine m buffer xs f s = ap (λ (l : List ℕ). machine (feed_of m xs).awaits l (feed_of m xs).day) (feed-stands m buffer xs f s).front

-- ---- begun, and fed chunk after chunk, each by what its function answers
pub data InChunks : Place → List ℕ → Day → List ℕ → Type 0 where
  begun : {p : Place} {buffer : List ℕ} {u : Day} (t : Day) → day_sized t ≡ true → 268 ≤ length buffer → machine p.awaits [] u ≡ begun_of t → p.held ≡ 0 → InChunks p buffer u []
  fed_more : {p r : Place} {buffer after : List ℕ} {t u : Day} {xs : List ℕ} (chunk : List ℕ) → InChunks p buffer t xs → fed r after u ≡ fed_of p buffer t chunk → InChunks r after u (xs ++ chunk)

run_is : {p : Place} {buffer : List ℕ} {t : Day} {xs : List ℕ} → InChunks p buffer t xs → (machine_of p buffer t ≡ feed_of start xs) × (268 ≤ length buffer)
unfolding feed_of
run_is (begun {p} {buffer} {u} t e h q z) =
    ((λ i. machine p.awaits (take (z i) buffer) u) ∙ q ∙ ap (λ (b : Bool). when b then start else machine Bad [] t) e, h)
run_is (fed_more {p} {r} {buffer} {after} {t} {u} {xs} chunk x q) =
    let y = run_is x in
    let m = machine_of p buffer t in
    let f : Fine m = subst Fine (sym y.0) (feed-fine start xs start_fine) in
    let s : Stands m buffer = record { room = y.1; front = held-front p.held buffer } in
    let e : fed r after u ≡ taken_in m buffer chunk = q ∙ sym (feed-taken p buffer t chunk f.sizes (fine-fits p buffer t y.1 f)) in
    let l : length after ≡ length (buffer_after m buffer chunk) = ap (λ (z : Fed). length z.buffer) e in
    (ap machine_in e ∙ taken-machine m buffer chunk f s ∙ ap (λ (z : Machine). feed_of z chunk) y.0 ∙ sym (any-chunks start xs chunk), omega (arith, l, (feed-stands m buffer chunk f s).room))
  where
    held-front : (n : ℕ) (l : List ℕ) → take (length (take n l)) l ≡ take n l
    held-front n l = go (dec_lt (length l) n)
      where
        go : Dec (length l < n) → take (length (take n l)) l ≡ take n l
        go (yes h) = let e = take_all n l (omega arith) in ap (λ (x : List ℕ). take (length x) l) e ∙ take_all (length l) l (omega arith) ∙ sym e
        go (no h) = ap (λ (k : ℕ). take k l) (length-take-le n l (omega arith))

-- the report at the end is the text of the whole
pub run-reports : {p : Place} {buffer : List ℕ} {t : Day} {xs : List ℕ} → InChunks p buffer t xs → report_of p t ≡ text (feed_of start xs)
run-reports {p} {buffer} {t} {xs} x =
    let y = run_is x in
    let f : Fine (machine_of p buffer t) = subst Fine (sym y.0) (feed-fine start xs start_fine) in
    (λ i. when f.sizes i then text_of p.awaits t else no_book) ∙ ap text y.0
