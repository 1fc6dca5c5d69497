-- The counters after the messages are the counts over the replay: they never wrap.
use Prim.Native.Nat.{ℕ, suc, ◌+◌, ◌%◌, ◌<◌, ◌≤◌}
use mathlib.Core.Path.{◌≡◌, refl, sym, ◌∙◌}
use mathlib.Core.Bool.{Bool, true, false, not}
use mathlib.Core.List.{List, [], ◌∷◌}
use mathlib.Core.Logic.{⊎_elim}
use native.Mathlib.Omega.{arith}
use borrow.Author.Tests.{eqb-true, eqb-false}
use lib.Dec.{eqb}
use lib.ListN.{length, length-set, length-replicate}
use lib.Seq.{get_or-set_same, get_or-set_other}
use Rattle.octets.specs.Octet.{octet}
use Rattle.octets.specs.Choice.{when◌then◌else◌}
use Rattle.octets.proofs.Choice.{decided}
use Rattle.book.specs.Book.{Recorded, AllEntries}
use Rattle.day.specs.Hub.{Rows, Heard, heard_of}
use Rattle.day.specs.Day.{Day, one_more_lem, counted_if, heard_in_lem, zeros}
use Rattle.machine.specs.Replay.{outcomes, rows_at_end, count, comes_from, accepted_from, refused_from}
use Rattle.machine.proofs.Forward.{heard_all}
use Rattle.octets.proofs.Octet.{zero-at}

-- 1 where it holds
abbrev pub one : Bool → ℕ
one b = when b then 1 else 0

-- a counter that has room counts one more, and no other changes
pub counted-at : (l : List ℕ) (s q : ℕ) → s < length l → octet l q < 65535 → octet (one_more_lem l s) q ≡ octet l q + one (eqb s q)
counted-at l s q h r =
    ⊎_elim
    (λ t.
    let e : s ≡ q = eqb-true s q t in
    rw t (rw e (get_or-set_same l q ((octet l q + 1) % 65536) 0 (omega arith) ∙ (omega arith))))
    (λ t. rw t (get_or-set_other l s q _ 0 (λ e. eqb-false s q t (sym e)) ∙ (omega arith)))
    (decided (eqb s q))

-- the tables have room for n messages more
pub one-most : (c : Bool) → one c ≤ 1
one-most true = omega arith
one-most false = omega arith

pub record Room (t : Day) (q n : ℕ) : Type 0 where
  pub wide : 256 ≤ length t.accepted
  pub long : 256 ≤ length t.refused
  pub accepted : octet t.accepted q + n ≤ 65535
  pub refused : octet t.refused q + n ≤ 65535

-- u is t after those messages
pub record Replays (ss : List Recorded) (t u : Day) (q : ℕ) : Type 0 where
  pub owners : u.owners ≡ t.owners
  pub rows : u.rows ≡ rows_at_end t.owners t.rows ss
  pub accepted : octet u.accepted q ≡ octet t.accepted q + count (accepted_from q) (outcomes t.owners t.rows ss)
  pub refused : octet u.refused q ≡ octet t.refused q + count (refused_from q) (outcomes t.owners t.rows ss)

taken-one : (c : Bool) → one (when c then true else false) ≡ one c
taken-one true = refl
taken-one false = refl

taken_none : (c : Bool) → one (when c then false else false) ≡ 0
taken_none true = refl
taken_none false = refl

-- by either outcome of the first message
module _ (s : Recorded) (ss : List Recorded) (t : Day) (q : ℕ) (h : Heard) where
  abbrev Next : Bool → Day → Type 0
  Next b u =
      (u.owners ≡ t.owners)
      × (u.rows ≡ rows_at_end t.owners h.rows ss)
      × (octet u.accepted q ≡ octet t.accepted q + (one (when eqb s.sender q then b else false) + count (accepted_from q) (outcomes t.owners h.rows ss)))
      × (octet u.refused q ≡ octet t.refused q + (one (when eqb s.sender q then not b else false) + count (refused_from q) (outcomes t.owners h.rows ss)))

  next : (b : Bool) → s.sender ≤ 255 → Room t q (suc (length ss)) → ((u : Day) → Room u q (length ss) → Replays ss u (heard_all ss u) q) → Next b (heard_all ss (counted_if b s.sender h t))
  next true l r ih =
      let c = counted-at t.accepted s.sender q (omega (arith, r.wide)) (omega (arith, r.accepted)) in
      let o = taken-one (eqb s.sender q) in
      let z = taken_none (eqb s.sender q) in
      let m : one (eqb s.sender q) ≤ 1 = one-most (eqb s.sender q) in
      let x = ih (counted_if true s.sender h t) (record { wide = simp length-set r.wide; long = r.long; accepted = omega (arith, r.accepted); refused = omega (arith, r.refused) }) in
      (x.owners, x.rows, omega (arith, x.accepted), omega (arith, x.refused))
  next false l r ih =
      let c = counted-at t.refused s.sender q (omega (arith, r.long)) (omega (arith, r.refused)) in
      let o = taken-one (eqb s.sender q) in
      let z = taken_none (eqb s.sender q) in
      let m : one (eqb s.sender q) ≤ 1 = one-most (eqb s.sender q) in
      let x = ih (counted_if false s.sender h t) (record { wide = r.wide; long = simp length-set r.long; accepted = omega (arith, r.accepted); refused = omega (arith, r.refused) }) in
      (x.owners, x.rows, omega (arith, x.accepted), omega (arith, x.refused))

pub replays : (ss : List Recorded) (t : Day) (q : ℕ) → AllEntries ss → Room t q (length ss) → Replays ss t (heard_all ss t) q
unfolding heard_all heard_in_lem outcomes rows_at_end count
replays [] t q g r = record { owners = refl; rows = refl; accepted = omega arith; refused = omega arith }
replays (s ∷ ss) t q g r =
    let h = heard_of t.owners t.rows s.sender s.message in
    let x = next s ss t q h h.taken g.0.one r (λ u y. replays ss u q g.1 y) in
    record { owners = x.0; rows = x.1; accepted = x.2; refused = x.3 }

-- accepted and refused are all
both : (c b : Bool) → one (when c then b else false) + one (when c then not b else false) ≡ one c
both true true = refl
both true false = refl
both false b = refl

pub all-counted : (ss : List Recorded) (owners : List ℕ) (rows : Rows) (q : ℕ) → count (accepted_from q) (outcomes owners rows ss) + count (refused_from q) (outcomes owners rows ss) ≡ count (comes_from q) ss
unfolding count outcomes
all-counted [] owners rows q = refl
all-counted (s ∷ ss) owners rows q =
    omega (arith, both (eqb s.sender q) (heard_of owners rows s.sender s.message).taken, all-counted ss owners (heard_of owners rows s.sender s.message).rows q)

pub counters-at : (q : ℕ) → octet zeros q ≡ 0
unfolding zeros
counters-at q = zero-at 256 q

pub counters-long : length zeros ≡ 256
unfolding zeros
counters-long = length-replicate {A = ℕ} 256 0
