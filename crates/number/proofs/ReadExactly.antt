-- A number is read exactly when it is well formed.
use Prim.Native.Nat.{ℕ, ◌+◌, ◌-◌, ◌/◌, ◌<◌, ◌≤◌}
use mathlib.Core.Path.{◌≡◌, refl, sym, ◌∙◌, ap}
use mathlib.Core.List.{List}
use mathlib.Core.Logic.{⊎_elim, ◌↔◌}
use native.Mathlib.Omega.{arith}
use borrow.Author.Tests.{ltb-false, eq-eqb, ne_eqb, eqb-true, eqb-false}
use lib.Dec.{ltb, eqb}
use lib.ListN.{length, get_or}
use lib.Seq.{ext_get_or}
use Rattle.octets.specs.Answer.{accepted}
use Rattle.octets.specs.Filled.{filled, leaving}
use Rattle.octets.proofs.Answer.{accepted-same, past-test}
use Rattle.octets.proofs.Choice.{decided}
use Rattle.octets.proofs.Parity.{by-halves}
use Rattle.number.specs.declared.Number.{Number}
use Rattle.number.specs.Contents.{odd_bit, half_count, count_in, last_half, filler_in, signals_in}
use Rattle.number.specs.Read.{values_in, number_in, read_number_of}
use Rattle.number.specs.WellFormed.{WellFormedNumber}
use Rattle.number.proofs.Laws.{length-signals, signal-low, signal-high}
use Rattle.octets.proofs.Filled.{room-accepted, sets-filled}
use Rattle.number.proofs.Reading.{number-there, read_done}

-- no filler in an even count
filler-even : (contents : List ℕ) → odd_bit contents ≡ 0 → filler_in contents ≡ 0
filler-even contents e = rw (eq-eqb (odd_bit contents) 0 e)

-- the last half is the filler of an odd count
pub filler-odd : (contents : List ℕ) → odd_bit contents ≡ 1 → filler_in contents ≡ last_half contents
filler-odd contents e = rw (ne_eqb (odd_bit contents) 0 (λ z. omega arith))

-- a filler that is not 0 is the last half of an odd count
pub filler-some : (contents : List ℕ) → 0 < filler_in contents → (odd_bit contents ≡ 1) × (last_half contents ≡ 0 → ⊥)
filler-some contents h =
    ⊎_elim
    (λ z. let q = filler-even contents (eqb-true (odd_bit contents) 0 z) in absurd (omega arith))
    (λ z.
    let y = eqb-false (odd_bit contents) 0 z in
    let o : odd_bit contents ≡ 1 = omega (arith, y) in
    let q = filler-odd contents o in
    (o, λ e. omega arith))
    (decided (eqb (odd_bit contents) 0))

-- what is known of contents in which a number was found
pub record NumberFound (contents : List ℕ) (number : Number) (digits : List ℕ) : Type 0 where
  pub two : 2 ≤ length contents
  pub some : odd_bit contents ≤ half_count contents
  pub filler : filler_in contents ≤ 0
  pub few : count_in contents ≤ 30
  pub values : values_in contents ≡ number
  pub signals : signals_in contents ≡ digits

pub number-found : (contents : List ℕ) (number : Number) (signals : List ℕ) → number_in contents ≡ accepted (number, signals) → NumberFound contents number signals
number-found contents number signals e =
    let a = past-test 14 0 (ltb (length contents) 2) e in
    let b = past-test 14 0 (ltb (half_count contents) (odd_bit contents)) a.1 in
    let d = past-test 14 0 (ltb 0 (filler_in contents)) b.1 in
    let f = past-test 14 0 (ltb 30 (count_in contents)) d.1 in
    let p = accepted-same f.1 in
    record {
      two = ltb-false _ _ a.0;
      some = ltb-false _ _ b.0;
      filler = ltb-false _ _ d.0;
      few = ltb-false _ _ f.0;
      values = ap (λ (x : Number × List ℕ). x.0) p;
      signals = ap (λ (x : Number × List ℕ). x.1) p;
    }

-- what is read is well formed
found-well-formed : (contents : List ℕ) → NumberFound contents (values_in contents) (signals_in contents) → WellFormedNumber contents (values_in contents) (signals_in contents)
found-well-formed contents f = record {
  octets = omega arith;
  odd = omega arith;
  nature = refl;
  plan = refl;
  internal = refl;
  count = sym (length-signals contents);
  few = f.few;
  low = λ j h. signal-low contents j h;
  high = λ j h. signal-high contents j h;
  filler = λ j h. (
      let o : odd_bit contents ≡ 1 = omega arith in
      let l : length contents - 1 ≡ j + 2 = omega arith in
      let z = filler-odd contents o in
      let q : last_half contents ≡ 0 = omega arith in rw l at q);
}

-- what is well formed is read
well-formed-found : (contents : List ℕ) (number : Number) (signals : List ℕ) → WellFormedNumber contents number signals → number_in contents ≡ accepted (number, signals)
well-formed-found contents number signals w =
    let n : number.count ≡ count_in contents = omega arith in
    let filled : filler_in contents ≤ 0 =
    ⊎_elim
    (λ z. let q = filler-even contents (eqb-true (odd_bit contents) 0 z) in omega arith)
    (λ z.
    let o : odd_bit contents ≡ 1 = (let y = eqb-false (odd_bit contents) 0 z in omega (arith, y)) in
    let l : number.count / 2 + 2 ≡ length contents - 1 = omega arith in
    let q = w.filler (number.count / 2) (omega arith) in
    let r = rw l at q in
    let s = filler-odd contents o in
    omega arith)
    (decided (eqb (odd_bit contents) 0)) in
    let same : signals_in contents ≡ signals =
    ext_get_or 0 (signals_in contents) signals (omega (arith, length-signals contents)) (λ k h.
    by-halves (λ m. m < count_in contents → get_or (signals_in contents) m 0 ≡ get_or signals m 0)
    (λ j q. signal-low contents j q ∙ sym (w.low j (omega arith)))
    (λ j q. signal-high contents j q ∙ sym (w.high j (omega arith)))
    k
    (omega (arith, length-signals contents))) in
    number-there contents (omega arith) (omega arith) filled (omega arith)
    ∙ (λ i. accepted (record { nature = sym w.nature i; plan = sym w.plan i; internal = sym w.internal i; count = sym n i }, same i))

-- a number is found in the contents exactly where they are well formed
pub number-exactly : (contents : List ℕ) (number : Number) (signals : List ℕ) → (number_in contents ≡ accepted (number, signals)) ↔ WellFormedNumber contents number signals
number-exactly contents number signals = (
  λ e. (let f = number-found contents number signals e in
      rw (f.values, f.signals) at (found-well-formed contents (rw (← f.values, ← f.signals) at f))),
  well-formed-found contents number signals,
)

-- contents are one number at most
pub well-formed-one : {contents : List ℕ} {number other : Number} {signals others : List ℕ} → WellFormedNumber contents number signals → WellFormedNumber contents other others → (number ≡ other) × (signals ≡ others)
well-formed-one {contents = contents} v w =
    let e = sym ((number-exactly contents _ _).1 v) ∙ (number-exactly contents _ _).1 w in
    (ap (λ (x : Number × List ℕ). x.0) (accepted-same e), ap (λ (x : Number × List ℕ). x.1) (accepted-same e))

-- reading accepts a number exactly where the contents are one whose signals have room, and leaves
-- these at the front of the buffer
pub read-number-exactly : (contents buffer : List ℕ) (number : Number) (left : List ℕ) →
    (read_number_of contents buffer ≡ leaving (accepted number) left)
    ↔ ((signals : List ℕ) × WellFormedNumber contents number signals × (length signals ≤ length buffer) × (left ≡ filled signals buffer))
read-number-exactly contents buffer number left = (
  λ e. (let r = room-accepted buffer (number_in contents) e in
      (r.0, (number-exactly contents number r.0).0 r.1, r.2, r.3)),
  λ h. sym (read_done contents buffer number h.0 ((number-exactly contents number h.0).1 h.1) number left h.2 refl (h.3 ∙ sym (sets-filled h.0 buffer h.2))),
)
