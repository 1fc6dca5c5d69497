-- Any two answers that a public function's contract allows are equal. Of a
-- stretch: the same memory with the same octets.
use Prim.Native.Nat.{ℕ}
use mathlib.Core.Path.{◌≡◌, ap}
use mathlib.Core.List.{List, []}
use native.Mathlib.Omega.{arith}
use denote.Ref.{Bor}
use Rattle.std.specs.Prelude.{Result, Ok, Err}
use Rattle.octets.specs.Stretch.{Stretch}
use Rattle.octets.specs.declared.Refusal.{Refusal}
use Rattle.octets.proofs.Answer.{accepted-same, refused-same, one_answer}
use Rattle.octets.proofs.Stretch.{stretch-one}
use Rattle.octets.proofs.Told.{refusal-one}
use Rattle.finding.specs.declared.Located.{Located}
use Rattle.finding.specs.declared.Located.TheVariants.{Message, Defaults}
use Rattle.finding.specs.declared.Code.{Code}
use Rattle.finding.specs.Find.{Spot, spot, locate_of, stretch_start, stretch_length, code_of, held_by_lem}
use Rattle.finding.specs.Told.{located_told}

spots : {h a n h' a' n' : ℕ} → spot h a n ≡ spot h' a' n' → (h ≡ h') × (a ≡ a') × (n ≡ n')
spots e = (ap (λ (s : Spot). s.holder) e, ap (λ (s : Spot). s.start) e, ap (λ (s : Spot). s.len) e)

pub located-told-injective : (r s : Result Located Refusal) → located_told r ≡ located_told s → r ≡ s
located-told-injective (Ok (Message a n)) (Ok (Message a' n')) e = let x = spots (accepted-same e) in λ i. Ok (Message (x.1 i) (x.2 i))
located-told-injective (Ok (Message a n)) (Ok (Defaults a' n')) e = absurd (omega (arith, (spots (accepted-same e)).0))
located-told-injective (Ok (Message a n)) (Err why) e = cc
located-told-injective (Ok (Defaults a n)) (Ok (Message a' n')) e = absurd (omega (arith, (spots (accepted-same e)).0))
located-told-injective (Ok (Defaults a n)) (Ok (Defaults a' n')) e = let x = spots (accepted-same e) in λ i. Ok (Defaults (x.1 i) (x.2 i))
located-told-injective (Ok (Defaults a n)) (Err why) e = cc
located-told-injective (Err why) (Ok (Message a n)) e = cc
located-told-injective (Err why) (Ok (Defaults a n)) e = cc
located-told-injective (Err a) (Err b) e = let x = refused-same e in ap Err (refusal-one a b x.0 x.1)

pub locate-determined : (m d : List ℕ) (name : ℕ) (r s : Result Located Refusal) → located_told r ≡ locate_of m d name → located_told s ≡ locate_of m d name → r ≡ s
locate-determined m d name r s p q = located-told-injective r s (one_answer p q)

pub find-determined : (m r s : Bor (List ℕ)) (name : ℕ)
    → Stretch m (stretch_start (locate_of m.now [] name)) (stretch_length (locate_of m.now [] name)) r
    → Stretch m (stretch_start (locate_of m.now [] name)) (stretch_length (locate_of m.now [] name)) s
    → (r.ref_ptr ≡ s.ref_ptr) × (r.now ≡ s.now)
find-determined m r s name = stretch-one

pub find-or-default-determined : (m d r s : Bor (List ℕ)) (name : ℕ)
    → Stretch (held_by_lem (locate_of m.now d.now name) m d) (stretch_start (locate_of m.now d.now name)) (stretch_length (locate_of m.now d.now name)) r
    → Stretch (held_by_lem (locate_of m.now d.now name) m d) (stretch_start (locate_of m.now d.now name)) (stretch_length (locate_of m.now d.now name)) s
    → (r.ref_ptr ≡ s.ref_ptr) × (r.now ≡ s.now)
find-or-default-determined m d r s name = stretch-one

pub find-or-default-code-determined : (m d : List ℕ) (name : ℕ) (r s : Code) → r ≡ code_of (locate_of m d name) → s ≡ code_of (locate_of m d name) → r ≡ s
find-or-default-code-determined m d name r s = one_answer

pub find-code-determined : (m : List ℕ) (name : ℕ) (r s : Code) → r ≡ code_of (locate_of m [] name) → s ≡ code_of (locate_of m [] name) → r ≡ s
find-code-determined m name r s = one_answer
