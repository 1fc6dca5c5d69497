-- What is known of a refusal's number and octet, by the faults that an answer
-- judges or by how it is put together.
use Prim.Native.Nat.{ℕ, ◌≤◌}
use mathlib.Core.Path.{◌≡◌, refl, sym}
use mathlib.Core.Bool.{Bool, true, false}
use mathlib.Core.List.{List, [], ◌∷◌, ◌++◌}
use mathlib.Core.Logic.{◌⊎◌, inl, inr, ⊎_elim}
use native.Mathlib.Omega.{arith}
use lib.Dec.{ltb}
use lib.ListN.{length}
use Rattle.octets.specs.Choice.{when◌then◌else◌}
use Rattle.octets.specs.Answer.{Answer, accepted, refused, ◌then◌}
use Rattle.octets.specs.Faults.{Fault, First, Judges}
use Rattle.octets.specs.Filled.{done, room_for}
use Rattle.octets.proofs.Answer.{refused-accepted, refused-same, refused_as}

-- ---- by the faults
-- each fault of the list is so, by its number and its octet
abbrev pub Each : (ℕ → ℕ → Type 0) → List Fault → Type 0
Each P [] = Unit {0}
Each P (f ∷ fs) = ((at : ℕ) → f.there at → P f.number at) × Each P fs

pub first_so : (P : ℕ → ℕ → Type 0) (fs : List Fault) (n at : ℕ) → Each P fs → First fs n at → P n at
first_so P [] n at o f = absurd f
first_so P (g ∷ fs) n at o f = ⊎_elim (λ x. rw x.0 (o.0 at x.1)) (λ x. first_so P fs n at o.1 x.1) f

pub each_append : (P : ℕ → ℕ → Type 0) (fs gs : List Fault) → Each P fs → Each P gs → Each P (fs ++ gs)
each_append P [] gs o p = p
each_append P (f ∷ fs) gs o p = (o.0, each_append P fs gs o.1 p)

-- a refusal of what judges the list is so
pub refusal-so : {A : Type 0} (P : ℕ → ℕ → Type 0) (x : Answer A) (fs : List Fault) → Judges x fs → Each P fs → (n at : ℕ) → x ≡ refused n at → P n at
refusal-so P x fs j o n at e = first_so P fs n at o ((j.refuses n at).0 e)

-- ---- by how it is put together: a refusal is about an octet up to k
abbrev pub UpTo : {A : Type 0} → ℕ → Answer A → Type 0
UpTo k x = (n at : ℕ) → x ≡ refused n at → at ≤ k

pub up-to-accepted : {A : Type 0} (k : ℕ) (a : A) → UpTo k (accepted a)
up-to-accepted k a n at e = absurd (refused-accepted (sym e))

pub up-to-refused : {A : Type 0} (k n at : ℕ) → at ≤ k → UpTo {A = A} k (refused n at)
up-to-refused k n at h n' at' e = omega (arith, (refused-same e).1)

pub up-to-if : {A : Type 0} {x y : Answer A} (k : ℕ) (t : Bool) → (t ≡ true → UpTo k x) → (t ≡ false → UpTo k y) → UpTo k (when t then x else y)
up-to-if k true p q = p refl
up-to-if k false p q = q refl

pub up-to-then : {A B : Type 0} (k : ℕ) (x : Answer A) (f : A → Answer B) → UpTo k x → ((a : A) → x ≡ accepted a → UpTo k (f a)) → UpTo k (x then f)
up-to-then k (accepted a) f p q = q a refl
up-to-then k (refused n at) f p q = up-to-refused k n at (p n at refl)

-- with room for it in a lent buffer, and with the buffer
pub up-to-room : {A : Type 0} (k : ℕ) (buffer : List ℕ) (x : Answer (A × List ℕ)) → UpTo k x → UpTo k (x then room_for buffer)
up-to-room k buffer x h = up-to-then k x (room_for buffer) h (λ a e. up-to-if k (ltb (length buffer) (length a.1)) (λ t. up-to-refused k 13 0 (omega arith)) (λ t. up-to-accepted k a))

pub up-to-done : {A : Type 0} (k : ℕ) (buffer : List ℕ) (x : Answer (A × List ℕ)) → UpTo k x → UpTo k (done buffer x).answer
up-to-done k buffer (accepted a) h = up-to-accepted k a.0
up-to-done k buffer (refused n at) h = up-to-refused k n at (h n at refl)

-- ---- what comes after is about no octet: so a refusal is the one that was handed on, octet and all, or about none
pub handed-on : {A B : Type 0} (x : Answer A) (f : A → Answer B) → ((a : A) → UpTo 0 (f a)) → (n at : ℕ) → (x then f) ≡ refused n at → (x ≡ refused n at) ⊎ (at ≡ 0)
handed-on (accepted a) f o n at e = inr (omega (arith, o a n at e))
handed-on (refused k q) f o n at e = inl (refused_as e)

pub room-handed-on : {A : Type 0} (buffer : List ℕ) (x : Answer (A × List ℕ)) (n at : ℕ) → (done buffer (x then room_for buffer)).answer ≡ refused n at → (x ≡ refused n at) ⊎ (at ≡ 0)
room-handed-on buffer (accepted a) n at e =
    inr (let h = up-to-done 0 buffer (accepted a then room_for buffer) (up-to-room 0 buffer (accepted a) (up-to-accepted 0 a)) n at e in omega (arith, h))
room-handed-on buffer (refused k q) n at e = inl (refused_as e)
