-- What `write` and `compact` leave in the lent buffer.
use Prim.Native.Nat.{ℕ, ◌≤◌}
use mathlib.Core.Path.{◌≡◌, refl, ◌∙◌, ap}
use mathlib.Core.List.{List}
use mathlib.Core.Logic.{◌⊎◌, inl, inr, ⊎_elim, ◌↔◌}
use native.Mathlib.Omega.{arith}
use lib.ListN.{length, take, drop}
use Rattle.octets.specs.Octet.{AllOctets}
use Rattle.octets.specs.Answer.{accepted, refused}
use Rattle.octets.specs.Filled.{filled, leaving}
use Rattle.family.specs.Family.{family_compact_of}
use Rattle.family.proofs.Lent as family
use Rattle.isup.specs.declared.Message.{Message}
use Rattle.isup.specs.Table.{isup}
use Rattle.isup.specs.Read.{circuit_of_lem, read_of}
use Rattle.isup.specs.WellFormed.{WellFormed}
use Rattle.isup.specs.Compact.{CompactForm, Says, SaysSame}
use Rattle.isup.specs.Write.{head_of, write_in, write_of, compact_in, compact_of}
use Rattle.isup.proofs.Circuit.{circuit-low, head-octets, head-back}
use Rattle.isup.proofs.Exactly.{framed}
use Rattle.isup.proofs.WriteBack.{tight, write-reads-back-in}
use Rattle.isup.proofs.CompactAgain.{same-said, said_same}

-- ---- writing
module _ (circuit kind : ℕ) (fixed first second run buffer : List ℕ) (n : ℕ) (left : List ℕ) (e : write_of circuit kind fixed first second run buffer ≡ leaving (accepted n) left) where
  write-front : (write_in circuit kind fixed first second run ≡ accepted (n, take n left)) × (n ≤ length buffer) × (drop n left ≡ drop n buffer)
  unfolding write_of
  write-front = family.front buffer (write_in circuit kind fixed first second run) n left (λ ys q. (write-reads-back-in circuit kind fixed first second run n ys q).0) e

  -- the n octets that `write` left read; they are in the compact form and say
  -- what was given, octet for octet
  pub write-reads-back : (x : Message) × (read_of (take n left) ≡ accepted x) × CompactForm (take n left) x × Says (take n left) x circuit kind fixed first second run
  write-reads-back = (write-reads-back-in circuit kind fixed first second run n (take n left) write-front.0).1

  -- the rest of the buffer is kept
  pub write-keeps-rest : (n ≤ length buffer) × (drop n left ≡ drop n buffer)
  write-keeps-rest = (write-front.1, write-front.2)

-- ---- reading and writing again, of a message of octets
module _ (m : List ℕ) (o : AllOctets m) (x : Message) (f : WellFormed m x) (buffer : List ℕ) where
  -- the n octets that `compact` left are in the compact form and say the same
  pub compact-says-same : (n : ℕ) (left : List ℕ) → compact_of m buffer ≡ leaving (accepted n) left → SaysSame m x (take n left)
  unfolding compact_of compact_in
  compact-says-same n left e = said_same m o x f (take n left) (family.compact-says-same isup m o x.parts (framed m x f) (head_of (circuit_of_lem m)) refl buffer n left e)

  -- the rest of the buffer is kept
  pub compact-keeps-rest : (n : ℕ) (left : List ℕ) → compact_of m buffer ≡ leaving (accepted n) left → (n ≤ length buffer) × (drop n left ≡ drop n buffer)
  unfolding compact_of compact_in
  compact-keeps-rest n left e = family.compact-keeps-rest isup m o x.parts (framed m x f) (head_of (circuit_of_lem m)) refl buffer n left e

  -- with a buffer as long as the message: 12, or a message in compact form that says the same
  pub compact-or-twelve : length m ≤ length buffer
      → (compact_of m buffer ≡ leaving (refused 12 0) buffer) ⊎ ((n : ℕ) × (left : List ℕ) × (compact_of m buffer ≡ leaving (accepted n) left) × SaysSame m x (take n left))
  unfolding compact_of compact_in
  compact-or-twelve h =
      ⊎_elim (λ y. inl y) (λ y. inr (y.0, y.1, y.2, said_same m o x f (take y.0 y.1) y.3))
      (family.compact-or-twelve isup m o x.parts (framed m x f) (head_of (circuit_of_lem m)) refl buffer h)

  -- 12 exactly where no message in compact form says the same
  pub twelve-exactly : ((compact_of m buffer).answer ≡ refused 12 0) ↔ ((ys : List ℕ) → AllOctets ys → SaysSame m x ys → ⊥)
  unfolding compact_of compact_in
  twelve-exactly =
      let t = family.twelve-exactly isup m o x.parts (framed m x f) (head_of (circuit_of_lem m)) refl buffer (head-octets (circuit_of_lem m) (circuit-low m o)) in
      (λ e ys p s. t.0 e ys p (same-said m o x f ys p s), λ no. t.1 (λ ys p s. no ys p (said_same m o x f ys s)))

-- a message that is in compact form already comes back as it is
pub compact-unchanged : (m : List ℕ) (x : Message) (buffer : List ℕ) → AllOctets m → CompactForm m x → length m ≤ length buffer → compact_of m buffer ≡ leaving (accepted (length m)) (filled m buffer)
unfolding compact_of compact_in
compact-unchanged m x buffer o c h =
    ap (λ (k : List ℕ). family_compact_of isup k m buffer) (head-back m o c.spare (omega (arith, c.formed.least)))
    ∙ family.compact-unchanged isup m x.parts buffer o (tight m x c) h
