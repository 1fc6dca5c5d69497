-- What `write` and `compact` leave in the lent buffer: what is written reads back as given, the
-- code included; the one compact form, or 12.
use Prim.Native.Nat.{ℕ, ◌≤◌, ◌<◌}
use mathlib.Core.Path.{◌≡◌, refl}
use mathlib.Core.List.{List}
use mathlib.Core.Logic.{◌⊎◌, inl, inr, ⊎_elim, ◌↔◌}
use lib.ListN.{length, take, drop}
use Rattle.octets.specs.Octet.{octets, AllOctets}
use Rattle.octets.specs.Answer.{accepted, refused}
use Rattle.octets.specs.Filled.{filled, leaving}
use Rattle.family.proofs.LowFirst.{take-octets}
use Rattle.family.proofs.Lent as family
use Rattle.bicc.specs.declared.Message.{Message}
use Rattle.bicc.specs.Table.{bicc}
use Rattle.bicc.specs.Read.{call_read_of}
use Rattle.bicc.specs.Write.{call_order_of, call_write_in, call_write_of, call_compact_in, call_compact_of}
use Rattle.bicc.specs.WellFormed.{CallFormed, CallCompact, CallSays, CallSaysSame}
use Rattle.bicc.proofs.Exactly.{framed}
use Rattle.bicc.proofs.Back.{tight, head-length, said, same-said, said_same}

-- ---- writing
module _ (code kind : ℕ) (fixed first second run buffer : List ℕ) (n : ℕ) (left : List ℕ) (e : call_write_of code kind fixed first second run buffer ≡ leaving (accepted n) left) where
  -- the n octets that `write` left read; they are in the compact form and say what was given, code
  -- and all, octet for octet
  pub write-reads-back : code < 4294967296 → (x : Message) × (call_read_of (take n left) ≡ accepted x) × CallCompact (take n left) x × CallSays (take n left) x code kind fixed first second run
  unfolding call_write_of call_write_in
  write-reads-back h =
      let b = family.write-reads-back bicc (call_order_of code kind fixed first second run) refl buffer n left e in
      said (take n left) b.0 code kind fixed first second run h b.2 b.3

  -- the rest of the buffer is kept
  pub write-keeps-rest : (n ≤ length buffer) × (drop n left ≡ drop n buffer)
  unfolding call_write_of call_write_in
  write-keeps-rest = family.write-keeps-rest bicc (call_order_of code kind fixed first second run) refl buffer n left e

-- ---- reading and writing again, of a message of octets
module _ (m : List ℕ) (o : AllOctets m) (x : Message) (f : CallFormed m x) (buffer : List ℕ) where
  -- the n octets that `compact` left are in the compact form and say the same
  pub compact-says-same : (n : ℕ) (left : List ℕ) → call_compact_of m buffer ≡ leaving (accepted n) left → CallSaysSame m x (take n left)
  unfolding call_compact_of call_compact_in
  compact-says-same n left e = said_same m o x f (take n left) (family.compact-says-same bicc m o x.parts (framed m x f) (octets m 0 4) (head-length m x f) buffer n left e)

  -- the rest of the buffer is kept
  pub compact-keeps-rest : (n : ℕ) (left : List ℕ) → call_compact_of m buffer ≡ leaving (accepted n) left → (n ≤ length buffer) × (drop n left ≡ drop n buffer)
  unfolding call_compact_of call_compact_in
  compact-keeps-rest n left e = family.compact-keeps-rest bicc m o x.parts (framed m x f) (octets m 0 4) (head-length m x f) buffer n left e

  -- with a buffer as long as the message: 12, or a message in compact form that says the same
  pub compact-or-twelve : length m ≤ length buffer
      → (call_compact_of m buffer ≡ leaving (refused 12 0) buffer) ⊎ ((n : ℕ) × (left : List ℕ) × (call_compact_of m buffer ≡ leaving (accepted n) left) × CallSaysSame m x (take n left))
  unfolding call_compact_of call_compact_in
  compact-or-twelve h =
      ⊎_elim (λ y. inl y) (λ y. inr (y.0, y.1, y.2, said_same m o x f (take y.0 y.1) y.3))
      (family.compact-or-twelve bicc m o x.parts (framed m x f) (octets m 0 4) (head-length m x f) buffer h)

  -- 12 exactly where no message in compact form says the same
  pub twelve-exactly : ((call_compact_of m buffer).answer ≡ refused 12 0) ↔ ((ys : List ℕ) → AllOctets ys → CallSaysSame m x ys → ⊥)
  unfolding call_compact_of call_compact_in
  twelve-exactly =
      let t = family.twelve-exactly bicc m o x.parts (framed m x f) (octets m 0 4) (head-length m x f) buffer (take-octets 4 m o) in
      (λ e ys p s. t.0 e ys p (same-said m o x f ys p s), λ no. t.1 (λ ys p s. no ys p (said_same m o x f ys s)))

-- a message that is in compact form already comes back as it is: a code has no spare bits
pub compact-unchanged : (m : List ℕ) (x : Message) (buffer : List ℕ) → AllOctets m → CallCompact m x → length m ≤ length buffer → call_compact_of m buffer ≡ leaving (accepted (length m)) (filled m buffer)
unfolding call_compact_of call_compact_in
compact-unchanged m x buffer o c h = family.compact-unchanged bicc m x.parts buffer o (tight m x c) h
