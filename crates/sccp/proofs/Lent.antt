-- What `write` and `compact` leave in the lent buffer: what is written reads
-- back as given; the one compact form, or 12.
use Prim.Native.Nat.{ℕ, ◌≤◌}
use mathlib.Core.Path.{◌≡◌, refl}
use mathlib.Core.List.{List, []}
use mathlib.Core.Logic.{◌⊎◌, inl, inr, ⊎_elim, ◌↔◌}
use lib.ListN.{length, take, drop}
use Rattle.octets.specs.Octet.{AllOctets}
use Rattle.octets.specs.Answer.{accepted, refused}
use Rattle.octets.specs.Filled.{filled, leaving}
use Rattle.writing.proofs.Octets.{all_nil}
use Rattle.family.proofs.Lent as family
use Rattle.sccp.specs.declared.Message.{Message}
use Rattle.sccp.specs.Table.{sccp}
use Rattle.sccp.specs.Read.{sccp_read_of}
use Rattle.sccp.specs.Write.{sccp_order_of, sccp_write_in, sccp_write_of, sccp_compact_in, sccp_compact_of}
use Rattle.sccp.specs.WellFormed.{SccpFormed, SccpCompact, SccpSays, SccpSaysSame}
use Rattle.sccp.proofs.Exactly.{framed}
use Rattle.sccp.proofs.Back.{tight, said, same-said, said_same}

-- ---- writing
module _ (kind : ℕ) (fixed first second third run buffer : List ℕ) (n : ℕ) (left : List ℕ) (e : sccp_write_of kind fixed first second third run buffer ≡ leaving (accepted n) left) where
  -- the n octets that `write` left read; they are in the compact form and say
  -- what was given, octet for octet
  pub write-reads-back : (x : Message) × (sccp_read_of (take n left) ≡ accepted x) × SccpCompact (take n left) x × SccpSays (take n left) x kind fixed first second third run
  unfolding sccp_write_of sccp_write_in
  write-reads-back =
      let b = family.write-reads-back sccp (sccp_order_of kind fixed first second third run) refl buffer n left e in
      said (take n left) b.0 kind fixed first second third run b.2 b.3

  -- the rest of the buffer is kept
  pub write-keeps-rest : (n ≤ length buffer) × (drop n left ≡ drop n buffer)
  unfolding sccp_write_of sccp_write_in
  write-keeps-rest = family.write-keeps-rest sccp (sccp_order_of kind fixed first second third run) refl buffer n left e

-- ---- reading and writing again, of a message of octets
module _ (m : List ℕ) (o : AllOctets m) (x : Message) (f : SccpFormed m x) (buffer : List ℕ) where
  -- the n octets that `compact` left are in the compact form and say the same
  pub compact-says-same : (n : ℕ) (left : List ℕ) → sccp_compact_of m buffer ≡ leaving (accepted n) left → SccpSaysSame m x (take n left)
  unfolding sccp_compact_of sccp_compact_in
  compact-says-same n left e = said_same m x f (take n left) (family.compact-says-same sccp m o x.parts (framed m x f) [] refl buffer n left e)

  -- the rest of the buffer is kept
  pub compact-keeps-rest : (n : ℕ) (left : List ℕ) → sccp_compact_of m buffer ≡ leaving (accepted n) left → (n ≤ length buffer) × (drop n left ≡ drop n buffer)
  unfolding sccp_compact_of sccp_compact_in
  compact-keeps-rest n left e = family.compact-keeps-rest sccp m o x.parts (framed m x f) [] refl buffer n left e

  -- with a buffer as long as the message: 12, or a message in compact form that says the same
  pub compact-or-twelve : length m ≤ length buffer
      → (sccp_compact_of m buffer ≡ leaving (refused 12 0) buffer) ⊎ ((n : ℕ) × (left : List ℕ) × (sccp_compact_of m buffer ≡ leaving (accepted n) left) × SccpSaysSame m x (take n left))
  unfolding sccp_compact_of sccp_compact_in
  compact-or-twelve h =
      ⊎_elim (λ y. inl y) (λ y. inr (y.0, y.1, y.2, said_same m x f (take y.0 y.1) y.3))
      (family.compact-or-twelve sccp m o x.parts (framed m x f) [] refl buffer h)

  -- 12 exactly where no message in compact form says the same
  pub twelve-exactly : ((sccp_compact_of m buffer).answer ≡ refused 12 0) ↔ ((ys : List ℕ) → AllOctets ys → SccpSaysSame m x ys → ⊥)
  unfolding sccp_compact_of sccp_compact_in
  twelve-exactly =
      let t = family.twelve-exactly sccp m o x.parts (framed m x f) [] refl buffer all_nil in
      (λ e ys p s. t.0 e ys p (same-said m x f ys s), λ no. t.1 (λ ys p s. no ys p (said_same m x f ys s)))

-- a message that is in compact form already comes back as it is
pub compact-unchanged : (m : List ℕ) (x : Message) (buffer : List ℕ) → AllOctets m → SccpCompact m x → length m ≤ length buffer → sccp_compact_of m buffer ≡ leaving (accepted (length m)) (filled m buffer)
unfolding sccp_compact_of sccp_compact_in
compact-unchanged m x buffer o c h = family.compact-unchanged sccp m x.parts buffer o (tight m x c) h
