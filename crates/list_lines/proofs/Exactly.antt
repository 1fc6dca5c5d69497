-- The line of a well-formed message shows exactly its declared parameters, in order; of a message
-- that the reader refuses, the refusal with its octet.
use Rattle.std.specs.Prelude.{Option, Some, None}
use Rattle.runs.specs.declared.Field.{Field}
use Prim.Native.Nat.{ℕ, zero, suc, ◌+◌, ◌*◌, ◌≤◌, ◌<◌}
use mathlib.Core.Path.{◌≡◌, refl, ap, subst}
use mathlib.Core.List.{List, [], ◌∷◌, ◌++◌}
use mathlib.Core.Logic.{⊎_elim}
use native.Mathlib.Omega.{arith}
use borrow.Author.Tests.{lt-ltb, le-ltb}
use lib.ListN.{length}
use Rattle.octets.specs.Answer.{refused}
use Rattle.runs.specs.Params.{Param, Params, Closes}
use Rattle.runs.proofs.Steps.{at-param}
use Rattle.parts.specs.declared.Parts.{Parts}
use Rattle.layout.proofs.Exactly.{run-params}
use Rattle.family.specs.Family.{Family, read_in}
use Rattle.family.specs.Forms.{FamilyFormed}
use Rattle.family.specs.Steps.{offer_at_lem, steps_from, start_in, Gives, GivesAll}
use Rattle.family.proofs.Family.{read-exactly}
use Rattle.family.proofs.Steps.{past-done, steps-params}
use Rattle.isup.specs.declared.Message.{Message as Isup}
use Rattle.isup.specs.Table.{isup}
use Rattle.isup.specs.Read.{read_of}
use Rattle.isup.specs.WellFormed.{WellFormed}
use Rattle.isup.proofs.Exactly.{framed as isup-framed}
use Rattle.isup.proofs.Places.{parts as isup-parts}
use Rattle.bicc.specs.declared.Message.{Message as Bicc}
use Rattle.bicc.specs.Table.{bicc}
use Rattle.bicc.specs.Read.{call_read_of}
use Rattle.bicc.specs.WellFormed.{CallFormed}
use Rattle.bicc.proofs.Exactly.{framed as bicc-framed}
use Rattle.bicc.proofs.Places.{parts as bicc-parts}
use Rattle.sccp.specs.declared.Message.{Message as Sccp}
use Rattle.sccp.specs.Table.{sccp}
use Rattle.sccp.specs.Read.{sccp_read_of}
use Rattle.sccp.specs.WellFormed.{SccpFormed}
use Rattle.sccp.proofs.Exactly.{framed as sccp-framed}
use Rattle.sccp.proofs.Places.{parts as sccp-parts}
use Rattle.lines.specs.Lines.{shown, fault_line}
use Rattle.list_lines.specs.Lists.{offer_text, steps_text, list_from, list_in, params_text, params_line}
use Rattle.list_lines.proofs.Stepping.{nothing-shown}

-- an answer that is that parameter shows its name and its contents
shows-one : (m : List ℕ) (q : Param) (g : Option Field) → Gives m q g → offer_text m g ≡ shown " " (q.name ∷ []) ++ shown " " q.contents
shows-one m q (Some f) h = rw (h.0, h.1) refl
shows-one m q None h = absurd h

-- answers that are those parameters, and enough of them, show them all
shows-all : (m : List ℕ) (qs : List Param) (gs : List (Option Field)) → length qs ≤ length gs → GivesAll m qs gs → steps_text m gs ≡ params_text qs
unfolding steps_text params_text
shows-all m [] gs l h = nothing-shown m gs h
shows-all m (q ∷ qs) [] l h = absurd (omega arith)
shows-all m (q ∷ qs) (g ∷ gs) l h = rw (shows-one m q g h.0, shows-all m qs gs (omega arith) h.1) refl

-- n steps give n answers
steps-count : (n : ℕ) (m : List ℕ) (i : ℕ) → length (steps_from n m i) ≡ n
unfolding steps_from
steps-count zero m i = refl
steps-count (suc n) m i = ap suc (steps-count n m _)

-- a parameter has two octets at the least
few-params : (m : List ℕ) (qs : List Param) (i z : ℕ) → Params m i qs z → i + 2 * length qs ≤ z
few-params m [] i z p = omega (arith, p)
few-params m (q ∷ qs) i z p = omega (arith, p.1.ends, few-params m qs p.0 z p.2)

-- a run that is not empty has a first parameter, which the first step gives
module _ (m : List ℕ) (i z : ℕ) (l : i < z) (c : Closes m z) where
  run-line : (qs : List Param) → Params m i qs z → list_from m i (offer_at_lem m i) ≡ params_line qs
  unfolding offer_at_lem
  run-line [] p = absurd (omega (arith, p))
  run-line (q ∷ qs) p =
      let x = p.1 in
      let s = at-param m i x.not-zero (subst (λ (k : ℕ). k ≤ length m) x.ends x.inside) in
      let few : length (q ∷ qs) ≤ length (steps_from (length m) m i) = omega (arith, few-params m (q ∷ qs) i z p, c.0, steps-count (length m) m i) in
      let t = shows-all m (q ∷ qs) (steps_from (length m) m i) few (steps-params (length m) m (q ∷ qs) i z p c) in
      rw (s, t) refl

module _ (F : Family) (m : List ℕ) where
  -- the line of a well-formed message of any family: its declared parameters,
  -- name and contents, in order
  pub list-exactly : (p : Parts) (f : FamilyFormed F m p) → list_in F m ≡ params_line f.params
  unfolding list_in start_in
  list-exactly p f =
      rw ((read-exactly F m p).1 f)
      (⊎_elim
      (λ r. simp (lt-ltb _ _ r.0) (run-line m p.optional.from p.optional.to r.0 r.2 f.params r.1))
      (λ r. simp (le-ltb _ _ r.0) (rw (r.1, past-done m (length m) (omega arith)) refl))
      (run-params m F.width f.shape p f.params f.laid))

  -- of a message that the reader refuses: the refusal, with its octet where
  -- the number is from 3 to 8
  pub list-refused : (n at : ℕ) → read_in F m ≡ refused n at → list_in F m ≡ fault_line n at
  unfolding list_in
  list-refused n at e = rw e refl

-- ---- of each family
module _ (m : List ℕ) where
  pub isup-list : (x : Isup) (f : WellFormed m x) → list_in isup m ≡ params_line f.params
  isup-list x f = list-exactly isup m x.parts (isup-framed m x f)

  pub bicc-list : (x : Bicc) (f : CallFormed m x) → list_in bicc m ≡ params_line f.params
  bicc-list x f = list-exactly bicc m x.parts (bicc-framed m x f)

  pub sccp-list : (x : Sccp) (f : SccpFormed m x) → list_in sccp m ≡ params_line f.params
  sccp-list x f = list-exactly sccp m x.parts (sccp-framed m x f)

  pub isup-list-refused : (n at : ℕ) → read_of m ≡ refused n at → list_in isup m ≡ fault_line n at
  isup-list-refused n at e = list-refused isup m n at (isup-parts m n at e)

  pub bicc-list-refused : (n at : ℕ) → call_read_of m ≡ refused n at → list_in bicc m ≡ fault_line n at
  bicc-list-refused n at e = list-refused bicc m n at (bicc-parts m n at e)

  pub sccp-list-refused : (n at : ℕ) → sccp_read_of m ≡ refused n at → list_in sccp m ≡ fault_line n at
  sccp-list-refused n at e = list-refused sccp m n at (sccp-parts m n at e)
