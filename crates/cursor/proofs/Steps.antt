-- A cursor from its start on: it keeps hold of the same memory, and its steps give
-- exactly the declared parameters, in order, then done for ever; over a message that
-- the reader refuses, done from the first.
use Prim.Native.Nat.{ℕ, zero, suc}
use mathlib.Core.Path.{◌≡◌, refl, sym, ◌∙◌, subst}
use mathlib.Core.List.{List, [], ◌∷◌}
use denote.Ref.{Bor}
use Rattle.std.specs.Prelude.{Option}
use Rattle.octets.specs.Answer.{refused}
use Rattle.parts.specs.declared.Parts.{Parts}
use Rattle.runs.specs.declared.Field.{Field}
use Rattle.family.specs.Family.{Family, read_in}
use Rattle.family.specs.Forms.{FamilyFormed}
use Rattle.family.specs.Steps.{offer_at_lem, place_after_lem, steps_from, start_in, GivesAll}
use Rattle.family.proofs.Steps.{steps-exactly, refused-done}
use Rattle.isup.specs.declared.Message.{Message as Isup}
use Rattle.isup.specs.Table.{isup}
use Rattle.isup.specs.WellFormed.{WellFormed}
use Rattle.isup.proofs.Exactly.{framed as isup-framed}
use Rattle.bicc.specs.declared.Message.{Message as Bicc}
use Rattle.bicc.specs.Table.{bicc}
use Rattle.bicc.specs.WellFormed.{CallFormed}
use Rattle.bicc.proofs.Exactly.{framed as bicc-framed}
use Rattle.sccp.specs.declared.Message.{Message as Sccp}
use Rattle.sccp.specs.Table.{sccp}
use Rattle.sccp.specs.WellFormed.{SccpFormed}
use Rattle.sccp.proofs.Exactly.{framed as sccp-framed}
use Rattle.cursor.specs.declared.Cursor.{Cursor}
use Rattle.cursor.specs.Start.{Begun, Moved, firsts}

-- what the cursors hold and give, one after the other, from any cursor on
held : (c : ℕ → Cursor) → ((k : ℕ) → Moved (c k) (c (suc k))) → (n : ℕ) → (c n).message ≡ (c 0).message
held c gone zero = refl
held c gone (suc n) = (gone n).0 ∙ held c gone n

gives : (n : ℕ) (c : ℕ → Cursor) (g : ℕ → Option Field) → ((k : ℕ) → Moved (c k) (c (suc k))) → ((k : ℕ) → g k ≡ offer_at_lem (c k).message.now (c k).at) → firsts n g ≡ steps_from n (c 0).message.now (c 0).at
unfolding steps_from
gives zero c g gone given = refl
gives (suc n) c g gone given =
    let rest : firsts n (λ k. g (suc k)) ≡ steps_from n (c 1).message.now (c 1).at = gives n (λ k. c (suc k)) (λ k. g (suc k)) (λ k. gone (suc k)) (λ k. given (suc k)) in
    let on : steps_from n (c 1).message.now (c 1).at ≡ steps_from n (c 0).message.now (place_after_lem (c 0).message.now (c 0).at) = λ i. steps_from n ((gone 0).0 i).now ((gone 0).1 i) in
    λ i. given 0 i ∷ (rest ∙ on) i

-- the cursors c 0, c 1, .. from the start over the lent message s, each past the one before it, and
-- what a step of each gives
module _ (F : Family) (s : Bor (List ℕ)) (c : ℕ → Cursor) (g : ℕ → Option Field) (begun : Begun F s (c 0)) (gone : (k : ℕ) → Moved (c k) (c (suc k))) (given : (k : ℕ) → g k ≡ offer_at_lem (c k).message.now (c k).at) where
  -- every one keeps hold of the same memory
  pub cursor-keeps : (n : ℕ) → (c n).message ≡ s
  cursor-keeps n = held c gone n ∙ begun.0

  cursor-gives : (n : ℕ) → firsts n g ≡ steps_from n s.now (start_in F s.now)
  cursor-gives n =
      let at : (c 0).at ≡ start_in F s.now = begun.1 in
      gives n c g gone given ∙ (λ i. steps_from n (begun.0 i).now (at i))

  -- the first n answers are the declared parameters, in order, and done from there on
  pub cursor-exactly : (p : Parts) (f : FamilyFormed F s.now p) (n : ℕ) → GivesAll s.now f.params (firsts n g)
  cursor-exactly p f n = subst (λ (gs : List (Option Field)). GivesAll s.now f.params gs) (sym (cursor-gives n)) (steps-exactly F s.now p f n)

  -- over a message that the reader refuses, every answer is done
  pub cursor-refused : (k at : ℕ) → read_in F s.now ≡ refused k at → (n : ℕ) → GivesAll s.now [] (firsts n g)
  cursor-refused k at e n = subst (λ (gs : List (Option Field)). GivesAll s.now [] gs) (sym (cursor-gives n)) (refused-done F s.now k at n e)

-- ---- of each family
module _ (s : Bor (List ℕ)) (c : ℕ → Cursor) (g : ℕ → Option Field) (gone : (k : ℕ) → Moved (c k) (c (suc k))) (given : (k : ℕ) → g k ≡ offer_at_lem (c k).message.now (c k).at) where
  pub isup-steps : Begun isup s (c 0) → (x : Isup) (f : WellFormed s.now x) (n : ℕ) → GivesAll s.now f.params (firsts n g)
  isup-steps b x f n = cursor-exactly isup s c g b gone given x.parts (isup-framed s.now x f) n

  pub bicc-steps : Begun bicc s (c 0) → (x : Bicc) (f : CallFormed s.now x) (n : ℕ) → GivesAll s.now f.params (firsts n g)
  bicc-steps b x f n = cursor-exactly bicc s c g b gone given x.parts (bicc-framed s.now x f) n

  pub sccp-steps : Begun sccp s (c 0) → (x : Sccp) (f : SccpFormed s.now x) (n : ℕ) → GivesAll s.now f.params (firsts n g)
  sccp-steps b x f n = cursor-exactly sccp s c g b gone given x.parts (sccp-framed s.now x f) n
