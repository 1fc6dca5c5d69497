-- What a line leaves as it was.
use Prim.Native.Nat.{ℕ}
use mathlib.Core.Path.{◌≡◌, refl, sym, ◌∙◌, ap, subst}
use mathlib.Core.Bool.{Bool, true, false}
use mathlib.Core.List.{List}
use Rattle.octets.specs.Choice.{when◌then◌else◌}
use Rattle.fields.specs.Kinds.{FieldSays}
use Rattle.forms.specs.Rows.{OWN, HELPER, SET, ACT, BLOCK, UNBLOCK, TOTAL, REBUILD, TICK}
use Rattle.requests.specs.Words.{Asked, asks, nothing, asked_of}
use Rattle.lines.specs.Lines.{refusal}
use Rattle.table_lines.specs.Tables.{DeskTables}
use Rattle.turns.specs.Turns.{Desk, desk_turn}
use Rattle.turns.proofs.Kept.{Refused, NotBlocked, owners-by, helpers-by, states-by, totals-by, held_by, ticks-by}
use Rattle.answers.specs.Answers.{desk_sized, turn_for, turn_of}

module _ (line : List ℕ) (D : Desk) where
  -- a line that is no request changes no table
  pub bad-line-keeps : asked_of line ≡ nothing → (turn_of line D).desk ≡ D
  unfolding turn_of
  bad-line-keeps e = go (desk_sized D)
    where
      go : (t : Bool) → (when t then turn_for D (asked_of line) else desk_turn D (refusal 16)).desk ≡ D
      go true = ap (λ (a : Asked). (turn_for D a).desk) e
      go false = refl

  -- who owns a circuit changes by `own` alone
  pub owners-kept : ((gs : List FieldSays) → asked_of line ≡ asks OWN gs → ⊥) → (turn_of line D).desk.held.tables.owners ≡ D.held.tables.owners
  unfolding turn_of
  owners-kept h = go (desk_sized D) (asked_of line) refl
    where
      go : (t : Bool) (a : Asked) → asked_of line ≡ a → (when t then turn_for D a else desk_turn D (refusal 16)).desk.held.tables.owners ≡ D.held.tables.owners
      go true (asks which gs) e = held_by D which gs (λ (U : DeskTables). U.tables.owners ≡ D.held.tables.owners) (owners-by D.held which gs (λ w. h gs (e ∙ ap (λ (n : ℕ). asks n gs) w))) refl
      go true nothing e = refl
      go false a e = refl

  -- who helps a circuit changes by `helper` alone
  pub helpers-kept : ((gs : List FieldSays) → asked_of line ≡ asks HELPER gs → ⊥) → (turn_of line D).desk.held.tables.helpers ≡ D.held.tables.helpers
  unfolding turn_of
  helpers-kept h = go (desk_sized D) (asked_of line) refl
    where
      go : (t : Bool) (a : Asked) → asked_of line ≡ a → (when t then turn_for D a else desk_turn D (refusal 16)).desk.held.tables.helpers ≡ D.held.tables.helpers
      go true (asks which gs) e = held_by D which gs (λ (U : DeskTables). U.tables.helpers ≡ D.held.tables.helpers) (helpers-by D.held which gs (λ w. h gs (e ∙ ap (λ (n : ℕ). asks n gs) w))) refl
      go true nothing e = refl
      go false a e = refl

  -- a row changes by `set`, by an `act` that the hub does not refuse, or by a `block` or an
  -- `unblock` that is not refused
  pub states-kept : ((gs : List FieldSays) → asked_of line ≡ asks SET gs → ⊥) → ((gs : List FieldSays) → asked_of line ≡ asks ACT gs → Refused D.held gs)
      → ((gs : List FieldSays) → asked_of line ≡ asks BLOCK gs → NotBlocked D.held BLOCK gs) → ((gs : List FieldSays) → asked_of line ≡ asks UNBLOCK gs → NotBlocked D.held UNBLOCK gs) → (turn_of line D).desk.held.tables.states ≡ D.held.tables.states
  unfolding turn_of
  states-kept h r p q = go (desk_sized D) (asked_of line) refl
    where
      go : (t : Bool) (a : Asked) → asked_of line ≡ a → (when t then turn_for D a else desk_turn D (refusal 16)).desk.held.tables.states ≡ D.held.tables.states
      go true (asks which gs) e =
          held_by D which gs (λ (U : DeskTables). U.tables.states ≡ D.held.tables.states)
          (states-by D.held which gs (λ w. h gs (e ∙ ap (λ (n : ℕ). asks n gs) w)) (λ w. r gs (e ∙ ap (λ (n : ℕ). asks n gs) w))
          (λ w. subst (λ (n : ℕ). NotBlocked D.held n gs) (sym w) (p gs (e ∙ ap (λ (n : ℕ). asks n gs) w)))
          (λ w. subst (λ (n : ℕ). NotBlocked D.held n gs) (sym w) (q gs (e ∙ ap (λ (n : ℕ). asks n gs) w))))
          refl
      go true nothing e = refl
      go false a e = refl

  -- a total changes by these, by `total` and by `rebuild`
  pub totals-kept : ((gs : List FieldSays) → asked_of line ≡ asks SET gs → ⊥) → ((gs : List FieldSays) → asked_of line ≡ asks ACT gs → Refused D.held gs)
      → ((gs : List FieldSays) → asked_of line ≡ asks BLOCK gs → NotBlocked D.held BLOCK gs) → ((gs : List FieldSays) → asked_of line ≡ asks UNBLOCK gs → NotBlocked D.held UNBLOCK gs)
      → ((gs : List FieldSays) → asked_of line ≡ asks TOTAL gs → ⊥) → ((gs : List FieldSays) → asked_of line ≡ asks REBUILD gs → ⊥) → (turn_of line D).desk.held.totals ≡ D.held.totals
  unfolding turn_of
  totals-kept h r p q t k = go (desk_sized D) (asked_of line) refl
    where
      go : (b : Bool) (a : Asked) → asked_of line ≡ a → (when b then turn_for D a else desk_turn D (refusal 16)).desk.held.totals ≡ D.held.totals
      go true (asks which gs) e =
          held_by D which gs (λ (U : DeskTables). U.totals ≡ D.held.totals)
          (totals-by D.held which gs (λ w. h gs (e ∙ ap (λ (n : ℕ). asks n gs) w)) (λ w. r gs (e ∙ ap (λ (n : ℕ). asks n gs) w))
          (λ w. subst (λ (n : ℕ). NotBlocked D.held n gs) (sym w) (p gs (e ∙ ap (λ (n : ℕ). asks n gs) w)))
          (λ w. subst (λ (n : ℕ). NotBlocked D.held n gs) (sym w) (q gs (e ∙ ap (λ (n : ℕ). asks n gs) w)))
          (λ w. t gs (e ∙ ap (λ (n : ℕ). asks n gs) w))
          (λ w. k gs (e ∙ ap (λ (n : ℕ). asks n gs) w)))
          refl
      go true nothing e = refl
      go false a e = refl

  -- a tick changes by `tick` alone: `plan` and `check` change nothing
  pub ticks-kept : ((gs : List FieldSays) → asked_of line ≡ asks TICK gs → ⊥) → (turn_of line D).desk.ticks ≡ D.ticks
  unfolding turn_of
  ticks-kept h = go (desk_sized D) (asked_of line) refl
    where
      go : (t : Bool) (a : Asked) → asked_of line ≡ a → (when t then turn_for D a else desk_turn D (refusal 16)).desk.ticks ≡ D.ticks
      go true (asks which gs) e = ticks-by D which gs (λ w. h gs (e ∙ ap (λ (n : ℕ). asks n gs) w))
      go true nothing e = refl
      go false a e = refl
