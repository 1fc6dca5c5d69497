-- Which types ask for an act, and for which: each act has its type, and no other type has one.
use Prim.Native.Nat.{ℕ}
use mathlib.Core.Path.{◌≡◌, refl, sym, ◌∙◌, ap, subst}
use mathlib.Core.List.{List, [], ◌∷◌}
use mathlib.Core.Logic.{inl, inr, ⊎_elim}
use borrow.Author.Tests.{eqb-true, ne_eqb}
use lib.Dec.{eqb}
use Rattle.octets.specs.Answer.{accepted, refused}
use Rattle.octets.specs.Among.{OneOf}
use Rattle.octets.proofs.Answer.{refused-accepted, accepted-same}
use Rattle.octets.proofs.Choice.{chosen}
use Rattle.rows.specs.declared.Act.{Act}
use Rattle.rows.specs.declared.Act.TheVariants.{Seize, Release, Reset, Block, Unblock, ResetGroup, BlockGroup, UnblockGroup, Query}
use Rattle.asks.specs.Types.{acting, type_of, acts, act_among, act_for}

-- the type of an act asks for it
pub for-type : (kind : ℕ) (act : Act) → kind ≡ type_of act → act_for kind ≡ accepted act
unfolding act_for
for-type kind Seize e = rw e
for-type kind Release e = rw e
for-type kind Reset e = rw e
for-type kind Block e = rw e
for-type kind Unblock e = rw e
for-type kind ResetGroup e = rw e
for-type kind BlockGroup e = rw e
for-type kind UnblockGroup e = rw e
for-type kind Query e = rw e

type-among : (kind : ℕ) (l : List Act) (act : Act) → act_among kind l ≡ accepted act → kind ≡ type_of act
type-among kind [] act e = absurd (refused-accepted e)
type-among kind (b ∷ bs) act e =
    ⊎_elim
    (λ w. eqb-true kind (type_of b) w.0 ∙ ap type_of (accepted-same w.1))
    (λ w. type-among kind bs act w.1)
    (chosen (eqb kind (type_of b)) e)

-- and no other does
pub type-is : (kind : ℕ) (act : Act) → act_for kind ≡ accepted act → kind ≡ type_of act
unfolding act_for
type-is kind act e = type-among kind acts act e

none-among : (kind : ℕ) (l : List Act) → ((act : Act) → kind ≡ type_of act → ⊥) → act_among kind l ≡ refused 17 0
none-among kind [] n = refl
none-among kind (b ∷ bs) n = rw (ne_eqb kind (type_of b) (n b)) (none-among kind bs n)

-- where no act has the type, 17
pub no-act : (kind : ℕ) → ((act : Act) → kind ≡ type_of act → ⊥) → act_for kind ≡ refused 17 0
unfolding act_for
no-act kind n = none-among kind acts n

type-acting : (act : Act) → OneOf (type_of act) acting
type-acting Seize = inl refl
type-acting Release = inr (inl refl)
type-acting Reset = inr (inr (inl refl))
type-acting Block = inr (inr (inr (inl refl)))
type-acting Unblock = inr (inr (inr (inr (inl refl))))
type-acting ResetGroup = inr (inr (inr (inr (inr (inl refl)))))
type-acting BlockGroup = inr (inr (inr (inr (inr (inr (inl refl))))))
type-acting UnblockGroup = inr (inr (inr (inr (inr (inr (inr (inl refl)))))))
type-acting Query = inr (inr (inr (inr (inr (inr (inr (inr (inl refl))))))))

-- the types that the hub acts on are those of its acts
pub one-acting : (kind : ℕ) (act : Act) → kind ≡ type_of act → OneOf kind acting
one-acting kind act e = subst (λ (k : ℕ). OneOf k acting) (sym e) (type-acting act)

pub acting-act : (kind : ℕ) → OneOf kind acting → (act : Act) × (kind ≡ type_of act)
acting-act kind o =
    ⊎_elim (λ e. (Seize, e)) (⊎_elim (λ e. (Release, e)) (⊎_elim (λ e. (Reset, e)) (⊎_elim (λ e. (Block, e)) (⊎_elim (λ e. (Unblock, e)) (⊎_elim (λ e. (ResetGroup, e)) (⊎_elim (λ e. (BlockGroup, e)) (⊎_elim (λ e. (UnblockGroup, e)) (⊎_elim (λ e. (Query, e)) (λ n. absurd n))))))))) o
