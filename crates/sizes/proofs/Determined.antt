-- Any two answers that the contract of `sized` allows are equal.
use Prim.Native.Nat.{ℕ}
use mathlib.Core.Path.{◌≡◌, sym, ◌∙◌}
use mathlib.Core.Bool.{Bool}
use Rattle.sizes.specs.Sizes.{desk_sized_by}

pub desk-sized-determined : (states owners helpers totals ticks : ℕ) (r s : Bool)
    → r ≡ desk_sized_by states owners helpers totals ticks
    → s ≡ desk_sized_by states owners helpers totals ticks
    → r ≡ s
desk-sized-determined states owners helpers totals ticks r s p q = p ∙ sym q
