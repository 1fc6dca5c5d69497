-- The contents of document 01 and a few beside them, as they are read.
use Prim.Native.Nat.{ℕ}
use mathlib.Core.Path.{◌≡◌, refl}
use mathlib.Core.List.{List, [], ◌∷◌, ◌++◌}
use lib.ListN.{replicate}
use Rattle.octets.specs.Answer.{accepted, refused}
use Rattle.number.specs.Halves.{halves}
use Rattle.number.specs.Contents.{signals_in}
use Rattle.octets.specs.Filled.{leaving}
use Rattle.number.specs.Read.{number_in, read_number_of}

-- 83 10 21 03 (hex)
abbrev pub contents123 : List ℕ
contents123 = 131 ∷ 16 ∷ 33 ∷ 3 ∷ []

-- 03 10 21 43 (hex)
abbrev pub contents1234 : List ℕ
contents1234 = 3 ∷ 16 ∷ 33 ∷ 67 ∷ []

-- 83 10 21 03 are 123, with nature 3, plan 1, internal network bit 0
pub reads-123 : number_in contents123 ≡ accepted (record { nature = 3; plan = 1; internal = 0; count = 3 }, 1 ∷ 2 ∷ 3 ∷ [])
unfolding signals_in halves
reads-123 = refl

-- 03 10 21 43 are 1234, with the same
pub reads-1234 : number_in contents1234 ≡ accepted (record { nature = 3; plan = 1; internal = 0; count = 4 }, 1 ∷ 2 ∷ 3 ∷ 4 ∷ [])
unfolding signals_in halves
reads-1234 = refl

-- two octets and even is a number with no signals, whatever the spare bits
pub reads_none : number_in (3 ∷ 31 ∷ []) ≡ accepted (record { nature = 3; plan = 1; internal = 0; count = 0 }, [])
unfolding signals_in halves
reads_none = refl

-- two octets and odd is refused
pub refuses-odd-none : number_in (131 ∷ 16 ∷ []) ≡ refused 14 0
refuses-odd-none = refl

-- a filler that is not 0 is refused
pub refuses-filler : number_in (131 ∷ 16 ∷ 33 ∷ 67 ∷ []) ≡ refused 14 0
refuses-filler = refl

-- signals above 9 are signals as any other
pub reads-15 : number_in (3 ∷ 16 ∷ 250 ∷ []) ≡ accepted (record { nature = 3; plan = 1; internal = 0; count = 2 }, 10 ∷ 15 ∷ [])
unfolding signals_in halves
reads-15 = refl

-- 30 signals are read
pub reads-30 : number_in (3 ∷ 16 ∷ replicate 15 17) ≡ accepted (record { nature = 3; plan = 1; internal = 0; count = 30 }, replicate 30 1)
unfolding signals_in halves
reads-30 = refl

-- 31 signals are refused
pub refuses-31 : number_in (131 ∷ 16 ∷ (replicate 15 17 ++ (1 ∷ []))) ≡ refused 14 0
refuses-31 = refl

-- reading fills the front of the buffer alone: the octet past the count is kept
pub leaves-the-rest : read_number_of contents123 (9 ∷ 9 ∷ 9 ∷ 9 ∷ []) ≡ leaving (accepted (record { nature = 3; plan = 1; internal = 0; count = 3 })) (1 ∷ 2 ∷ 3 ∷ 9 ∷ [])
unfolding signals_in halves
leaves-the-rest = refl

-- a buffer shorter than the count is refused with 13, and kept
pub refuses-short : read_number_of contents123 (9 ∷ 9 ∷ []) ≡ leaving (refused 13 0) (9 ∷ 9 ∷ [])
unfolding signals_in halves
refuses-short = refl
