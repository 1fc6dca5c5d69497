-- A part of a buffer that is written over from its first octet to its last.
use Prim.Native.Nat.{ℕ, ◌+◌, ◌≤◌}
use mathlib.Core.Path.{◌≡◌, refl, sym, ◌∙◌, ap}
use mathlib.Core.List.{List, ◌++◌}
use native.Mathlib.Omega.{arith}
use lib.ListN.{length, take, drop, drop_of_length-le}
use lib.Seq.{sets, sets-eq, take_all}
use borrow.Rule.Slice.PartMut.{put_mid}
use Rattle.std.proofs.Common.{append-nil}
use Rattle.std.proofs.lemmas.Slice.{put_mid-paste}

pub whole-stored : (l vs : List ℕ) → length l ≡ length vs → sets l 0 vs ≡ vs
whole-stored l vs e =
    sets-eq vs l 0 (omega (arith, e))
    ∙ ap (λ (r : List ℕ). vs ++ r) (drop_of_length-le l (omega (arith, e)))
    ∙ append-nil vs

pub part-stored : (l part vs : List ℕ) (at k : ℕ) → length vs ≡ k → at + k ≤ length l → part ≡ vs → put_mid at k l part ≡ sets l at vs
part-stored l part vs at k s h e =
    put_mid-paste at k l part vs k e refl (sym s)
    ∙ (λ i. take at l ++ take_all k vs (omega (arith, s)) i ++ drop (at + sym s i) l)
    ∙ sym (sets-eq vs l at (omega (arith, s, h)))
