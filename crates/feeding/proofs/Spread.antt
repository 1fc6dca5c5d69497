-- A part of a table that is filled with one octet, as `spread` says it.
use Prim.Native.Nat.{ℕ, zero, suc, ◌+◌, ◌-◌, ◌<◌, ◌≤◌}
use mathlib.Core.Path.{◌≡◌, refl, sym, ◌∙◌}
use mathlib.Core.List.{List, ◌++◌}
use native.Mathlib.Omega.{arith}
use lib.ListN.{length, take, drop, replicate, set, length-replicate}
use lib.Seq.{sets, sets-eq, take_all}
use borrow.Rule.Slice.PartMut.{put_mid}
use Rattle.std.proofs.lemmas.Slice.{put_mid-paste}
use Rattle.octets.specs.Applied.{applied, spread}

-- one octet after the other
spread-sets : (v k n : ℕ) (l : List ℕ) → applied (λ (place old : ℕ). v) k n l ≡ sets l k (replicate n v)
unfolding applied
spread-sets v k zero l = refl
spread-sets v k (suc n) l = spread-sets v (suc k) n (set l k v)

pub spread-filled : (table part : List ℕ) (first last v : ℕ) → first ≤ last → last < length table → part ≡ replicate (last + 1 - first) v → put_mid first (last + 1 - first) table part ≡ spread table first last v
spread-filled table part first last v h within e =
    let n = last + 1 - first in
    let s = length-replicate n v in
    put_mid-paste first n table part (replicate n v) n e refl (sym s)
    ∙ (λ i. take first table ++ take_all n (replicate n v) (omega (arith, s)) i ++ drop (first + sym s i) table)
    ∙ sym (sets-eq (replicate n v) table first (omega (arith, s, h, within)))
    ∙ sym (spread-sets v first n table)
