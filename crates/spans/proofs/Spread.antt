-- Entries past the end of a table are none, and a fill makes each entry of a span the octet.
use Prim.Native.Nat.{ℕ, zero, suc, ◌+◌, ◌-◌, ◌≤◌}
use mathlib.Core.Path.{◌≡◌, refl, sym, ◌∙◌, ap}
use mathlib.Core.Bool.{Bool, true, false}
use mathlib.Core.List.{List, append_assoc}
use native.Mathlib.Omega.{arith}
use borrow.Author.Tests.{ltb-false}
use borrow.Rule.Slice.PartMut.{put_mid}
use lib.Dec.{ltb}
use lib.ListN.{length, get_or, take, drop, set, replicate, length-set, length-take, length-drop, length-replicate}
use lib.Seq.{sets, sets-eq}
use Rattle.std.proofs.lemmas.Bool.Decides.{nat_tests}
use Rattle.std.proofs.lemmas.List.Edits.{paste_all}
use Rattle.std.proofs.lemmas.Slice.{put_mid-paste}
use Rattle.octets.specs.Choice.{when◌then◌else◌}
use Rattle.octets.specs.Applied.{applied}
use Rattle.octets.proofs.Applied.{applied-beyond}
use Rattle.spans.specs.Inside.{span_end}

-- fewer are as many, where they reach the end
applied-cut : (f : ℕ → ℕ → ℕ) (k m n : ℕ) (l : List ℕ) → length l ≤ k + m → m ≤ n → applied f k m l ≡ applied f k n l
unfolding applied
applied-cut f k zero n l h e = sym (applied-beyond f k n l (omega arith))
applied-cut f k (suc m) zero l h e = absurd (omega arith)
applied-cut f k (suc m) (suc n) l h e = applied-cut f (suc k) m n (set l k (f k (get_or l k 0))) (simp length-set (omega arith)) (omega arith)

-- up to the end
pub end-reached : (f : ℕ → ℕ → ℕ) (first last end : ℕ) (table : List ℕ) → end ≡ span_end (length table) last → applied f first (end - first) table ≡ applied f first (last + 1 - first) table
unfolding span_end
end-reached f first last end table q = rw q (go (ltb last (length table)) refl)
  where
    go : (t : Bool) → ltb last (length table) ≡ t → applied f first ((when t then last + 1 else length table) - first) table ≡ applied f first (last + 1 - first) table
    go true e = refl
    go false e = let h = ltb-false last (length table) e in applied-cut f first (length table - first) (last + 1 - first) table (omega arith) (omega arith)

-- the end does not pass the table's
pub end-most : (n last : ℕ) → span_end n last ≤ n
unfolding span_end
end-most n last = grind (arith, nat_tests)

-- stores of one octet, one after the other
spread-stored : (octet k n : ℕ) (l : List ℕ) → sets l k (replicate n octet) ≡ applied (λ place old. octet) k n l
unfolding applied
spread-stored octet k zero l = refl
spread-stored octet k (suc n) l = spread-stored octet (suc k) n (set l k octet)

-- a fill of the n entries from k on makes each that octet
pub spread-filled : (octet k n : ℕ) (l part : List ℕ) → k + n ≤ length l → part ≡ replicate (length (take n (drop k l))) octet → put_mid k n l part ≡ applied (λ place old. octet) k n l
spread-filled octet k n l part h e =
    let r = replicate n octet in
    let m : length r ≡ n = length-replicate n octet in
    let q : length (take n (drop k l)) ≡ n = simp (length-take, length-drop) (omega arith) in
    put_mid-paste k n l part r (length r) (e ∙ ap (λ (i : ℕ). replicate i octet) q) m refl ∙ paste_all l k r (length r) refl ∙ sym (sets-eq r l k (omega arith) ∙ append_assoc (take k l) r (drop (k + length r) l)) ∙ spread-stored octet k n l
