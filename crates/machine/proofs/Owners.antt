-- Who owns each circuit, in the paper's words; and a message that is too long.
use Prim.Native.Nat.{ℕ, ◌+◌, ◌-◌, ◌<◌, ◌≤◌}
use mathlib.Core.Path.{◌≡◌, refl, sym, ◌∙◌, ap, subst}
use mathlib.Core.List.{List, [], ◌∷◌}
use mathlib.Core.Logic.{◌⊎◌, inl, inr, ⊎_elim}
use native.Mathlib.Omega.{arith}
use native.Mathlib.Decide.{dec_lt}
use lib.ListN.{length, length-replicate}
use Rattle.octets.specs.Octet.{octet}
use Rattle.octets.specs.Applied.{spread}
use Rattle.octets.proofs.Applied.{length-applied, applied-below, applied-past, applied-in}
use Rattle.octets.proofs.Octet.{zero-at}
use Rattle.book.specs.declared.Await.TheVariants.{Bad}
use Rattle.book.specs.Book.{Span, Book, Ascending, Good}
use Rattle.day.specs.Day.{Day, machine, nobody}
use Rattle.machine.specs.Machine.{head_come}
use Rattle.machine.specs.Replay.{owners_from, owners_of}

-- a span is one of the list
abbrev pub HasSpan : Span → List Span → Type 0
HasSpan s [] = ⊥
HasSpan s (t ∷ ts) = (s ≡ t) ⊎ HasSpan s ts

-- spans from circuit `next` on leave what is below
owners-below : (ss : List Span) (next : ℕ) (table : List ℕ) → Ascending next ss → (c : ℕ) → c < next → octet (owners_from table ss) c ≡ octet table c
unfolding owners_from
owners-below [] next table g c h = refl
owners-below (s ∷ ss) next table g c h =
    owners-below ss (s.last + 1) (spread table s.first s.last s.sender) g.1 c (omega (arith, g.0.above, g.0.upwards))
    ∙ applied-below (λ place old. s.sender) s.first (s.last + 1 - s.first) table c (omega (arith, g.0.above))

spans-in : (ss : List Span) (next : ℕ) (table : List ℕ) → Ascending next ss → length table ≡ 4096 → (s : Span) → HasSpan s ss → (c : ℕ) → s.first ≤ c → c ≤ s.last → octet (owners_from table ss) c ≡ s.sender
unfolding owners_from
spans-in [] next table g l s h c a b = absurd h
spans-in (t ∷ ts) next table g l s h c a b =
    go (λ r. spans-in ts (t.last + 1) (spread table t.first t.last t.sender) g.1 (length-applied (λ place old. t.sender) t.first (t.last + 1 - t.first) table ∙ l) s r c a b) h
  where
    go : (HasSpan s ts → octet (owners_from (spread table t.first t.last t.sender) ts) c ≡ s.sender) → (s ≡ t) ⊎ HasSpan s ts → octet (owners_from (spread table t.first t.last t.sender) ts) c ≡ s.sender
    go later (inl e) =
        let a₁ : t.first ≤ c = subst (λ (x : Span). x.first ≤ c) e a in
        let b₁ : c ≤ t.last = subst (λ (x : Span). c ≤ x.last) e b in
        owners-below ts (t.last + 1) (spread table t.first t.last t.sender) g.1 c (omega arith)
        ∙ applied-in (λ place old. t.sender) t.first (t.last + 1 - t.first) table c a₁ (omega arith) (omega (arith, g.0.circuits))
        ∙ ap (λ (x : Span). x.sender) (sym e)
    go later (inr r) = later r

spans-out : (ss : List Span) (table : List ℕ) (c : ℕ) → ((s : Span) → HasSpan s ss → (c < s.first) ⊎ (s.last < c)) → octet (owners_from table ss) c ≡ octet table c
unfolding owners_from
spans-out [] table c n = refl
spans-out (t ∷ ts) table c n =
    spans-out ts (spread table t.first t.last t.sender) c (λ s h. n s (inr h))
    ∙ ⊎_elim
    (λ (h : c < t.first). applied-below (λ place old. t.sender) t.first (t.last + 1 - t.first) table c h)
    (λ (h : t.last < c). past h)
    (n t (inl refl))
  where
    past : t.last < c → octet (spread table t.first t.last t.sender) c ≡ octet table c
    past h = go (dec_lt c t.first)
      where
        go : Dec (c < t.first) → octet (spread table t.first t.last t.sender) c ≡ octet table c
        go (yes a) = applied-below (λ place old. t.sender) t.first (t.last + 1 - t.first) table c a
        go (no a) = applied-past (λ place old. t.sender) t.first (t.last + 1 - t.first) table c (omega arith)

-- a circuit of a span is its sender's
pub owners-in : (b : Book) → Good b → (s : Span) → HasSpan s b.spans → (c : ℕ) → s.first ≤ c → c ≤ s.last → octet (owners_of b) c ≡ s.sender
unfolding nobody
owners-in b g = spans-in b.spans 0 nobody g.spans (length-replicate {A = ℕ} 4096 0)

-- and any other is nobody's
pub owners-out : (b : Book) (c : ℕ) → ((s : Span) → HasSpan s b.spans → (c < s.first) ⊎ (s.last < c)) → octet (owners_of b) c ≡ 0
unfolding nobody
owners-out b c n = spans-out b.spans nobody c n ∙ zero-at 4096 c

-- a head that says 269 octets ends the book
pub long-refused : (left sender : ℕ) (t : Day) → head_come left sender 269 t ≡ machine Bad [] t
long-refused left sender t = refl
