-- Two calls that name no row in common give the same answers and the same state in either order:
-- each call is a party of its own, with a right on the rows that it names.
use Prim.Native.Nat.{ℕ}
use mathlib.Core.Path.{◌≡◌, refl, sym, ◌∙◌, ap}
use mathlib.Core.Bool.{Bool, true, false}
use mathlib.Core.List.{List, [], ◌∷◌}
use lib.Dec.{eqb}
use Rattle.octets.specs.Choice.{when◌then◌else◌}
use Rattle.arrival.specs.Calls.{Calls, Apart, Separate, state_after, answers_of, Merged}
use Rattle.arrival.specs.Totals.{Totals}
use Rattle.arrival.specs.Pair.{Local}
use Rattle.arrival.proofs.Isolation.{merges-answer-alike, merges-end-alike}
use Rattle.arrival.proofs.Settled.{merges-total-alike}

module _ (K : Calls) where
  module _ (names : K.Call → ℕ → Bool) (L : Local K names) (T : Totals K) (c d : K.Call) where
    which : Bool → K.Call
    which true = c
    which false = d

    abbrev pair : Calls
    pair =
        record {
          State = K.State;
          Call = Bool;
          Reply = K.Reply;
          sizes = K.sizes;
          Row = K.Row;
          row = K.row;
          party = λ b. when b then 0 else 1;
          holds = λ q i. when eqb q 0 then names c i else names d i;
          answer = λ b s. K.answer (which b) s;
          after = λ b s. K.after (which b) s;
        }

    apart : Apart pair
    unfolding which
    apart = record {
      sees = λ b s t a. sees b s t a;
      keeps = λ b s. keeps b s;
    }
      where
        sees : (b : Bool) (s t : K.State) → (K.sizes s ≡ K.sizes t) × ((i : ℕ) → (when eqb (when b then 0 else 1) 0 then names c i else names d i) ≡ true → K.row s i ≡ K.row t i)
            → (K.answer (which b) s ≡ K.answer (which b) t) × ((K.sizes (K.after (which b) s) ≡ K.sizes (K.after (which b) t)) × ((i : ℕ) → (when eqb (when b then 0 else 1) 0 then names c i else names d i) ≡ true → K.row (K.after (which b) s) i ≡ K.row (K.after (which b) t) i))
        sees true s t a = let r = L.sees c s t a.0 a.1 in (r.0, (L.sized c s ∙ a.0 ∙ sym (L.sized c t), r.1))
        sees false s t a = let r = L.sees d s t a.0 a.1 in (r.0, (L.sized d s ∙ a.0 ∙ sym (L.sized d t), r.1))

        keeps : (b : Bool) (s : K.State) → (K.sizes (K.after (which b) s) ≡ K.sizes s) × ((i : ℕ) → (when eqb (when b then 0 else 1) 0 then names c i else names d i) ≡ false → K.row (K.after (which b) s) i ≡ K.row s i)
        keeps true s = (L.sized c s, λ i h. L.keeps c s i h)
        keeps false s = (L.sized d s, λ i h. L.keeps d s i h)

    totals : Totals pair
    totals = record {
      total = T.total;
      count = T.count;
      sets = λ b r k. T.sets (which b) r k;
      counted = λ b s k. T.counted (which b) s k;
      counts = T.counts;
      stays = λ b s k. T.stays (which b) s k;
    }

    -- each of them has one call
    lists : ℕ → List Bool
    lists q = when eqb q 0 then true ∷ [] else when eqb q 1 then false ∷ [] else []

    none_left : (x y : Bool) → (when y then [] else when x then [] else when x then true ∷ [] else when y then false ∷ [] else []) ≡ []
    none_left true true = refl
    none_left true false = refl
    none_left false true = refl
    none_left false false = refl

    none-left' : (x y : Bool) → (when x then [] else when y then [] else when x then true ∷ [] else when y then false ∷ [] else []) ≡ []
    none-left' true true = refl
    none-left' true false = refl
    none-left' false true = refl
    none-left' false false = refl

    one_way : Merged pair (true ∷ false ∷ []) lists
    unfolding lists
    one_way = ([], refl, ([], refl, λ q. none_left (eqb q 0) (eqb q 1)))

    other_way : Merged pair (false ∷ true ∷ []) lists
    unfolding lists
    other_way = ([], refl, ([], refl, λ q. none-left' (eqb q 0) (eqb q 1)))

    module _ (apart-rows : (i : ℕ) → names c i ≡ true → names d i ≡ true → ⊥) (s : K.State) where
      separate : Separate pair (true ∷ false ∷ [])
      separate x y h k i = go x y
        where
          go : (x y : Bool) → (when eqb (when x then 0 else 1) 0 then names c i else names d i) ≡ true → (when eqb (when y then 0 else 1) 0 then names c i else names d i) ≡ true → ◌≡◌ {A = ℕ} (when x then 0 else 1) (when y then 0 else 1)
          go true true p q = refl
          go true false p q = absurd (apart-rows i p q)
          go false true p q = absurd (apart-rows i q p)
          go false false p q = refl

      head : List K.Reply → K.Reply → K.Reply
      head [] r = r
      head (x ∷ xs) r = x

      pub same_rows : (i : ℕ) → K.row (K.after d (K.after c s)) i ≡ K.row (K.after c (K.after d s)) i
      unfolding state_after which
      same_rows i = merges-end-alike pair apart (true ∷ false ∷ []) (false ∷ true ∷ []) lists one_way other_way separate s i

      pub same-totals : (k : ℕ) → T.total (K.after d (K.after c s)) k ≡ T.total (K.after c (K.after d s)) k
      unfolding state_after which totals
      same-totals k = merges-total-alike pair totals apart (true ∷ false ∷ []) (false ∷ true ∷ []) lists one_way other_way separate s k

      pub same_first : K.answer c s ≡ K.answer c (K.after d s)
      unfolding answers_of which head
      same_first = ap (λ (l : List K.Reply). head l (K.answer c s)) (merges-answer-alike pair apart (true ∷ false ∷ []) (false ∷ true ∷ []) lists one_way other_way separate s 0)

      pub same_second : K.answer d (K.after c s) ≡ K.answer d s
      unfolding answers_of which head
      same_second = ap (λ (l : List K.Reply). head l (K.answer d s)) (merges-answer-alike pair apart (true ∷ false ∷ []) (false ∷ true ∷ []) lists one_way other_way separate s 1)
