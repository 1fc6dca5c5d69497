-- Any two calls that name no circuit in common may change places, alone or in a list.
use Prim.Native.Nat.{ℕ}
use mathlib.Core.Path.{◌≡◌, refl, sym, ◌∙◌, ap}
use mathlib.Core.Bool.{Bool, true, false}
use mathlib.Core.List.{List, [], ◌∷◌, ◌++◌}
use borrow.Author.Tests.{eqb-true, eqb-false}
use lib.Dec.{eqb}
use lib.ListN.{length}
use lib.Seq.{ext_get_or}
use Rattle.arrival.specs.Calls.{state_after, answers}
use Rattle.arrival.proofs.Pair.{same_rows, same-totals, same_first, same_second}
use Rattle.hub.specs.Acts.{after}
use Rattle.hub.specs.Arrival.{Call, Reply}
use Rattle.board.specs.Arrival.{Standings, board}
use Rattle.board.specs.Names.{call_names}
use Rattle.board.proofs.Orders.{board-apart, board-counts}
use Rattle.board.proofs.Pairs.{Apart-at, Either-order, board-local, idle-after, names-so}

module _ (owners helpers : List ℕ) where
  -- two calls, whoever sends them, each with its own answer buffer: the same rows and totals, and
  -- the same answers, in either order
  pub calls-commute : (s : Standings) (c d : Call) → Apart-at owners helpers s c d
      → Either-order owners helpers s c d
  unfolding board-counts
  calls-commute s c d out = go (eqb (length s.rows) 4096) (eqb (length s.totals) 64) refl refl
    where
      idle : ((length s.rows ≡ 4096) × (length s.totals ≡ 64) → ⊥)
          → Either-order owners helpers s c d
      idle n =
          let p = idle-after owners helpers c.asks c.buffer s n in
          let q = idle-after owners helpers d.asks d.buffer s n in (
            ap ((board owners helpers).after d) p ∙ q ∙ sym (ap ((board owners helpers).after c) q ∙ p),
            ap ((board owners helpers).answer c) (sym q),
            ap ((board owners helpers).answer d) p,
          )

      go : (x y : Bool) → eqb (length s.rows) 4096 ≡ x → eqb (length s.totals) 64 ≡ y
          → Either-order owners helpers s c d
      go true true e f =
          let p = eqb-true (length s.rows) 4096 e in
          let q = eqb-true (length s.totals) 64 f in
          let apart : (i : ℕ) → call_names owners helpers c.asks i ≡ true → call_names owners helpers d.asks i ≡ true → ⊥ = λ i h k. out i (names-so owners helpers s p q c.asks i h) (names-so owners helpers s p q d.asks i k) in
          let one = (board owners helpers).after d ((board owners helpers).after c s) in
          let two = (board owners helpers).after c ((board owners helpers).after d s) in
          let sizes = ((board-apart owners helpers).keeps d ((board owners helpers).after c s)).0 ∙ ((board-apart owners helpers).keeps c s).0 ∙ sym (((board-apart owners helpers).keeps c ((board owners helpers).after d s)).0 ∙ ((board-apart owners helpers).keeps d s).0) in
          let rows = ext_get_or 0 one.rows two.rows (heads sizes) (λ i h. same_rows (board owners helpers) (λ x j. call_names owners helpers x.asks j) (board-local owners helpers) (board-counts owners helpers) c d apart s i) in
          let totals = ext_get_or 0 one.totals two.totals (seconds sizes) (λ k h. same-totals (board owners helpers) (λ x j. call_names owners helpers x.asks j) (board-local owners helpers) (board-counts owners helpers) c d apart s k) in (
            (λ i. record { rows = rows i; totals = totals i }),
            same_first (board owners helpers) (λ x j. call_names owners helpers x.asks j) (board-local owners helpers) (board-counts owners helpers) c d apart s,
            same_second (board owners helpers) (λ x j. call_names owners helpers x.asks j) (board-local owners helpers) (board-counts owners helpers) c d apart s,
          )
        where
          heads : {a b k l : ℕ} → a ∷ b ∷ [] ≡ k ∷ l ∷ [] → a ≡ k
          heads e = cc

          seconds : {a b k l : ℕ} → a ∷ b ∷ [] ≡ k ∷ l ∷ [] → b ≡ l
          seconds e = cc
      go true false e f = idle (λ w. eqb-false (length s.totals) 64 f w.1)
      go false y e f = idle (λ w. eqb-false (length s.rows) 4096 e w.0)

  -- ---- lists: two neighbours that do not touch may change places, and the rest of the run is the same
  pub neighbours-commute : (bs cs : List Call) (c d : Call) (s : Standings) → Apart-at owners helpers (state_after (board owners helpers) bs s) c d
      → state_after (board owners helpers) (bs ++ (c ∷ d ∷ cs)) s ≡ state_after (board owners helpers) (bs ++ (d ∷ c ∷ cs)) s
  unfolding state_after
  neighbours-commute [] cs c d s out = ap (state_after (board owners helpers) cs) (calls-commute s c d out).0
  neighbours-commute (b ∷ bs) cs c d s out = neighbours-commute bs cs c d ((board owners helpers).after b s) out

  -- with the two answers exchanged, and every other answer the same
  pub neighbours-answer : (bs cs : List Call) (c d : Call) (s : Standings) → Apart-at owners helpers (state_after (board owners helpers) bs s) c d
      → (rs : List Reply) × (ts : List Reply) × (x : Reply) × (y : Reply)
      × (answers (board owners helpers) (bs ++ (c ∷ d ∷ cs)) s ≡ rs ++ (x ∷ y ∷ ts))
      × (answers (board owners helpers) (bs ++ (d ∷ c ∷ cs)) s ≡ rs ++ (y ∷ x ∷ ts))
  unfolding state_after answers
  neighbours-answer [] cs c d s out =
      let w = calls-commute s c d out in (
        [],
        answers (board owners helpers) cs ((board owners helpers).after d ((board owners helpers).after c s)),
        (board owners helpers).answer c s,
        (board owners helpers).answer d ((board owners helpers).after c s),
        refl,
        λ i. sym w.2 i ∷ sym w.1 i ∷ answers (board owners helpers) cs (sym w.0 i),
      )
  neighbours-answer (b ∷ bs) cs c d s out =
      let w = neighbours-answer bs cs c d ((board owners helpers).after b s) out in
      ((board owners helpers).answer b s ∷ w.0, w.1, w.2, w.3, ap (λ (l : List Reply). (board owners helpers).answer b s ∷ l) w.4, ap (λ (l : List Reply). (board owners helpers).answer b s ∷ l) w.5)
