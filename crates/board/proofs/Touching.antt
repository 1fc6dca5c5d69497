-- The row that a message leaves of a circuit, and why two calls that touch may not change places.
use Prim.Native.Nat.{ℕ, ◌+◌, ◌-◌, ◌*◌, ◌<◌}
use mathlib.Core.Path.{◌≡◌, refl, sym, ◌∙◌, ap}
use mathlib.Core.List.{List}
use mathlib.Core.Logic.{◌⊎◌}
use native.Mathlib.Omega.{arith}
use Rattle.octets.specs.Octet.{octet}
use Rattle.octets.specs.Answer.{accepted}
use Rattle.octets.proofs.Answer.{accepted-same}
use Rattle.isup.specs.declared.Message.{Message}
use Rattle.rows.specs.declared.Act.{Act}
use Rattle.rows.specs.declared.Act.TheVariants.{Seize, ResetGroup}
use Rattle.rows.specs.Rows.{local, changed_row, row_of}
use Rattle.asks.specs.declared.Ask.{Ask}
use Rattle.asks.specs.Asks.{ask_in_lem, ask_of, mark_of}
use Rattle.asks.proofs.Reading.{asked_is, ask-read, ask-last}
use Rattle.rights.specs.Tables.{tables}
use Rattle.hub.specs.Rows.{rows_after}
use Rattle.rights.specs.Names.{Named}
use Rattle.hub.proofs.Called.{row-outside, row_inside, act-of, call-accepted}
use Rattle.board.specs.Board.{BoardAfter, board_of}
use Rattle.board.specs.Arrival.{Standings, left_in}
use Rattle.board.proofs.Kept.{board-totals, board-acts}

-- what a message from a sender leaves and answers
abbrev pub heard_by : List ℕ → List ℕ → Standings → ℕ → List ℕ → List ℕ → BoardAfter
heard_by owners helpers s sender m b = board_of (tables s.rows owners helpers) s.totals sender m b

-- a message with no status marks every named circuit
pub whole-group : (m : List ℕ) (a : Ask) (act : Act) → ask_of m ≡ accepted a → a.act ≡ act → ((x : Message) → (ask_in_lem act m x).status ≡ 0) → a.status ≡ 0
whole-group m a act e g z =
    let r = ask-read m a e in
    let w = asked_is m r.0 a r.2 in
    let q : w.act ≡ act = sym (act-of w.act m r.0) ∙ ap (λ (b : Ask). b.act) w.is ∙ g in
    sym (ap (λ (b : Ask). b.status) (ap (λ (k : Act). ask_in_lem k m r.0) (sym q) ∙ w.is)) ∙ z r.0

module _ (owners helpers : List ℕ) where
  -- what an accepted message makes of the row of a circuit that it names
  pub row-after : (s : Standings) (p : ℕ) (m b : List ℕ) (a : Ask) (n : ℕ) → ask_of m ≡ accepted a → (heard_by owners helpers s p m b).answer ≡ accepted n → (c : ℕ) → Named a c
      → octet (heard_by owners helpers s p m b).states c ≡ row_of a.act a.block (mark_of m a.status (c - a.circuit)) (octet s.rows c)
  row-after s p m b a n e ok c w =
      let t = board-totals (tables s.rows owners helpers) s.totals p m b n ok in
      let h = board-acts (tables s.rows owners helpers) s.totals p m b t.2 in
      let d = call-accepted (tables s.rows owners helpers) p m b n (sym h.0 ∙ ok) in
      ap (λ (l : List ℕ). octet l c) (h.1 ∙ d.rows ∙ ap (λ (x : Ask). rows_after m x s.rows) (accepted-same (sym d.allowed.asks ∙ e)))
      ∙ row_inside m a s.rows c w (omega (arith, d.allowed.states-sized, ask-last m a e))

  -- and of one that it does not name
  pub row_apart : (s : Standings) (p : ℕ) (m b : List ℕ) (a : Ask) (n : ℕ) → ask_of m ≡ accepted a → (heard_by owners helpers s p m b).answer ≡ accepted n → (c : ℕ) → (c < a.circuit) ⊎ (a.circuit + a.range < c)
      → octet (heard_by owners helpers s p m b).states c ≡ octet s.rows c
  row_apart s p m b a n e ok c w =
      let t = board-totals (tables s.rows owners helpers) s.totals p m b n ok in
      let h = board-acts (tables s.rows owners helpers) s.totals p m b t.2 in
      let d = call-accepted (tables s.rows owners helpers) p m b n (sym h.0 ∙ ok) in
      ap (λ (l : List ℕ). octet l c) (h.1 ∙ d.rows ∙ ap (λ (x : Ask). rows_after m x s.rows) (accepted-same (sym d.allowed.asks ∙ e))) ∙ row-outside m a s.rows c w

  -- GRS and IAM on any circuit of its group, the first or not: one order leaves it idle, the other
  -- busy. So naming the first circuit of a group alone would not do
  pub group-touches : (s : Standings) (p q : ℕ) (g m b d : List ℕ) (y a : Ask) (n₁ n₂ n₃ n₄ : ℕ)
      → ask_of g ≡ accepted y → y.act ≡ ResetGroup → ask_of m ≡ accepted a → a.act ≡ Seize → Named y a.circuit
      → (heard_by owners helpers s p g b).answer ≡ accepted n₁ → (heard_by owners helpers (left_in (heard_by owners helpers s p g b)) q m d).answer ≡ accepted n₂
      → (heard_by owners helpers s q m d).answer ≡ accepted n₃ → (heard_by owners helpers (left_in (heard_by owners helpers s q m d)) p g b).answer ≡ accepted n₄
      → (heard_by owners helpers (left_in (heard_by owners helpers s p g b)) q m d).states ≡ (heard_by owners helpers (left_in (heard_by owners helpers s q m d)) p g b).states → ⊥
  unfolding changed_row mark_of
  group-touches s p q g m b d y a n₁ n₂ n₃ n₄ e grs f iam w ok₁ ok₂ ok₃ ok₄ same =
      let busy : octet (heard_by owners helpers (left_in (heard_by owners helpers s p g b)) q m d).states a.circuit ≡ 1 =
      row-after (left_in (heard_by owners helpers s p g b)) q m d a n₂ f ok₂ a.circuit (omega arith, omega arith)
      ∙ (λ i. row_of (iam i) a.block (mark_of m (whole-group m a Seize f iam (λ x. refl) i) (a.circuit - a.circuit)) (octet (heard_by owners helpers s p g b).states a.circuit)) in
      let idle : octet (heard_by owners helpers (left_in (heard_by owners helpers s q m d)) p g b).states a.circuit ≡ local (octet (heard_by owners helpers s q m d).states a.circuit) * 8 =
      row-after (left_in (heard_by owners helpers s q m d)) p g b y n₄ e ok₄ a.circuit w
      ∙ (λ i. row_of (grs i) y.block (mark_of g (whole-group g y ResetGroup e grs (λ x. refl) i) (a.circuit - y.circuit)) (octet (heard_by owners helpers s q m d).states a.circuit)) in
      let z : 1 ≡ local (octet (heard_by owners helpers s q m d).states a.circuit) * 8 = sym busy ∙ ap (λ (l : List ℕ). octet l a.circuit) same ∙ idle in
      odd (local (octet (heard_by owners helpers s q m d).states a.circuit)) z
    where
      odd : (x : ℕ) → 1 ≡ x * 8 → ⊥
      odd x e = omega (arith, e)
