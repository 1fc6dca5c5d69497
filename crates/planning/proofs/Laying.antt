-- The plan laid message by message, as the code lays it, and its outcome.
use Prim.Native.Nat.{ℕ, zero, suc, ◌+◌, ◌-◌, ◌*◌, ◌≤◌, ◌<◌}
use mathlib.Core.Path.{◌≡◌, refl, sym, ◌∙◌, ap}
use mathlib.Core.Bool.{Bool, true, false}
use mathlib.Core.List.{List, [], ◌++◌}
use mathlib.Core.Logic.{⊎_elim}
use native.Mathlib.Omega.{arith}
use borrow.Author.Tests.{eq-eqb, ne_eqb, lt-ltb, le-ltb}
use lib.ListN.{length, length-append}
use lib.Seq.{sets}
use Rattle.std.specs.Prelude.{Result, Ok, Err, is_some}
use Rattle.octets.specs.Answer.{Answer, accepted, refused}
use Rattle.octets.specs.Choice.{when◌then◌else◌}
use Rattle.octets.specs.Filled.{done, leaving}
use Rattle.octets.specs.Told.{refusal_number, refusal_place, told}
use Rattle.octets.specs.declared.Refusal.{Refusal}
use Rattle.octets.specs.declared.Refusal.TheVariants.{IllegalRow, NoPlan}
use Rattle.octets.proofs.Choice.{decided}
use Rattle.octets.proofs.Filled.{sets-filled}
use Rattle.writing.proofs.Storing.{sets-append}
use Rattle.rights.specs.Tables.{Tables}
use Rattle.rights.specs.Rights.{first_illegal_lem}
use Rattle.plans.specs.Turns.{may_block_lem}
use Rattle.plans.specs.Frames.{framed}
use Rattle.plans.specs.Plans.{ticked, messages}
use Rattle.surveys.specs.Surveys.{tick_count, can_plan, is_stuck, survey_of}
use Rattle.planning.specs.Planner.{in_row, step_for, plan_from, plan_of}
use Rattle.planning.specs.Outcome.{frame, PlanReady, plan_for, planned_in, planned_of}
use Rattle.planning.proofs.Runs.{row-most, row-ticked, row-some, ticked-low, plan-room}
use Rattle.planning.proofs.Stuck.{unstuck-is, can-plan-so}
use Rattle.surveys.proofs.Looks.{tally-most, told-ticked, past-table}
use Rattle.planning.proofs.Counts.{row_ends}

-- ---- what is left to lay
module _ (kind : ℕ) (can tick : ℕ → Bool) where
  abbrev pub rest : ℕ → ℕ → List ℕ
  rest f c = framed (messages (plan_from kind can tick f c))

  rest-skip : (f g c : ℕ) → f ≡ suc g → tick c ≡ false → rest f c ≡ rest g (c + 1)
  unfolding plan_from
  rest-skip f g c e t = let s : c + 1 ≡ suc c = omega arith in rw (e, s, t)

  rest_put : (f g c n : ℕ) → f ≡ suc g → tick c ≡ true → n ≡ in_row tick c 32 → rest f c ≡ frame (step_for kind can c n).message ++ rest g (c + n)
  unfolding plan_from framed
  rest_put f g c n e t q = rw (e, t, q)

  rest-past : ((j : ℕ) → 4096 ≤ j → tick j ≡ false) → (f c : ℕ) → 4096 ≤ c → rest f c ≡ []
  unfolding plan_from framed
  rest-past h zero c l = refl
  rest-past h (suc f) c l = rw (h c l) (rest-past h f (suc c) (omega arith))

module _ (owners helpers ticks : List ℕ) (sender kind : ℕ) (first : List ℕ) (ready : PlanReady owners helpers ticks sender kind (length first)) where
  abbrev can : ℕ → Bool
  can = may_block_lem kind owners helpers sender

  abbrev tick : ℕ → Bool
  tick = ticked ticks

  abbrev whole : List ℕ
  whole = plan_of kind can tick

  whole-fits : length whole ≤ length first
  whole-fits =
      let r = plan-room kind can tick ready.kinds (ticked-low ticks ready.ticks-sized) (unstuck-is kind can tick (ticked-low ticks ready.ticks-sized) ready.unstuck) in
      omega (arith, ready.room_for)

-- what is left has the whole's octets, at its place
abbrev pub Laying : List ℕ → List ℕ → List ℕ → ℕ → ℕ → List ℕ → List ℕ → ℕ → ℕ → Type 0
Laying owners helpers ticks sender kind first out c at =
    (c ≤ 4096) × (length out ≡ length first)
    × ((f : ℕ) × (4096 ≤ f + c) × (at + length (rest kind (may_block_lem kind owners helpers sender) (ticked ticks) f c) ≡ length (plan_of kind (may_block_lem kind owners helpers sender) (ticked ticks)))
    × (sets out at (rest kind (may_block_lem kind owners helpers sender) (ticked ticks) f c) ≡ sets first 0 (plan_of kind (may_block_lem kind owners helpers sender) (ticked ticks))))

module _ (owners helpers ticks : List ℕ) (sender kind : ℕ) (first : List ℕ) (ready : PlanReady owners helpers ticks sender kind (length first)) where
  pub laying-starts : Laying owners helpers ticks sender kind first first 0 0
  unfolding plan_of
  laying-starts = (omega arith, refl, (4096, omega arith, omega arith, refl))

  module _ (out : List ℕ) (c at : ℕ) (l : Laying owners helpers ticks sender kind first out c at) where
    pub laying-ends : 4096 ≤ c → (out ≡ sets first 0 (plan_of kind (may_block_lem kind owners helpers sender) (ticked ticks))) × (at ≡ length (plan_of kind (may_block_lem kind owners helpers sender) (ticked ticks)))
    laying-ends h =
        let e = rest-past kind (may_block_lem kind owners helpers sender) (ticked ticks) (λ j k. past-table ticks j (omega (arith, ready.ticks-sized))) l.2.0 c h in
        (sym (ap (λ (r : List ℕ). sets out at r) e) ∙ l.2.3, omega (arith, ap length e, l.2.2))

    module _ (h : c < 4096) (n : ℕ) (q : n ≡ in_row (ticked ticks) c 32) where
      fuel : l.2.0 ≡ suc (l.2.0 - 1)
      fuel = omega (arith, l.2.1)

      none-ticked : n ≡ 0 → ticked ticks c ≡ false
      none-ticked z = ⊎_elim (λ t. absurd (omega (arith, row-some (ticked ticks) c 31 t))) (λ t. t) (decided (ticked ticks c))

      pub laying-skip : n ≡ 0 → Laying owners helpers ticks sender kind first out (c + 1) at
      laying-skip z =
          let e = rest-skip kind (may_block_lem kind owners helpers sender) (ticked ticks) l.2.0 (l.2.0 - 1) c fuel (none-ticked z) in
          (omega arith, l.1, (l.2.0 - 1, omega (arith, l.2.1), omega (arith, ap length e, l.2.2), ap (λ (r : List ℕ). sets out at r) (sym e) ∙ l.2.3))

      module _ (some : n ≡ 0 → ⊥) where
        is : ticked ticks c ≡ true
        is = ⊎_elim (λ t. t) (λ t. absurd (some (q ∙ row_ends (ticked ticks) c 32 t))) (decided (ticked ticks c))

        last : c + n - 1 ≤ 4095
        last = ticked-low ticks ready.ticks-sized (c + n - 1) (row-ticked (ticked ticks) c 32 (c + n - 1) (omega arith) (omega arith))

        -- what the message's writer asks
        pub put-few : n ≤ 32
        put-few = omega (arith, row-most (ticked ticks) c 32)

        pub put-within : c + n ≤ 4096
        put-within = omega (arith, last)

        pub put-can : can_plan kind (may_block_lem kind owners helpers sender) c ≡ true
        put-can = can-plan-so kind (may_block_lem kind owners helpers sender) c (unstuck-is kind (may_block_lem kind owners helpers sender) (ticked ticks) (ticked-low ticks ready.ticks-sized) ready.unstuck c is)

        split : rest kind (may_block_lem kind owners helpers sender) (ticked ticks) l.2.0 c ≡ frame (step_for kind (may_block_lem kind owners helpers sender) c n).message ++ rest kind (may_block_lem kind owners helpers sender) (ticked ticks) (l.2.0 - 1) (c + n)
        split = rest_put kind (may_block_lem kind owners helpers sender) (ticked ticks) l.2.0 (l.2.0 - 1) c n fuel is q

        sizes : length (rest kind (may_block_lem kind owners helpers sender) (ticked ticks) l.2.0 c) ≡ 1 + length (step_for kind (may_block_lem kind owners helpers sender) c n).message + length (rest kind (may_block_lem kind owners helpers sender) (ticked ticks) (l.2.0 - 1) (c + n))
        sizes =
            let m = (step_for kind (may_block_lem kind owners helpers sender) c n).message in
            omega (arith, ap length split, length-append m (rest kind (may_block_lem kind owners helpers sender) (ticked ticks) (l.2.0 - 1) (c + n)))

        pub put-room : at + 1 + length (step_for kind (may_block_lem kind owners helpers sender) c n).message ≤ length out
        put-room = omega (arith, sizes, l.2.2, l.1, whole-fits owners helpers ticks sender kind first ready)

        pub laying-put : (left : List ℕ) (next : ℕ) → left ≡ sets out at (frame (step_for kind (may_block_lem kind owners helpers sender) c n).message) → next ≡ at + 1 + length (step_for kind (may_block_lem kind owners helpers sender) c n).message → length left ≡ length out → Laying owners helpers ticks sender kind first left (c + n) next
        laying-put left next e p s =
            let m = (step_for kind (may_block_lem kind owners helpers sender) c n).message in
            let r = rest kind (may_block_lem kind owners helpers sender) (ticked ticks) (l.2.0 - 1) (c + n) in
            let i : next ≡ at + length (frame m) = omega arith in (
              omega (arith, last),
              s ∙ l.1,
              (
                l.2.0 - 1,
                omega (arith, l.2.1),
                omega (arith, sizes, l.2.2),
                ap (λ (x : List ℕ). sets x next r) e ∙ ap (λ (k : ℕ). sets (sets out at (frame m)) k r) i ∙ sets-append (frame m) out at r ∙ ap (λ (x : List ℕ). sets out at x) (sym split) ∙ l.2.3,
              ),
            )

-- ---- the outcome, test by test
module _ (T : Tables) (ticks : List ℕ) (sender kind : ℕ) (buffer : List ℕ) where
  pub out-states : (length T.states ≡ 4096 → ⊥) → leaving (refused 16 0) buffer ≡ planned_of T ticks sender kind buffer
  unfolding planned_of planned_in
  out-states h = rw (ne_eqb _ _ h)

  module _ (p : length T.states ≡ 4096) where
    pub out-owners : (length T.owners ≡ 4096 → ⊥) → leaving (refused 16 0) buffer ≡ planned_of T ticks sender kind buffer
    unfolding planned_of planned_in
    out-owners h = rw (eq-eqb _ _ p, ne_eqb _ _ h)

    module _ (q : length T.owners ≡ 4096) where
      pub out-helpers : (length T.helpers ≡ 4096 → ⊥) → leaving (refused 16 0) buffer ≡ planned_of T ticks sender kind buffer
      unfolding planned_of planned_in
      out-helpers h = rw (eq-eqb _ _ p, eq-eqb _ _ q, ne_eqb _ _ h)

      module _ (x : length T.helpers ≡ 4096) where
        pub out-ticks : (length ticks ≡ 4096 → ⊥) → leaving (refused 16 0) buffer ≡ planned_of T ticks sender kind buffer
        unfolding planned_of planned_in
        out-ticks h = rw (eq-eqb _ _ p, eq-eqb _ _ q, eq-eqb _ _ x, ne_eqb _ _ h)

        module _ (r : length ticks ≡ 4096) where
          pub out-kind : 1 < kind → leaving (refused 14 0) buffer ≡ planned_of T ticks sender kind buffer
          unfolding planned_of planned_in
          out-kind h = rw (eq-eqb _ _ p, eq-eqb _ _ q, eq-eqb _ _ x, eq-eqb _ _ r, lt-ltb _ _ h)

          module _ (k : kind ≤ 1) (s : Result ℕ Refusal) (e : s ≡ survey_of T.states kind (may_block_lem kind T.owners T.helpers sender) (ticked ticks)) where
            pub out-refused : (why : Refusal) → s ≡ Err why → leaving (refused (refusal_number why) (refusal_place why)) buffer ≡ planned_of T ticks sender kind buffer
            unfolding planned_of planned_in survey_of
            out-refused why h =
                let w : survey_of T.states kind (may_block_lem kind T.owners T.helpers sender) (ticked ticks) ≡ Err why = sym e ∙ h in
                rw (eq-eqb _ _ p, eq-eqb _ _ q, eq-eqb _ _ x, eq-eqb _ _ r, le-ltb _ _ k) (go (is_some (first_illegal_lem T.states 0 4096)) (is_stuck kind (may_block_lem kind T.owners T.helpers sender) (ticked ticks)) _ _ w)
              where
                go : (i j : Bool) (n : ℕ) (y : Answer (ℕ × List ℕ)) → ◌≡◌ {A = Result ℕ Refusal} (when i then Err IllegalRow else (when j then Err NoPlan else Ok n)) (Err why)
                    → leaving (refused (refusal_number why) (refusal_place why)) buffer ≡ done buffer (when i then refused 20 0 else (when j then refused 25 0 else y))
                go true j n y w = ap (λ (z : Result ℕ Refusal). leaving (told z) buffer) (sym w)
                go false true n y w = ap (λ (z : Result ℕ Refusal). leaving (told z) buffer) (sym w)
                go false false n y w = absurd cc

            module _ (count : ℕ) (h : s ≡ Ok count) where
              counted : (is_some (first_illegal_lem T.states 0 4096) ≡ false) × (is_stuck kind (may_block_lem kind T.owners T.helpers sender) (ticked ticks) ≡ false) × (count ≡ tick_count (ticked ticks) 0 4096)
              counted = told-ticked T.states kind (may_block_lem kind T.owners T.helpers sender) (ticked ticks) count (sym e ∙ h)

              pub count-within : count ≤ 4096
              count-within = omega (arith, counted.2, tally-most (ticked ticks) 0 4096)

              pub out-room : length buffer < 9 * count → leaving (refused 13 0) buffer ≡ planned_of T ticks sender kind buffer
              unfolding planned_of planned_in
              out-room u =
                  let w : length buffer < 9 * tick_count (ticked ticks) 0 4096 = omega (arith, counted.2) in
                  rw (eq-eqb _ _ p, eq-eqb _ _ q, eq-eqb _ _ x, eq-eqb _ _ r, le-ltb _ _ k, counted.0, counted.1, lt-ltb _ _ w)

              module _ (u : 9 * count ≤ length buffer) where
                pub ready : PlanReady T.owners T.helpers ticks sender kind (length buffer)
                ready = record {
                  owners-sized = q;
                  helpers-sized = x;
                  ticks-sized = r;
                  kinds = k;
                  unstuck = counted.1;
                  room_for = omega (arith, counted.2);
                }

                pub out-plan : (n : ℕ) (left : List ℕ) → left ≡ sets buffer 0 (plan_for T.owners T.helpers ticks sender kind) → n ≡ length (plan_for T.owners T.helpers ticks sender kind) → leaving (accepted n) left ≡ planned_of T ticks sender kind buffer
                unfolding planned_of planned_in
                out-plan n left w f =
                    let z = w ∙ sets-filled (plan_for T.owners T.helpers ticks sender kind) buffer (whole-fits T.owners T.helpers ticks sender kind buffer ready) in
                    rw (eq-eqb _ _ p, eq-eqb _ _ q, eq-eqb _ _ x, eq-eqb _ _ r, le-ltb _ _ k, counted.0, counted.1, le-ltb _ _ ready.room_for) (λ i. leaving (accepted (f i)) (z i))
