-- Refused exactly when: the number is the first fault of a message in the paper's order, and
-- acceptance is the absence of all.
use Prim.Native.Nat.{ℕ, ◌+◌, ◌≤◌}
use mathlib.Core.Path.{◌≡◌, refl, sym, ◌∙◌, subst}
use mathlib.Core.Bool.{Bool, true, false}
use mathlib.Core.List.{List, [], ◌∷◌}
use mathlib.Core.Logic.{inl, inr, ⊎_elim}
use native.Mathlib.Omega.{arith}
use borrow.Author.Tests.{ltb-true, ltb-false, eqb-false, eq-eqb, ne_eqb, le-ltb}
use lib.Dec.{ltb, eqb}
use Rattle.octets.specs.Answer.{Answer}
use Rattle.octets.specs.Faults.{Judges, fault}
use Rattle.octets.specs.Among.{among, OneOf}
use Rattle.octets.proofs.Choice.{decided, true-false}
use Rattle.octets.proofs.Among.{among_one, one-among}
use Rattle.octets.proofs.Faults.{judges-done, judges-there, judges-absent, judges-if, judges-then}
use Rattle.parts.specs.Spans.{span_size}
use Rattle.isup.specs.declared.Message.{Message}
use Rattle.isup.specs.Read.{read_of}
use Rattle.isup.specs.WellFormed.{WellFormed}
use Rattle.isup.specs.Faults.{reader_faults}
use Rattle.isup.proofs.Exactly.{read-exactly, well-formed-unique}
use Rattle.isup.proofs.Judged.{read-judges}
use Rattle.rows.specs.declared.Act.{Act}
use Rattle.rows.specs.declared.Act.TheVariants.{Seize, Release, Reset, Block, Unblock, ResetGroup, BlockGroup, UnblockGroup, Query}
use Rattle.asks.specs.declared.Ask.{Ask}
use Rattle.isup.specs.Types.{IAM, REL, RSC, BLO, UBL, GRS, CGB, CGU, CQM}
use Rattle.asks.specs.Types.{acting, type_of, act_for}
use Rattle.asks.specs.Asks.{range_in, block_kind, group_status, broken_range, broken_group, broken, indicator_in, ask_in_lem, IsAsked, asked_for, asked_in, ask_of}
use Rattle.marks.specs.Marks.{marks_in_lem}
use Rattle.asks.specs.Faults.{Reads, NotActedOn, KeepsRange, KeepsGroup, BreaksRule, range_given, GroupPasses, ask_faults}
use Rattle.asks.proofs.Types.{for-type, type-is, no-act, one-acting, acting-act}
use Rattle.asks.proofs.Reading.{range-rule, whole-group}

-- ---- 14 is given where the contents break their rule, and only there
pub range-kept : (least : ℕ) (m : List ℕ) (x : Message) → broken_range least m x.parts.first ≡ false → KeepsRange least m x
range-kept least m x e = let w = range-rule least m x.parts.first e in record { exact = w.0; above = w.1; most = w.2 }

range-broken : (least : ℕ) (m : List ℕ) (x : Message) → broken_range least m x.parts.first ≡ true → KeepsRange least m x → ⊥
unfolding broken_range
range-broken least m x e k =
    true-false e (rw (eq-eqb _ _ k.exact, le-ltb (range_in m x.parts.first) least k.above, le-ltb 31 (range_in m x.parts.first) k.most))

group-kept : (m : List ℕ) (x : Message) → broken_group m (indicator_in m x) x.parts.first ≡ false → KeepsGroup m x
group-kept m x e =
    let w = whole-group m (indicator_in m x) x.parts.first e in
    record { kinds = w.kinds; least = positive (range_in m x.parts.first) w.range; exact = w.exact; few = w.few }
  where
    positive : (r : ℕ) → (r ≡ 0 → ⊥) → 1 ≤ r
    positive r n = ⊎_elim (λ t. ltb-true 0 r t) (λ t. absurd (n (omega (arith, ltb-false 0 r t)))) (decided (ltb 0 r))

group-broken : (m : List ℕ) (x : Message) → broken_group m (indicator_in m x) x.parts.first ≡ true → KeepsGroup m x → ⊥
unfolding broken_group
group-broken m x e k =
    true-false e (rw (le-ltb 1 (block_kind (indicator_in m x)) k.kinds, ne_eqb (span_size x.parts.first) 0 (λ z. omega (arith, k.exact)), ne_eqb (range_in m x.parts.first) 0 (λ z. omega (arith, k.least)), eq-eqb _ _ k.exact, le-ltb 32 (marks_in_lem (range_in m x.parts.first) (group_status m x.parts.first)) k.few))

-- by the act
module _ (m : List ℕ) (x : Message) where
  abbrev Settles : Bool → Type 0
  Settles b = (b ≡ true → BreaksRule m x) × (b ≡ false → BreaksRule m x → ⊥)

  apart : (k l : ℕ) → x.kind ≡ k → eqb k l ≡ false → x.kind ≡ l → ⊥
  apart k l e p h = eqb-false k l p (sym e ∙ h)

  -- a type with no rule breaks none
  none : (k : ℕ) → x.kind ≡ k → eqb k GRS ≡ false → eqb k CGB ≡ false → eqb k CGU ≡ false → eqb k CQM ≡ false → Settles false
  none k e p q r s = (
    λ h. absurd (true-false {t = false} h refl),
    λ h. ⊎_elim (λ w. apart k GRS e p w.0) (⊎_elim (λ w. ⊎_elim (apart k CGB e q) (⊎_elim (apart k CGU e r) (λ z. z)) w.0) (λ w. apart k CQM e s w.0)),
  )

  group : OneOf x.kind (CGB ∷ CGU ∷ []) → (x.kind ≡ GRS → ⊥) → (x.kind ≡ CQM → ⊥) → Settles (broken_group m (indicator_in m x) x.parts.first)
  group o n k = (
    λ e. inr (inl (o, group-broken m x e)),
    λ e. ⊎_elim (λ h. n h.0) (⊎_elim (λ h. h.1 (group-kept m x e)) (λ h. k h.0)),
  )

  rule-cases : (act : Act) → x.kind ≡ type_of act → Settles (broken act m x)
  rule-cases Seize e = none IAM e refl refl refl refl
  rule-cases Release e = none REL e refl refl refl refl
  rule-cases Reset e = none RSC e refl refl refl refl
  rule-cases Block e = none BLO e refl refl refl refl
  rule-cases Unblock e = none UBL e refl refl refl refl
  rule-cases ResetGroup e = (
    λ h. inl (e, range-broken 1 m x h),
    λ h. ⊎_elim (λ w. w.1 (range-kept 1 m x h)) (⊎_elim (λ w. ⊎_elim (apart GRS CGB e refl) (⊎_elim (apart GRS CGU e refl) (λ z. z)) w.0) (λ w. apart GRS CQM e refl w.0)),
  )
  rule-cases BlockGroup e = group (inl e) (apart CGB GRS e refl) (apart CGB CQM e refl)
  rule-cases UnblockGroup e = group (inr (inl e)) (apart CGU GRS e refl) (apart CGU CQM e refl)
  rule-cases Query e = (
    λ h. inr (inr (e, range-broken 0 m x h)),
    λ h. ⊎_elim (λ w. apart CQM GRS e refl w.0) (⊎_elim (λ w. ⊎_elim (apart CQM CGB e refl) (⊎_elim (apart CQM CGU e refl) (λ z. z)) w.0) (λ w. w.1 (range-kept 0 m x h))),
  )

-- what a message names, by the message: its circuit, and as many after it as the range octet of
-- GRS, CGB, CGU or CQM says
pub ask-names : (m : List ℕ) (x : Message) (act : Act) → x.kind ≡ type_of act → ((ask_in_lem act m x).circuit ≡ x.circuit) × ((ask_in_lem act m x).range ≡ range_given m x)
ask-names m x Seize e = (refl, rw e refl)
ask-names m x Release e = (refl, rw e refl)
ask-names m x Reset e = (refl, rw e refl)
ask-names m x Block e = (refl, rw e refl)
ask-names m x Unblock e = (refl, rw e refl)
ask-names m x ResetGroup e = (refl, rw e refl)
ask-names m x BlockGroup e = (refl, rw e refl)
ask-names m x UnblockGroup e = (refl, rw e refl)
ask-names m x Query e = (refl, rw e refl)

-- the same of what is asked
pub asked-names : (m : List ℕ) (x : Message) (a : Ask) → IsAsked m x a → (a.circuit ≡ x.circuit) × (a.range ≡ range_given m x)
asked-names m x a k =
    subst (λ (b : Ask). (b.circuit ≡ x.circuit) × (b.range ≡ range_given m x)) k.2 (ask-names m x k.0 (type-is x.kind k.0 k.1))

-- ---- what a message that reads says, said of the message
module _ (m : List ℕ) (x : Message) (f : WellFormed m x) where
  pub of-reads : (P : Message → Type 0) → Reads m P → P x
  of-reads P r = subst (λ (y : Message). P y) (well-formed-unique m r.0 x r.1 f) r.2

  -- 17 exactly where no act has the type
  act-judges : Judges (act_for x.kind) (fault 17 0 (Reads m NotActedOn) ∷ [])
  act-judges =
      ⊎_elim
      (λ t.
      let w = acting-act x.kind (among_one x.kind acting t) in
      subst (λ (r : Answer Act). Judges r (fault 17 0 (Reads m NotActedOn) ∷ [])) (sym (for-type x.kind w.0 w.1))
      (judges-absent _ (λ at h. of-reads NotActedOn h.1 (among_one x.kind acting t)) (judges-done w.0)))
      (λ t.
      let n : OneOf x.kind acting → ⊥ = λ o. true-false (one-among x.kind acting o) t in
      subst (λ (r : Answer Act). Judges r (fault 17 0 (Reads m NotActedOn) ∷ [])) (sym (no-act x.kind (λ act e. n (one-acting x.kind act e))))
      (judges-there (fault 17 0 (Reads m NotActedOn)) _ 0 (refl, (x, f, n)) (λ at h. h.0)))
      (decided (among x.kind acting))

  asked-judges : Judges (asked_in m x) (fault 17 0 (Reads m NotActedOn) ∷ fault 14 0 (Reads m (BreaksRule m)) ∷ fault 18 0 (Reads m (GroupPasses m)) ∷ [])
  unfolding asked_in
  asked-judges =
      judges-then (act_for x.kind) (asked_for m x) _ _ act-judges
      (λ act e.
      let r = rule-cases m x act (type-is x.kind act e) in
      let k = ask-names m x act (type-is x.kind act e) in
      judges-if (broken act m x)
      (λ b. (x, f, r.0 b))
      (λ b h. r.1 b (of-reads (BreaksRule m) h))
      (λ b.
      judges-if (ltb 4095 ((ask_in_lem act m x).circuit + (ask_in_lem act m x).range))
      (λ l. (x, f, omega (arith, ltb-true 4095 ((ask_in_lem act m x).circuit + (ask_in_lem act m x).range) l, k.0, k.1)))
      (λ l h. omega (arith, of-reads (GroupPasses m) h, ltb-false 4095 ((ask_in_lem act m x).circuit + (ask_in_lem act m x).range) l, k.0, k.1))
      (λ l. judges-done (ask_in_lem act m x))))

-- what a message asks, or the first of its faults
pub ask-judges : (m : List ℕ) → Judges (ask_of m) (ask_faults m)
unfolding ask_of
ask-judges m =
    judges-then (read_of m) (asked_in m) (reader_faults m) _ (read-judges m)
    (λ x e. asked-judges m x ((read-exactly m x).0 e))
