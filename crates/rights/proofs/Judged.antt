-- Of what a message asks the number is the first fault in the paper's order, and it is permitted
-- exactly where there is none.
use Prim.Native.Nat.{ℕ, ◌+◌}
use mathlib.Core.Path.{◌≡◌, refl, sym, ◌∙◌, ap, subst}
use mathlib.Core.Bool.{Bool, true, false, not}
use mathlib.Core.List.{List, [], ◌∷◌}
use mathlib.Core.Logic.{inl, inr, ⊎_elim, ◌↔◌}
use native.Mathlib.Omega.{arith}
use borrow.Author.Tests.{eq-eqb, eqb-true, eqb-false, ltb-true, ltb-false}
use lib.Dec.{ltb, eqb}
use lib.ListN.{length}
use Rattle.std.specs.Prelude.{is_some}
use Rattle.octets.specs.Octet.{octet}
use Rattle.octets.specs.Choice.{when◌then◌else◌}
use Rattle.octets.specs.Among.{among, OneOf}
use Rattle.octets.specs.Answer.{Answer, refused}
use Rattle.octets.specs.Faults.{Fault, Judges, fault}
use Rattle.octets.proofs.Among.{among_one, one-among}
use Rattle.octets.proofs.Choice.{true-false}
use Rattle.octets.proofs.Faults.{judges-done, judges-there, judges-absent, judges-if, judges-choice}
use Rattle.isup.specs.declared.Message.{Message}
use Rattle.isup.specs.WellFormed.{WellFormed}
use Rattle.isup.specs.Types.{IAM, REL, RSC, BLO, UBL, GRS, CGB, CGU, CQM}
use Rattle.rows.specs.declared.Act.{Act}
use Rattle.rows.specs.declared.Act.TheVariants.{Seize, Release, Reset, Block, Unblock, ResetGroup, BlockGroup, UnblockGroup, Query}
use Rattle.rows.specs.Rows.{local, is_legal}
use Rattle.rows.proofs.Legality.{legal-is, is-legal}
use Rattle.asks.specs.declared.Ask.{Ask}
use Rattle.asks.specs.Types.{type_of}
use Rattle.asks.specs.Asks.{block_kind, indicator_in, ask_in_lem, IsAsked}
use Rattle.asks.specs.Faults.{range_given}
use Rattle.asks.proofs.Types.{type-is}
use Rattle.asks.proofs.Judged.{of-reads, asked-names}
use Rattle.rights.specs.Tables.{Tables, sized}
use Rattle.rights.specs.Rights.{is_mine, has_right, may_help, first_foreign_lem, first_unowned_lem, first_illegal_lem}
use Rattle.rights.specs.Names.{HasRight, Named}
use Rattle.rights.specs.Permits.{is_taken, is_unhelpable, permitted_of, permitted_in}
use Rattle.rights.specs.Faults.{WrongTables, NamedBy, Foreign, Helpable, OnlyHelped, Illegal, Taken, right_faults, permit_faults}
use Rattle.rights.proofs.Meaning.{mine-is, not-mine, right_is, not_right, found_some, found_none}

-- ---- 16
module _ (T : Tables) where
  sized-is : sized T ≡ true → (length T.states ≡ 4096) × (length T.owners ≡ 4096) × (length T.helpers ≡ 4096)
  sized-is t = go (eqb (length T.states) 4096) (eqb (length T.owners) 4096) refl refl t
    where
      go : (b d : Bool) → eqb (length T.states) 4096 ≡ b → eqb (length T.owners) 4096 ≡ d → (when b then (when d then eqb (length T.helpers) 4096 else false) else false) ≡ true → (length T.states ≡ 4096) × (length T.owners ≡ 4096) × (length T.helpers ≡ 4096)
      go true true p q h = (eqb-true _ _ p, eqb-true _ _ q, eqb-true _ _ h)
      go true false p q h = absurd (true-false {t = false} h refl)
      go false d p q h = absurd (true-false {t = false} h refl)

  sized-not : sized T ≡ false → WrongTables T
  sized-not t = go (eqb (length T.states) 4096) (eqb (length T.owners) 4096) refl refl t
    where
      go : (b d : Bool) → eqb (length T.states) 4096 ≡ b → eqb (length T.owners) 4096 ≡ d → (when b then (when d then eqb (length T.helpers) 4096 else false) else false) ≡ false → WrongTables T
      go true true p q h = inr (inr (eqb-false _ _ h))
      go true false p q h = inr (inl (eqb-false _ _ q))
      go false d p q h = inl (eqb-false _ _ p)

  -- 16 is the first fault, and tables of the right length go on
  pub sized-judges : {A : Type 0} {y : Answer A} (fs : List Fault) → (sized T ≡ true → Judges y fs) → Judges (when sized T then y else refused 16 0) (fault 16 0 (WrongTables T) ∷ fs)
  sized-judges fs j =
      judges-choice (sized T)
      (λ t. let k = sized-is t in judges-absent _ (λ at h. ⊎_elim (λ n. n k.0) (λ o. ⊎_elim (λ n. n k.1) (λ n. n k.2) o) h.1) (j t))
      (λ t. judges-there (fault 16 0 (WrongTables T)) fs 0 (refl, sized-not t) (λ at h. h.0))

-- ---- 21 is given to IAM on a circuit that is busy or blocked, and only there
module _ (states m : List ℕ) (x : Message) where
  abbrev Settles : Bool → Type 0
  Settles b = (b ≡ true → Taken states x) × (b ≡ false → Taken states x → ⊥)

  -- another type is never refused so
  never : (k : ℕ) → x.kind ≡ k → eqb k IAM ≡ false → Settles false
  never k e p = (λ h. absurd (true-false {t = false} h refl), λ h w. eqb-false k IAM p (sym e ∙ w.0))

  busy : x.kind ≡ IAM → (q : Bool) → eqb (octet states x.circuit) 0 ≡ q → Settles (not q)
  busy e true q = (λ h. absurd (true-false {t = false} h refl), λ h w. w.1 (eqb-true _ _ q))
  busy e false q = (λ h. (e, eqb-false _ _ q), λ h. absurd (true-false {t = true} refl h))

  taken-by : (act : Act) → x.kind ≡ type_of act → Settles (is_taken states (ask_in_lem act m x).act (ask_in_lem act m x).circuit)
  taken-by Seize e = busy e (eqb (octet states x.circuit) 0) refl
  taken-by Release e = never REL e refl
  taken-by Reset e = never RSC e refl
  taken-by Block e = never BLO e refl
  taken-by Unblock e = never UBL e refl
  taken-by ResetGroup e = never GRS e refl
  taken-by BlockGroup e = never CGB e refl
  taken-by UnblockGroup e = never CGU e refl
  taken-by Query e = never CQM e refl

  taken-cases : (a : Ask) → IsAsked m x a → Settles (is_taken states a.act a.circuit)
  taken-cases a k = subst (λ (b : Ask). Settles (is_taken states b.act b.circuit)) k.2 (taken-by k.0 (type-is x.kind k.0 k.1))

-- ---- what a helper may do, by the type
-- a type that is not in the list
unlisted : (m : List ℕ) (x : Message) (k : ℕ) → x.kind ≡ k → among k (BLO ∷ UBL ∷ CQM ∷ []) ≡ false → among k (CGB ∷ CGU ∷ []) ≡ false → Helpable m x → ⊥
unlisted m x k e p q h =
    ⊎_elim
    (λ o. true-false (ap (λ (n : ℕ). among n (BLO ∷ UBL ∷ CQM ∷ [])) (sym e) ∙ one-among x.kind (BLO ∷ UBL ∷ CQM ∷ []) o) p)
    (λ o. true-false (ap (λ (n : ℕ). among n (CGB ∷ CGU ∷ [])) (sym e) ∙ one-among x.kind (CGB ∷ CGU ∷ []) o.0) q)
    h

-- never
no-help : (m : List ℕ) (x : Message) (k : ℕ) → x.kind ≡ k → among k (BLO ∷ UBL ∷ CQM ∷ []) ≡ false → among k (CGB ∷ CGU ∷ []) ≡ false → (false ≡ true) ↔ Helpable m x
no-help m x k e p q = (λ h. absurd (true-false {t = false} h refl), λ h. absurd (unlisted m x k e p q h))

-- always
all-help : (m : List ℕ) (x : Message) (k : ℕ) → x.kind ≡ k → among k (BLO ∷ UBL ∷ CQM ∷ []) ≡ true → (true ≡ true) ↔ Helpable m x
all-help m x k e p = (λ h. inl (subst (λ (n : ℕ). OneOf n (BLO ∷ UBL ∷ CQM ∷ [])) (sym e) (among_one k (BLO ∷ UBL ∷ CQM ∷ []) p)), λ h. refl)

-- for maintenance
group-help : (m : List ℕ) (x : Message) (k : ℕ) → x.kind ≡ k → among k (BLO ∷ UBL ∷ CQM ∷ []) ≡ false → among k (CGB ∷ CGU ∷ []) ≡ true → (eqb (block_kind (indicator_in m x)) 0 ≡ true) ↔ Helpable m x
group-help m x k e p q = (
  λ h. inr (subst (λ (n : ℕ). OneOf n (CGB ∷ CGU ∷ [])) (sym e) (among_one k (CGB ∷ CGU ∷ []) q), eqb-true _ _ h),
  λ h. ⊎_elim (λ o. absurd (true-false (ap (λ (n : ℕ). among n (BLO ∷ UBL ∷ CQM ∷ [])) (sym e) ∙ one-among x.kind (BLO ∷ UBL ∷ CQM ∷ []) o) p)) (λ o. eq-eqb _ _ o.1) h,
)

pub help-by : (m : List ℕ) (x : Message) (act : Act) → x.kind ≡ type_of act → (may_help (ask_in_lem act m x).act (ask_in_lem act m x).block ≡ true) ↔ Helpable m x
unfolding may_help
help-by m x Seize e = no-help m x IAM e refl refl
help-by m x Release e = no-help m x REL e refl refl
help-by m x Reset e = no-help m x RSC e refl refl
help-by m x Block e = all-help m x BLO e refl
help-by m x Unblock e = all-help m x UBL e refl
help-by m x ResetGroup e = no-help m x GRS e refl refl
help-by m x BlockGroup e = group-help m x CGB e refl refl
help-by m x UnblockGroup e = group-help m x CGU e refl refl
help-by m x Query e = all-help m x CQM e refl

-- ---- what is permitted
module _ (T : Tables) (sender : ℕ) (m : List ℕ) (x : Message) (f : WellFormed m x) (a : Ask) (k : IsAsked m x a) where
  -- what is asked names what the message names
  names : (a.circuit ≡ x.circuit) × (a.range ≡ range_given m x)
  names = asked-names m x a k

  named-so : (c : ℕ) → NamedBy m x c → Named a c
  named-so c w = (omega (arith, names.0, w.0), omega (arith, names.0, names.1, w.1))

  so-named : (c : ℕ) → Named a c → NamedBy m x c
  so-named c w = (omega (arith, names.0, w.0), omega (arith, names.0, names.1, w.1))

  -- where 19 is past every named circuit is owned or helped
  right-held : is_some (first_foreign_lem T.owners T.helpers sender a.circuit (a.range + 1)) ≡ false → (c : ℕ) → Named a c → HasRight T sender c
  right-held t c n = right_is T sender c (found_none (has_right T.owners T.helpers sender) a.circuit (a.range + 1) t c n.0 (omega (arith, n.1)))

  -- what a helper may do is what the list has
  may-help : (may_help a.act a.block ≡ true) ↔ Helpable m x
  may-help = subst (λ (b : Ask). (may_help b.act b.block ≡ true) ↔ Helpable m x) k.2 (help-by m x k.0 (type-is x.kind k.0 k.1))

  only-helped : is_some (first_foreign_lem T.owners T.helpers sender a.circuit (a.range + 1)) ≡ false → is_unhelpable T sender a ≡ true → OnlyHelped T sender m x
  unfolding is_unhelpable
  only-helped t v = go (may_help a.act a.block) refl v
    where
      go : (b : Bool) → may_help a.act a.block ≡ b → (when b then false else is_some (first_unowned_lem T.owners sender a.circuit (a.range + 1))) ≡ true → OnlyHelped T sender m x
      go true p h = absurd (true-false {t = false} h refl)
      go false p h =
          let s = found_some (is_mine T.owners sender) a.circuit (a.range + 1) h in
          let n : Named a s.0 = (s.1.from, omega (arith, s.1.within)) in
          let z : sender ≡ 0 → ⊥ = ⊎_elim (λ w. w.1) (λ w. w.1) (right-held t s.0 n) in
          (λ l. true-false (may-help.1 l) p, (s.0, so-named s.0 n, ⊎_elim (λ o. o) (λ e. absurd (z e)) (not-mine T.owners sender s.0 s.1.bad)))

  not-only-helped : is_unhelpable T sender a ≡ false → OnlyHelped T sender m x → ⊥
  unfolding is_unhelpable
  not-only-helped v w = go (may_help a.act a.block) refl v
    where
      go : (b : Bool) → may_help a.act a.block ≡ b → (when b then false else is_some (first_unowned_lem T.owners sender a.circuit (a.range + 1))) ≡ false → ⊥
      go true p h = w.0 (may-help.0 p)
      go false p h =
          let q = named-so w.1.0 w.1.1 in
          w.1.2 (mine-is T.owners sender w.1.0 (found_none (is_mine T.owners sender) a.circuit (a.range + 1) h w.1.0 q.0 (omega (arith, q.1)))).0

  -- of what a message asks: the first of 19, 22, 20 and 21 that is there
  pub permitted-judges : Judges (permitted_of T sender a) (right_faults T sender m)
  unfolding permitted_of
  permitted-judges =
      judges-if (is_some (first_foreign_lem T.owners T.helpers sender a.circuit (a.range + 1)))
      (λ t.
      let s = found_some (has_right T.owners T.helpers sender) a.circuit (a.range + 1) t in
      let n : Named a s.0 = (s.1.from, omega (arith, s.1.within)) in
      (x, f, ⊎_elim (λ o. inl (s.0, so-named s.0 n, o.0, o.1)) (λ z. inr z) (not_right T sender s.0 s.1.bad)))
      (λ t h.
      let n = found_none (has_right T.owners T.helpers sender) a.circuit (a.range + 1) t in
      ⊎_elim
      (λ w.
      let q = named-so w.0 w.1 in
      ⊎_elim (λ k. w.2 k.0) (λ k. w.3 k.0) (right_is T sender w.0 (n w.0 q.0 (omega (arith, q.1)))))
      (λ z. ⊎_elim (λ k. k.1 z) (λ k. k.1 z) (right_is T sender a.circuit (n a.circuit (omega arith) (omega arith))))
      (of-reads m x f (Foreign T sender m) h))
      (λ t.
      judges-if (is_unhelpable T sender a)
      (λ v. (x, f, only-helped t v))
      (λ v h. not-only-helped v (of-reads m x f (OnlyHelped T sender m) h))
      (λ v.
      judges-if (is_some (first_illegal_lem T.states a.circuit (a.range + 1)))
      (λ u.
      let s = found_some (λ c. is_legal (octet T.states c)) a.circuit (a.range + 1) u in
      let n : Named a s.0 = (s.1.from, omega (arith, s.1.within)) in
      (x, f, (s.0, so-named s.0 n, λ l. true-false (is-legal _ l) s.1.bad)))
      (λ u h.
      let n = found_none (λ c. is_legal (octet T.states c)) a.circuit (a.range + 1) u in
      let w = of-reads m x f (Illegal T.states m) h in
      let q = named-so w.0 w.1 in
      w.2 (legal-is _ (n w.0 q.0 (omega (arith, q.1)))))
      (λ u.
      judges-if (is_taken T.states a.act a.circuit)
      (λ v. (x, f, (taken-cases T.states m x a k).0 v))
      (λ v h. (taken-cases T.states m x a k).1 v (of-reads m x f (Taken T.states) h))
      (λ v. judges-done a))))

  -- the same of whatever tables are lent: 16 and 18 first
  pub permit-judges : Judges (permitted_in T sender a) (permit_faults T sender m a)
  unfolding permitted_in
  permit-judges =
      sized-judges T _
      (λ t.
      judges-if (ltb 4095 (a.circuit + a.range)) (λ u. ltb-true 4095 (a.circuit + a.range) u) (λ u h. omega (arith, ltb-false 4095 (a.circuit + a.range) u, h))
      (λ u. permitted-judges))

-- IAM on a circuit that we blocked is 21's case: a row with the 8 is not 0
pub iam-locked : (states : List ℕ) (x : Message) → x.kind ≡ IAM → local (octet states x.circuit) ≡ 1 → Taken states x
iam-locked states x e h = (e, λ z. let k : local (octet states x.circuit) ≡ 0 = ap local z in omega (arith, h, k))
