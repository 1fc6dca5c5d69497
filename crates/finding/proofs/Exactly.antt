-- The search finds exactly what it should.
use Prim.Native.Nat.{ℕ, ◌≤◌}
use mathlib.Core.Path.{◌≡◌, refl, sym, ◌∙◌, ap, subst}
use mathlib.Core.List.{List, [], ◌∷◌, ◌++◌}
use mathlib.Core.Logic.{inl, inr, ⊎_elim, ◌↔◌}
use native.Mathlib.Omega.{arith}
use borrow.Author.Tests.{lt-ltb, le-ltb, ltb-false}
use lib.Dec.{ltb}
use lib.ListN.{length}
use Rattle.std.specs.Prelude.{Some, None}
use Rattle.octets.specs.Choice.{when◌then◌else◌}
use Rattle.octets.proofs.Choice.{decided}
use Rattle.octets.specs.Octet.{octet}
use Rattle.octets.specs.Answer.{accepted, refused}
use Rattle.runs.specs.Run.{named_from}
use Rattle.runs.specs.Params.{Param, Params, NoneNamed, FirstNamed}
use Rattle.runs.proofs.Exactly.{is-run-exactly}
use Rattle.layout.proofs.Exactly.{run-params}
use Rattle.runs.proofs.Runs.{named-among, nowhere-among, zero-nowhere, params-unique}
use Rattle.isup.specs.declared.Message.{Message}
use Rattle.finding.specs.Find.{Spot, spot, named_in, first_of, sought_in, locate_of}
use Rattle.isup.specs.WellFormed.{WellFormed}
use Rattle.finding.specs.FoundAt.{Lacks, RunLacks, FoundAt}
use Rattle.finding.proofs.Spots.{located-says}
use Rattle.isup.proofs.Exactly.{read-exactly, params-one}

-- ---- the search in a message's run
module _ (m : List ℕ) (x : Message) (f : WellFormed m x) (name : ℕ) where
  pub in-run-exactly : (a n : ℕ) → (named_in m x.parts.optional name ≡ Some (a, n)) ↔ FirstNamed m x.parts.optional.from f.params name a n
  unfolding named_in
  in-run-exactly a n =
      ⊎_elim
      (λ r. let e = named-among f.params m x.parts.optional.from name x.parts.optional.to r.1 (inl r.2) a n in (λ h. e.0 (simp (lt-ltb _ _ r.0) at h), λ y. simp (lt-ltb _ _ r.0) (e.1 y)))
      (λ r. (
        λ h. absurd (let q = simp (le-ltb _ _ r.0) at h in let z : ◌≡◌ {A = ℕ} 0 1 = cc in omega arith),
        λ y. absurd (none_first f.params r.1 x.parts.optional.from a n y),
      ))
      (run-params m 2 f.shape x.parts f.params f.laid)
    where
      none_first : (qs : List Param) → qs ≡ [] → (i a n : ℕ) → FirstNamed m i qs name a n → ⊥
      none_first qs e i a n y = not-nil y.before (sym y.listed ∙ e)
        where
          not-nil : (l : List Param) → ◌++◌ l (y.it ∷ y.after) ≡ [] → ⊥
          not-nil [] h = let z : ◌≡◌ {A = ℕ} 0 1 = cc in omega arith
          not-nil (q ∷ qs) h = let z : ◌≡◌ {A = ℕ} 0 1 = cc in omega arith

  pub not-in-run : (named_in m x.parts.optional name ≡ None) ↔ NoneNamed name f.params
  unfolding named_in
  not-in-run =
      ⊎_elim
      (λ r. let e = nowhere-among f.params m x.parts.optional.from name x.parts.optional.to r.1 (inl r.2) in (λ h. e.0 (simp (lt-ltb _ _ r.0) at h), λ y. simp (lt-ltb _ _ r.0) (e.1 y)))
      (λ r. (λ h. rw r.1 tt, λ y. simp (le-ltb _ _ r.0)))
      (run-params m 2 f.shape x.parts f.params f.laid)

  -- the message lacks the name exactly when its search ends in nothing
  pub lacks-exactly : (named_in m x.parts.optional name ≡ None) ↔ Lacks m name
  lacks-exactly = (
    λ h y g. subst (λ (qs : List Param). NoneNamed name qs) (params-one m x y f g) (not-in-run.0 h),
    λ l. not-in-run.1 (l x f),
  )

-- ---- the search in a run that is lent
module _ (d : List ℕ) (name : ℕ) (ds : List Param) (p : Params d 0 ds (length d)) where
  ended : length d ≤ length d
  ended = omega arith

  pub in-defaults-exactly : (a n : ℕ) → (named_from d 0 name ≡ Some (a, n)) ↔ FirstNamed d 0 ds name a n
  in-defaults-exactly a n = named-among ds d 0 name (length d) p (inr (inl ended)) a n

  pub run-lacks-exactly : (named_from d 0 name ≡ None) ↔ RunLacks d name
  run-lacks-exactly = (
    λ h es q. subst (λ (qs : List Param). NoneNamed name qs) (params-unique ds es d 0 (length d) (length d) p q (inr (inl ended)) (inr (inl ended))).0 ((nowhere-among ds d 0 name (length d) p (inr (inl ended))).0 h),
    λ l. (nowhere-among ds d 0 name (length d) p (inr (inl ended))).1 (l ds p),
  )

-- found exactly where the paper says: the first of that name in wire order among the message's
-- parameters, else among the defaults'
pub found-exactly : (m d : List ℕ) (name : ℕ) (s : Spot) → (locate_of m d name ≡ accepted s) ↔ FoundAt m d name s
unfolding locate_of sought_in
found-exactly m d name s = (there, back)
  where
    there : locate_of m d name ≡ accepted s → FoundAt m d name s
    there h =
        let g = located-says m d name s h in
        let x = g.0 in
        let f = (read-exactly m g.0).0 g.1 in
        let r = (is-run-exactly d).0 g.2.run-whole in (
          r,
          ltb-false _ _ g.2.octet,
          ⊎_elim
              (λ y. inl (y.0, (g.0, f, (in-run-exactly m g.0 f name s.start s.len).0 y.1)))
              (λ y. inr (y.0, (g.0, f), (lacks-exactly m g.0 f name).0 y.1, (r.0, r.1, (in-defaults-exactly d name r.0 r.1 s.start s.len).0 y.2)))
              g.2.found,
        )

    said : (h : ℕ) → s.holder ≡ h → spot h s.start s.len ≡ s
    said h e = λ i. record { holder = sym e i; start = s.start; len = s.len }

    begun : (x : Message) → WellFormed m x → (ds : List Param) × Params d 0 ds (length d) → name ≤ 255 → first_of m x.parts.optional d name ≡ accepted s → locate_of m d name ≡ accepted s
    begun x f r o e = rw ((read-exactly m x).1 f) (simp ((is-run-exactly d).1 r, le-ltb _ _ o) e)

    back : FoundAt m d name s → locate_of m d name ≡ accepted s
    back y =
        ⊎_elim
        (λ z.
        let x = z.1.0 in
        let f = z.1.1 in
        begun z.1.0 z.1.1 y.0 y.1 (rw ((in-run-exactly m z.1.0 z.1.1 name s.start s.len).1 z.1.2) (ap accepted (said 0 z.0))))
        (λ z.
        let r = z.3 in
        begun z.1.0 z.1.1 y.0 y.1
        (rw ((lacks-exactly m z.1.0 z.1.1 name).1 z.2, (in-defaults-exactly d name r.0 r.1 s.start s.len).1 r.2) (ap accepted (said 100 z.0))))
        y.2

-- name 0 gives 15, whatever the message and the defaults hold
pub name-zero : (m d : List ℕ) (x : Message) (ds : List Param) → WellFormed m x → Params d 0 ds (length d) → locate_of m d 0 ≡ refused 15 0
unfolding locate_of sought_in named_in
name-zero m d x ds f p =
    let r = x.parts.optional in
    let none : (when ltb r.from r.to then named_from m r.from 0 else None) ≡ None = ⊎_elim (λ t. rw t (zero-nowhere m r.from)) (λ t. rw t refl) (decided (ltb r.from r.to)) in
    rw ((read-exactly m x).1 f, (is-run-exactly d).1 (ds, p), none, zero-nowhere d 0) refl
