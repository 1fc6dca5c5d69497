-- Where nobody helps: the owners' table, lent in place of the helpers', is
-- as good as a table of zeros.
use Prim.Native.Nat.{ℕ, ◌+◌}
use mathlib.Core.Path.{◌≡◌, refl, sym, ◌∙◌, ap}
use mathlib.Core.Bool.{Bool, true, false}
use mathlib.Core.List.{List}
use lib.Dec.{eqb}
use lib.ListN.{length, replicate, length-replicate}
use borrow.Author.Tests.{eqb-false, ne_eqb}
use Rattle.std.specs.Prelude.{is_some}
use Rattle.octets.specs.Octet.{octet}
use Rattle.octets.specs.Choice.{when◌then◌else◌}
use Rattle.octets.specs.Answer.{Answer, accepted, refused, ◌then◌}
use Rattle.octets.proofs.Octet.{zero-at}
use Rattle.asks.specs.declared.Ask.{Ask}
use Rattle.asks.specs.Asks.{ask_of}
use Rattle.rights.specs.Tables.{tables, sized}
use Rattle.rights.specs.Rights.{is_mine, has_right, first_not, first_illegal_lem}
use Rattle.rights.specs.Permits.{is_taken, is_unhelpable, permitted_of}
use Rattle.hub.specs.Acts.{roomed, allowed_of, grant_of, carried_out, act_of}

-- of the helpers only who has a right counts: two tables of one length that give the sender the
-- same rights give it the same call
pub rights-count : (s o h k : List ℕ) (q : ℕ) → length h ≡ length k → ((c : ℕ) → has_right o h q c ≡ has_right o k q c) → (m b : List ℕ) → act_of (tables s o h) q m b ≡ act_of (tables s o k) q m b
unfolding act_of grant_of allowed_of permitted_of is_unhelpable
rights-count s o h k q l e m b = ap (carried_out (tables s o h) m b) granted ∙ carried (grant_of (tables s o k) q m (length b))
  where
    permitted : (a : Ask) → permitted_of (tables s o h) q a ≡ permitted_of (tables s o k) q a
    permitted a =
        ap
        (λ (good : ℕ → Bool).
        when is_some (first_not good a.circuit (a.range + 1)) then refused 19 0
        else when is_unhelpable (tables s o h) q a then refused 22 0
        else when is_some (first_illegal_lem s a.circuit (a.range + 1)) then refused 20 0
        else when is_taken s a.act a.circuit then refused 21 0
        else accepted a)
        (λ i c. e c i)

    roomed-alike : (g : Answer Ask) → (g then roomed (tables s o h) m (length b)) ≡ (g then roomed (tables s o k) m (length b))
    roomed-alike (accepted a) = refl
    roomed-alike (refused n at) = refl

    asked : (g : Answer Ask) → (g then allowed_of (tables s o h) q m (length b)) ≡ (g then allowed_of (tables s o k) q m (length b))
    asked (accepted a) = ap (λ (g : Answer Ask). g then roomed (tables s o h) m (length b)) (permitted a) ∙ roomed-alike (permitted_of (tables s o k) q a)
    asked (refused n at) = refl

    granted : grant_of (tables s o h) q m (length b) ≡ grant_of (tables s o k) q m (length b)
    granted =
        ap (λ (n : ℕ). when (when eqb (length s) 4096 then (when eqb (length o) 4096 then eqb n 4096 else false) else false) then (ask_of m then allowed_of (tables s o h) q m (length b)) else refused 16 0) l
        ∙ ap (λ (g : Answer Ask). when sized (tables s o k) then g else refused 16 0) (asked (ask_of m))

    carried : (g : Answer Ask) → carried_out (tables s o h) m b g ≡ carried_out (tables s o k) m b g
    carried (accepted a) = refl
    carried (refused n at) = refl

-- who helps only what it owns helps nothing
pub owners-help-none : (s o : List ℕ) (q : ℕ) (m b : List ℕ) → act_of (tables s o o) q m b ≡ act_of (tables s o (replicate (length o) 0)) q m b
owners-help-none s o q m b =
    rights-count s o o (replicate (length o) 0) q (sym (length-replicate (length o) 0)) (λ c. twice (is_mine o q c) ∙ sym (zeros c (eqb q 0) refl)) m b
  where
    twice : (x : Bool) → (when x then true else x) ≡ x
    twice true = refl
    twice false = refl

    plain : (x : Bool) → (when x then true else false) ≡ x
    plain true = refl
    plain false = refl

    zeros : (c : ℕ) (x : Bool) → eqb q 0 ≡ x → has_right o (replicate (length o) 0) q c ≡ is_mine o q c
    zeros c true p = rw p refl
    zeros c false p = rw p (ap (λ (n : ℕ). when eqb (octet o c) q then true else eqb n q) (zero-at (length o) c) ∙ ap (λ (x : Bool). when eqb (octet o c) q then true else x) (ne_eqb 0 q (λ e. eqb-false q 0 p (sym e))) ∙ plain (eqb (octet o c) q))
