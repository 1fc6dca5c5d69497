-- Legal rows stay legal, whatever the call; and no message changes a row's 8.
use Prim.Native.Nat.{ℕ}
use mathlib.Core.Path.{◌≡◌, refl, sym, ◌∙◌, ap, subst}
use mathlib.Core.Bool.{Bool, true, false}
use mathlib.Core.List.{List}
use mathlib.Core.Logic.{⊎_elim}
use native.Mathlib.Omega.{arith}
use borrow.Author.Tests.{eqb-true, not-false}
use lib.ListN.{length}
use Rattle.octets.specs.Octet.{octet}
use Rattle.rows.specs.declared.Act.{Act}
use Rattle.rows.specs.declared.Act.TheVariants.{Seize}
use Rattle.rows.specs.Rows.{Legal, local, row_of}
use Rattle.rows.proofs.Legality.{row-legal}
use Rattle.rows.proofs.Rules.{local-stays}
use Rattle.asks.specs.declared.Ask.{Ask}
use Rattle.asks.specs.Asks.{mark_of}
use Rattle.rights.specs.Tables.{Tables, tables}
use Rattle.rights.specs.Permits.{is_taken}
use Rattle.hub.specs.Acts.{act_of}
use Rattle.rights.specs.Names.{Named}
use Rattle.hub.specs.Arrival.{Event, heard, ours, done_by}
use Rattle.hub.proofs.Given.{Allowed}
use Rattle.hub.proofs.Called.{row_inside, row-outside, named-or, seized-alone, call-accepted, act-keeps, answer-or, reaches}
use Rattle.hub.proofs.Desk.{desk-legal-stays}

-- a row that is legal is legal after any call
pub legal-stays : (T : Tables) (sender : ℕ) (m buffer : List ℕ) (c : ℕ) → Legal (octet T.states c) → Legal (octet (act_of T sender m buffer).states c)
legal-stays T sender m buffer c h =
    ⊎_elim
    (λ e.
    let d = call-accepted T sender m buffer e.0 e.1 in
    let l = reaches T sender m buffer d.ask d.allowed in
    subst (λ (t : List ℕ). Legal (octet t c)) (sym d.rows)
    (⊎_elim
    (λ n. subst (λ (r : ℕ). Legal r) (sym (row_inside m d.ask T.states c n (omega (arith, d.allowed.states-sized)))) (row-legal d.ask.act d.ask.block (mark_of m d.ask.status _) _ h))
    (λ n. subst (λ (r : ℕ). Legal r) (sym (row-outside m d.ask T.states c n)) h)
    (named-or d.ask c)))
    (λ e. subst (λ (t : List ℕ). Legal (octet t c)) (sym (act-keeps T sender m buffer e.0 e.1 e.2).0) h)
    (answer-or T sender m buffer)

-- no message changes a row's 8
pub message-keeps-local : (T : Tables) (sender : ℕ) (m buffer : List ℕ) (c : ℕ) → local (octet (act_of T sender m buffer).states c) ≡ local (octet T.states c)
message-keeps-local T sender m buffer c =
    ⊎_elim
    (λ e.
    let d = call-accepted T sender m buffer e.0 e.1 in
    let a = d.ask in
    let l = reaches T sender m buffer a d.allowed in
    ap (λ (t : List ℕ). local (octet t c)) d.rows
    ∙ ⊎_elim
    (λ n.
    ap local (row_inside m a T.states c n (omega (arith, d.allowed.states-sized)))
    ∙ row-local a.act a.block (mark_of m a.status _) _ (λ s. idle a d.allowed s c n))
    (λ n. ap local (row-outside m a T.states c n))
    (named-or a c))
    (λ e. ap (λ (t : List ℕ). local (octet t c)) (act-keeps T sender m buffer e.0 e.1 e.2).0)
    (answer-or T sender m buffer)
  where
    row-local : (act : Act) (block : ℕ) (marked : Bool) (row : ℕ) → (act ≡ Seize → row ≡ 0) → local (row_of act block marked row) ≡ local row
    row-local act block true row h = local-stays act block row h
    row-local act block false row h = refl

    -- IAM names one circuit, and its row is 0
    idle : (a : Ask) → Allowed T sender m (length buffer) a → a.act ≡ Seize → (k : ℕ) → Named a k → octet T.states k ≡ 0
    idle a g s k n =
        let z : octet T.states a.circuit ≡ 0 = eqb-true _ _ (not-false _ (ap (λ (act : Act). is_taken T.states act a.circuit) (sym s) ∙ g.free)) in
        let r : a.range ≡ 0 = seized-alone m a g.asks s in
        let q : k ≡ a.circuit = omega (arith, n.0, n.1, r) in
        ap (octet T.states) q ∙ z

-- legal rows stay legal under both kinds of call
pub call-legal : (owners helpers : List ℕ) (a : Event) (buffer s : List ℕ) (c : ℕ) → Legal (octet s c) → Legal (octet (done_by owners helpers a buffer s).states c)
call-legal owners helpers (heard sender m) buffer s c h = legal-stays (tables s owners helpers) sender m buffer c h
call-legal owners helpers (ours circuit set) buffer s c h = desk-legal-stays s circuit set buffer c h
