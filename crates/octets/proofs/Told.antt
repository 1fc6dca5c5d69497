-- What was written is told by its answer alone, and a contract over a buffer determines both.
use Prim.Native.Nat.{ℕ}
use mathlib.Core.Path.{◌≡◌, refl, sym, ◌∙◌, ap}
use mathlib.Core.List.{List, [], ◌∷◌}
use Rattle.std.specs.Prelude.{Result, Ok, Err, IsErrAnd, get_or}
use Rattle.octets.specs.Answer.{Answer, refused}
use Rattle.octets.specs.Filled.{Done, done, leaving}
use Rattle.octets.specs.Told.{refusal_number, refusal_place, told}
use Rattle.octets.specs.declared.Refusal.{Refusal}
use Rattle.octets.specs.declared.Refusal.TheVariants.{TooShort, TooLong, UnknownType, CutOff, BadPointer, PastEnd, OpenRun, SharedOctet, NoCircuit, Misfit, BadRun, TooFar, NoRoom, BadContents, NotFound, WrongTables, NotForHub, PastLastCircuit, NotTheirs, IllegalRow, Taken, OnlyHelped, NoBook, NoPlan, NoVelocity}
use Rattle.octets.proofs.Answer.{accepted-same, refused-same, refused-accepted, one_answer}
use Rattle.octets.proofs.Filled.{done-kept}

-- the refusals by their numbers, about an octet
refusal_with : ℕ → ℕ → Refusal
refusal_with k at = get_or (TooShort ∷ TooShort ∷ TooLong ∷ UnknownType at ∷ CutOff at ∷ BadPointer at ∷ PastEnd at ∷ OpenRun at ∷ SharedOctet at ∷ NoCircuit ∷ Misfit ∷ BadRun ∷ TooFar ∷ NoRoom ∷ BadContents ∷ NotFound ∷ WrongTables ∷ NotForHub ∷ PastLastCircuit ∷ NotTheirs ∷ IllegalRow ∷ Taken ∷ OnlyHelped ∷ NoBook ∷ NoBook ∷ NoPlan ∷ NoVelocity ∷ []) k TooShort

refusal_with-told : (why : Refusal) → refusal_with (refusal_number why) (refusal_place why) ≡ why
unfolding refusal_with
refusal_with-told TooShort = refl
refusal_with-told TooLong = refl
refusal_with-told (UnknownType at) = refl
refusal_with-told (CutOff at) = refl
refusal_with-told (BadPointer at) = refl
refusal_with-told (PastEnd at) = refl
refusal_with-told (OpenRun at) = refl
refusal_with-told (SharedOctet at) = refl
refusal_with-told NoCircuit = refl
refusal_with-told Misfit = refl
refusal_with-told BadRun = refl
refusal_with-told TooFar = refl
refusal_with-told NoRoom = refl
refusal_with-told BadContents = refl
refusal_with-told NotFound = refl
refusal_with-told WrongTables = refl
refusal_with-told NotForHub = refl
refusal_with-told PastLastCircuit = refl
refusal_with-told NotTheirs = refl
refusal_with-told IllegalRow = refl
refusal_with-told Taken = refl
refusal_with-told OnlyHelped = refl
refusal_with-told NoBook = refl
refusal_with-told NoPlan = refl
refusal_with-told NoVelocity = refl

-- two refusals with one number and one octet are one
pub refusal-one : (a b : Refusal) → refusal_number a ≡ refusal_number b → refusal_place a ≡ refusal_place b → a ≡ b
refusal-one a b n p = sym (refusal_with-told a) ∙ (λ i. refusal_with (n i) (p i)) ∙ refusal_with-told b

-- each case of an answer says something else
pub told-injective : {A : Type 0} (r s : Result A Refusal) → told r ≡ told s → r ≡ s
told-injective (Ok a) (Ok b) e = ap Ok (accepted-same e)
told-injective (Ok a) (Err why) e = absurd (refused-accepted (sym e))
told-injective (Err why) (Ok b) e = absurd (refused-accepted e)
told-injective (Err a) (Err b) e = let s = refused-same e in ap Err (refusal-one a b s.0 s.1)

-- of any answer with a buffer: any two that a contract allows are equal, and so is what they leave
pub writing-determined : {A : Type 0} (d : Done A) (r s : Result A Refusal) (left left' : List ℕ) → leaving (told r) left ≡ d → leaving (told s) left' ≡ d → (r ≡ s) × (left ≡ left')
writing-determined {A} d r s left left' p q =
    let e = one_answer p q in
    (told-injective r s (ap (λ (x : Done A). x.answer) e), ap (λ (x : Done A). x.left) e)

-- a refusal keeps the buffer
pub writing-keeps : {A : Type 0} (buffer : List ℕ) (x : Answer (A × List ℕ)) (n at : ℕ) (left : List ℕ) → leaving (refused n at) left ≡ done buffer x → left ≡ buffer
writing-keeps {A} buffer x n at left e = ap (λ (d : Done A). d.left) e ∙ done-kept buffer x (sym (ap (λ (d : Done A). d.answer) e))

-- what `?` hands on says what it was handed
pub handed_on : {A : Type 0} (r : Result A Refusal) (why : Refusal) → IsErrAnd r (λ x. x ≡ why) → told r ≡ refused (refusal_number why) (refusal_place why)
handed_on (Ok a) why h = absurd h
handed_on (Err x) why h = ap (λ (y : Refusal). refused (refusal_number y) (refusal_place y)) h
