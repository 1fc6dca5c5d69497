use Rattle.std.proofs.Common.{ℕ, ◌≡◌, ◌∙◌, Bool, false, ◌&&◌, List, [], ◌∷◌, ltb, leb, refl, arith, rules, tests}
use Rattle.std.specs.List.{list_all}
use Rattle.std.proofs.lemmas.Iterator.{YieldsList-from_slice}
use Rattle.std.proofs.lemmas.Iterator.Search.{all_from_yields_List}
use Rattle.std.proofs.lemmas.Bool.Decides.{nat_tests}
use Rattle.octets.specs.Choice.{when◌then◌else◌}
use Rattle.words.specs.Digits.{value_of}
use Rattle.words.specs.Words.{all_digits_lem}
use Rattle.digits.proofs.all_digits.Goals as goal

-- whether an octet is a hexadecimal digit, as the code asks it
abbrev is_digit : ℕ → Bool
is_digit c = leb (value_of c) 15

-- an octet by the code's test and by the definition's
either : (c : ℕ) (rest : Bool) → (is_digit c && rest) ≡ (when ltb 15 (value_of c) then false else rest)
either c rest = grind (arith, nat_tests)

-- each octet of a word by them
alike : (word : List ℕ) → list_all is_digit word ≡ all_digits_lem word
unfolding all_digits_lem
alike [] = refl
alike (c ∷ cs) = rw (alike cs) (either c (all_digits_lem cs))

pub returns : goal.returns
returns c =
    all_from_yields_List is_digit _ _ c.all.result c.all.ensures.ran (YieldsList-from_slice c.args.word.now cc) (λ x b q k. search (rules, tests)) ∙ alike c.args.word.now
