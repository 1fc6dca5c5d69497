-- The answers glued of what the called functions gave.
use Prim.Native.Nat.{ℕ, ◌≤◌, ◌<◌}
use mathlib.Core.Path.{◌≡◌, refl}
use borrow.Author.Tests.{lt-ltb, le-ltb}
use Rattle.octets.specs.Answer.{accepted, refused}
use Rattle.velocity.specs.declared.Mark.{Mark}
use Rattle.velocity.specs.declared.Codes.{Codes}
use Rattle.velocity.specs.declared.Codes.TheVariants.{Horizontal, WithVertical}
use Rattle.velocity.specs.declared.Course.{Course}
use Rattle.velocity.specs.Velocity.{whole_of, course_of_lem, known_of, alone, beside}

pub read-refused : {c : Codes} {b s : ℕ} → c ≡ Horizontal b s → 359 < b → refused 26 0 ≡ known_of c
unfolding known_of
read-refused e h = rw (e, lt-ltb 359 _ h) refl

pub read-flat : {c : Codes} {b s : ℕ} {r : Course} → c ≡ Horizontal b s → b ≤ 359 → r ≡ course_of_lem b s → accepted (alone r) ≡ known_of c
unfolding known_of
read-flat e h q = rw (e, q, le-ltb 359 _ h) refl

pub read-up-refused : {c : Codes} {b s u : ℕ} {mark : Mark} → c ≡ WithVertical b s u mark → 359 < b → refused 26 0 ≡ known_of c
unfolding known_of
read-up-refused e h = rw (e, lt-ltb 359 _ h) refl

pub read_up : {c : Codes} {b s u : ℕ} {mark : Mark} {r : Course} → c ≡ WithVertical b s u mark → b ≤ 359 → r ≡ course_of_lem b s → accepted (beside r (whole_of u) mark) ≡ known_of c
unfolding known_of
read_up e h q = rw (e, q, le-ltb 359 _ h) refl
