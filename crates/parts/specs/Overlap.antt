-- Whether two parts share an octet, and what the parts hold.
use Rattle.std.specs.Prelude.{ℕ, ◌+◌, ◌-◌, ◌≤◌, ◌≡◌, Bool, true, false, ◌⊎◌, ltb, leb}
use Rattle.octets.specs.Choice.{when◌then◌else◌}
use Rattle.octets.specs.Answer.{Answer, accepted, refused}
use Rattle.parts.specs.declared.Span.{Span}
use Rattle.parts.specs.declared.Parts.{Parts}
use Rattle.parts.specs.Spans.{span}

-- two parts share an octet where neither ends before the other starts
unfoldable pub shares_of : Span → Span → Bool
shares_of a b =
    when leb b.to a.from then false else when leb a.to b.from then false else true

-- the later start of the two
abbrev pub later : Span → Span → ℕ
later a b = when ltb a.from b.from then b.from else a.from

-- `at` is the larger of the two starts
pub record LargerStart (a b : Span) (at : ℕ) : Type 0 where
  pub first : a.from ≤ at
  pub second : b.from ≤ at
  pub one : (at ≡ a.from) ⊎ (at ≡ b.from)

-- what a variable parameter holds is past its length octet
abbrev pub contents_of_lem : Span → Span
contents_of_lem s = when ltb s.from s.to then span (s.from + 1) s.to else s

-- what an optional part holds comes before its closing 0
abbrev pub run_of : Span → Span
run_of s = when ltb s.from s.to then span s.from (s.to - 1) else s

-- what the parts hold, from the octets that each takes
unfoldable pub held : Span → Span → Span → Span → Span → Parts
held f a b c d =
    record {
      fixed = f;
      first = contents_of_lem a;
      second = contents_of_lem b;
      third = contents_of_lem c;
      optional = run_of d;
    }

-- 8 where two parts share an octet, about the later start: the pairs in
-- pointer order, by first member, then second
unfoldable pub judged : Span → Span → Span → Span → Span → Answer Parts
judged f a b c d =
    when shares_of a b then refused 8 (later a b)
    else when shares_of a c then refused 8 (later a c)
    else when shares_of a d then refused 8 (later a d)
    else when shares_of b c then refused 8 (later b c)
    else when shares_of b d then refused 8 (later b d)
    else when shares_of c d then refused 8 (later c d)
    else accepted (held f a b c d)
