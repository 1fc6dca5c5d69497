-- The parameters of a run, as the standard says it: no order of reading, no algorithm.
use Rattle.std.specs.Prelude.{ℕ, ◌+◌, ◌≤◌, ◌<◌, ◌≡◌, List, [], ◌∷◌, ◌++◌, ◌⊎◌, length}
use Rattle.octets.specs.Octet.{octet, octets}
use Rattle.runs.specs.Run.{next}

-- an optional parameter
pub record Param : Type 0 where
  pub name : ℕ
  pub contents : List ℕ

-- at octet i stands this parameter: a name that is not 0, a length octet, then that many octets,
-- the last of them before octet k
pub record ParamAt (m : List ℕ) (i : ℕ) (q : Param) (k : ℕ) : Type 0 where
  pub named : q.name ≡ octet m i
  pub not-zero : octet m i ≡ 0 → ⊥
  pub ends : k ≡ i + 2 + octet m (i + 1)
  pub inside : k ≤ length m
  pub holds : q.contents ≡ octets m (i + 2) (octet m (i + 1))

-- from octet i on stand these parameters, one after the other, the last octet of the last before z
abbrev pub Params : List ℕ → ℕ → List Param → ℕ → Type 0
Params m i [] z = z ≡ i
Params m i (q ∷ qs) z = (k : ℕ) × ParamAt m i q k × Params m k qs z

-- at octet z stands the 0 that closes a run
abbrev pub Closes : List ℕ → ℕ → Type 0
Closes m z = (z < length m) × (octet m z ≡ 0)

-- R10. from octet i on stand these parameters, then a 0 where a name would
-- stand, the last octet before j
abbrev pub Run : List ℕ → ℕ → List Param → ℕ → Type 0
Run m i qs j = (z : ℕ) × Params m i qs z × Closes m z × (j ≡ z + 1)

-- at octet i stands a parameter that passes the end
abbrev pub Passes : List ℕ → ℕ → Type 0
Passes m i = (i < length m) × (octet m i ≡ 0 → ⊥) × (length m < next m i)

-- where whole parameters end: at a 0, with the octets, or where one stands that passes their end
abbrev pub Ends : List ℕ → ℕ → Type 0
Ends m z = Closes m z ⊎ ((length m ≤ z) ⊎ Passes m z)

-- these are all the whole parameters from octet i on
abbrev pub Whole : List ℕ → ℕ → List Param → Type 0
Whole m i qs = (z : ℕ) × Params m i qs z × Ends m z

-- R18. a run that is lent by itself: its whole parameters come to a name 0, or
-- to a parameter that passes its end
abbrev pub BadRun : List ℕ → Type 0
BadRun r = (i : ℕ) × (qs : List Param) × Params r 0 qs i × (Closes r i ⊎ Passes r i)

-- no parameter of the list has that name
abbrev pub NoneNamed : ℕ → List Param → Type 0
NoneNamed name [] = Unit {0}
NoneNamed name (q ∷ qs) = (q.name ≡ name → ⊥) × NoneNamed name qs

-- R20. of the parameters qs, which stand from octet i on, the first of that name has its contents
-- at octet a, and they are n octets
pub record FirstNamed (m : List ℕ) (i : ℕ) (qs : List Param) (name a n : ℕ) : Type 0 where
  pub before : List Param
  pub it : Param
  pub after : List Param
  pub place : ℕ
  pub end : ℕ
  pub listed : qs ≡ before ++ (it ∷ after)
  pub others : NoneNamed name before
  pub named : it.name ≡ name
  pub behind : Params m i before place
  pub stands : ParamAt m place it end
  pub starts : a ≡ place + 2
  pub ends : end ≡ a + n
