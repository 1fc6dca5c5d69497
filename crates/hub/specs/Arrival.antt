-- A list of calls on one table, over owners and helpers that do not change:
-- messages that are heard, and desk calls.
use Rattle.std.specs.Prelude.{ℕ, ◌/◌, ◌%◌, ◌≡◌, Bool, true, false, ◌⊎◌, List, [], ◌∷◌, eqb, ltb, length}
use Rattle.octets.specs.Octet.{octet}
use Rattle.octets.specs.Choice.{when◌then◌else◌}
use Rattle.octets.specs.Answer.{Answer}
use Rattle.arrival.specs.Calls.{Calls}
use Rattle.rights.specs.Tables.{tables}
use Rattle.hub.specs.Acts.{After, act_of}
use Rattle.hub.specs.Desk.{desk_of}

-- what is asked: a message that is heard from a sender, or a desk call, our
-- own block on a circuit set or cleared
pub data Event : Type 0 where
  heard : ℕ → List ℕ → Event
  ours : ℕ → Bool → Event

-- a call: what is asked, and the answer buffer as it is lent
pub record Call : Type 0 where
  pub asks : Event
  pub buffer : List ℕ

-- R47. whose call it is: a message is its sender's, and a desk call is the owner's of its circuit;
-- party 0 where nobody owns it or it is above 4095
abbrev pub party_of : List ℕ → Event → ℕ
party_of owners (heard sender message) = sender
party_of owners (ours circuit set) = when ltb 4095 circuit then 0 else octet owners circuit

-- what a call has back: the count of answer octets or the number, and all of the buffer afterwards
pub record Reply : Type 0 where
  pub answer : Answer ℕ
  pub buffer : List ℕ

-- what is done, each by the definition that `act` and `desk_call` are proved to meet
abbrev pub done_by : List ℕ → List ℕ → Event → List ℕ → List ℕ → After
done_by owners helpers (heard sender message) buffer states =
    act_of (tables states owners helpers) sender message buffer
done_by owners helpers (ours circuit set) buffer states = desk_of states circuit set buffer

-- the answer and the buffer of it
abbrev pub replied : After → Reply
replied r = record { answer = r.answer; buffer = r.buffer }

-- a party has a right on the circuits that it owns or helps, and party 0 on those that nobody owns;
-- 0 helps nothing, and above 4095 there is no circuit
abbrev pub holds_of : List ℕ → List ℕ → ℕ → ℕ → Bool
holds_of owners helpers q i =
    when ltb 4095 i then false
    else when eqb (octet owners i) q then true
    else when eqb q 0 then false
    else eqb (octet helpers i) q

-- R48. the same as a statement: a party owns the circuit (party 0 where nobody does), or helps it
abbrev pub RightOf : List ℕ → List ℕ → ℕ → ℕ → Type 0
RightOf owners helpers q i = (octet owners i ≡ q) ⊎ ((octet helpers i ≡ q) × (q ≡ 0 → ⊥))

-- the hub
abbrev pub hub : List ℕ → List ℕ → Calls
hub owners helpers =
    record {
      State = List ℕ;
      Row = ℕ;
      Call = Call;
      Reply = Reply;
      sizes = λ s. length s ∷ [];
      row = λ s i. octet s i;
      party = λ c. party_of owners c.asks;
      holds = holds_of owners helpers;
      answer = λ c s. replied (done_by owners helpers c.asks c.buffer s);
      after = λ c s. (done_by owners helpers c.asks c.buffer s).states;
    }

-- ---- the other reading of 'each with its own answer buffer': one buffer for each party, lent again for each of its calls
-- the rows, and the buffer of each party
pub record Standing : Type 0 where
  pub rows : List ℕ
  pub buffers : ℕ → List ℕ

-- a call that lends its party's buffer as it stands
abbrev pub lending : List ℕ → Standing → Event → Call
lending owners s a = record { asks = a; buffer = s.buffers (party_of owners a) }

-- a party's buffer as its call left it, the others as they were
abbrev pub lent_again : (ℕ → List ℕ) → ℕ → List ℕ → ℕ → List ℕ
lent_again buffers party left q = when eqb q party then left else buffers q

-- what belongs to parties: the rows at even places, the buffers at odd ones
abbrev pub standing_at : Standing → ℕ → List ℕ
standing_at s j = when eqb (j % 2) 0 then octet s.rows (j / 2) ∷ [] else s.buffers (j / 2)

-- a party has a right on the rows that it holds and on its own buffer
abbrev pub stands_of : List ℕ → List ℕ → ℕ → ℕ → Bool
stands_of owners helpers q j =
    when eqb (j % 2) 0 then holds_of owners helpers q (j / 2) else eqb (j / 2) q

-- the same hub, with its buffers kept
abbrev pub hub_keeping : List ℕ → List ℕ → Calls
hub_keeping owners helpers =
    record {
      State = Standing;
      Row = List ℕ;
      Call = Event;
      Reply = Reply;
      sizes = λ s. length s.rows ∷ [];
      row = standing_at;
      party = party_of owners;
      holds = stands_of owners helpers;
      answer = λ a s. (hub owners helpers).answer (lending owners s a) s.rows;
      after = λ a s. record {
        rows = (hub owners helpers).after (lending owners s a) s.rows;
        buffers =
            lent_again s.buffers (party_of owners a)
            ((hub owners helpers).answer (lending owners s a) s.rows).buffer;
      };
    }
