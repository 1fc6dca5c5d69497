-- What an answer of the code says, in the documents' terms: a refusal's number and the octet that
-- it is about.
use Rattle.std.specs.Prelude.{ℕ, Result, Ok, Err}
use Rattle.octets.specs.Answer.{Answer, accepted, refused}
use Rattle.octets.specs.declared.Refusal.{Refusal}
use Rattle.octets.specs.declared.Refusal.TheVariants.{TooShort, TooLong, UnknownType, CutOff, BadPointer, PastEnd, OpenRun, SharedOctet, NoCircuit, Misfit, BadRun, TooFar, NoRoom, BadContents, NotFound, WrongTables, NotForHub, PastLastCircuit, NotTheirs, IllegalRow, Taken, OnlyHelped, NoBook, NoPlan, NoVelocity}

-- the number of a refusal in documents 01 and 02
abbrev pub refusal_number : Refusal → ℕ
refusal_number TooShort = 1
refusal_number TooLong = 2
refusal_number (UnknownType at) = 3
refusal_number (CutOff at) = 4
refusal_number (BadPointer at) = 5
refusal_number (PastEnd at) = 6
refusal_number (OpenRun at) = 7
refusal_number (SharedOctet at) = 8
refusal_number NoCircuit = 9
refusal_number Misfit = 10
refusal_number BadRun = 11
refusal_number TooFar = 12
refusal_number NoRoom = 13
refusal_number BadContents = 14
refusal_number NotFound = 15
refusal_number WrongTables = 16
refusal_number NotForHub = 17
refusal_number PastLastCircuit = 18
refusal_number NotTheirs = 19
refusal_number IllegalRow = 20
refusal_number Taken = 21
refusal_number OnlyHelped = 22
refusal_number NoBook = 24
refusal_number NoPlan = 25
refusal_number NoVelocity = 26

-- the octet that a refusal is about, 0 where it is about none
abbrev pub refusal_place : Refusal → ℕ
refusal_place TooShort = 0
refusal_place TooLong = 0
refusal_place (UnknownType at) = at
refusal_place (CutOff at) = at
refusal_place (BadPointer at) = at
refusal_place (PastEnd at) = at
refusal_place (OpenRun at) = at
refusal_place (SharedOctet at) = at
refusal_place NoCircuit = 0
refusal_place Misfit = 0
refusal_place BadRun = 0
refusal_place TooFar = 0
refusal_place NoRoom = 0
refusal_place BadContents = 0
refusal_place NotFound = 0
refusal_place WrongTables = 0
refusal_place NotForHub = 0
refusal_place PastLastCircuit = 0
refusal_place NotTheirs = 0
refusal_place IllegalRow = 0
refusal_place Taken = 0
refusal_place OnlyHelped = 0
refusal_place NoBook = 0
refusal_place NoPlan = 0
refusal_place NoVelocity = 0

-- what was accepted, or the refusal by its number and its octet
abbrev pub told_by : {A E : Type 0} → (E → ℕ) → (E → ℕ) → Result A E → Answer A
told_by number place (Ok a) = accepted a
told_by number place (Err why) = refused (number why) (place why)

-- the same, of a refusal of the documents
abbrev pub told : {A : Type 0} → Result A Refusal → Answer A
told = told_by refusal_number refusal_place
