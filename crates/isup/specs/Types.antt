-- The type octets of the 24 messages: IAM to CPG, as the standard numbers them.
use Rattle.std.specs.Prelude.{ℕ}

-- initial address
abbrev pub IAM : ℕ
IAM = 0x01

-- subsequent address
abbrev pub SAM : ℕ
SAM = 0x02

-- continuity
abbrev pub COT : ℕ
COT = 0x05

-- address complete
abbrev pub ACM : ℕ
ACM = 0x06

-- connect
abbrev pub CON : ℕ
CON = 0x07

-- answer
abbrev pub ANM : ℕ
ANM = 0x09

-- release
abbrev pub REL : ℕ
REL = 0x0C

-- suspend
abbrev pub SUS : ℕ
SUS = 0x0D

-- resume
abbrev pub RES : ℕ
RES = 0x0E

-- release complete
abbrev pub RLC : ℕ
RLC = 0x10

-- reset circuit
abbrev pub RSC : ℕ
RSC = 0x12

-- blocking
abbrev pub BLO : ℕ
BLO = 0x13

-- unblocking
abbrev pub UBL : ℕ
UBL = 0x14

-- blocking acknowledgement
abbrev pub BLA : ℕ
BLA = 0x15

-- unblocking acknowledgement
abbrev pub UBA : ℕ
UBA = 0x16

-- circuit group reset
abbrev pub GRS : ℕ
GRS = 0x17

-- circuit group blocking
abbrev pub CGB : ℕ
CGB = 0x18

-- circuit group unblocking
abbrev pub CGU : ℕ
CGU = 0x19

-- circuit group blocking acknowledgement
abbrev pub CGBA : ℕ
CGBA = 0x1A

-- circuit group unblocking acknowledgement
abbrev pub CGUA : ℕ
CGUA = 0x1B

-- circuit group reset acknowledgement
abbrev pub GRA : ℕ
GRA = 0x29

-- circuit group query
abbrev pub CQM : ℕ
CQM = 0x2A

-- circuit group query response
abbrev pub CQR : ℕ
CQR = 0x2B

-- call progress
abbrev pub CPG : ℕ
CPG = 0x2C
