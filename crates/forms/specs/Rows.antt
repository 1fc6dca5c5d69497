-- The rows by name. Written by tools/forms.
use Rattle.std.specs.Prelude.{ℕ}

-- shape TYPE
abbrev pub SHAPE : ℕ
SHAPE = 0

-- read MESSAGE
abbrev pub READ : ℕ
READ = 1

-- write CIRCUIT TYPE FIXED FIRST SECOND OPTIONAL ROOM
abbrev pub WRITE : ℕ
WRITE = 2

-- compact MESSAGE ROOM
abbrev pub COMPACT : ℕ
COMPACT = 3

-- find NAME MESSAGE DEFAULTS
abbrev pub FIND : ℕ
FIND = 4

-- number CONTENTS ROOM
abbrev pub NUMBER : ℕ
NUMBER = 5

-- dial NATURE PLAN INTERNAL SIGNALS ROOM
abbrev pub DIAL : ℕ
DIAL = 6

-- own FIRST LAST SENDER
abbrev pub OWN : ℕ
OWN = 7

-- helper FIRST LAST SENDER
abbrev pub HELPER : ℕ
HELPER = 8

-- set FIRST LAST STATE
abbrev pub SET : ℕ
SET = 9

-- rows FIRST LAST
abbrev pub ROWS : ℕ
ROWS = 10

-- act SENDER MESSAGE ROOM
abbrev pub ACT : ℕ
ACT = 11

-- block CIRCUIT ROOM
abbrev pub BLOCK : ℕ
BLOCK = 12

-- unblock CIRCUIT ROOM
abbrev pub UNBLOCK : ℕ
UNBLOCK = 13

-- velocity BEARING SPEED
abbrev pub VELOCITY : ℕ
VELOCITY = 14

-- velocity BEARING SPEED VERTICAL MARK
abbrev pub VELOCITY-LONG : ℕ
VELOCITY-LONG = 15

-- velocity-back BEARING SPEED
abbrev pub VELOCITY-BACK : ℕ
VELOCITY-BACK = 16

-- velocity-back BEARING SPEED VERTICAL MARK
abbrev pub VELOCITY-BACK-LONG : ℕ
VELOCITY-BACK-LONG = 17

-- bicc-shape TYPE
abbrev pub BICC-SHAPE : ℕ
BICC-SHAPE = 18

-- bicc-read MESSAGE
abbrev pub BICC-READ : ℕ
BICC-READ = 19

-- bicc-write CODE TYPE FIXED FIRST SECOND OPTIONAL ROOM
abbrev pub BICC-WRITE : ℕ
BICC-WRITE = 20

-- bicc-compact MESSAGE ROOM
abbrev pub BICC-COMPACT : ℕ
BICC-COMPACT = 21

-- sccp-shape TYPE
abbrev pub SCCP-SHAPE : ℕ
SCCP-SHAPE = 22

-- sccp-read MESSAGE
abbrev pub SCCP-READ : ℕ
SCCP-READ = 23

-- sccp-write TYPE FIXED FIRST SECOND THIRD OPTIONAL ROOM
abbrev pub SCCP-WRITE : ℕ
SCCP-WRITE = 24

-- sccp-compact MESSAGE ROOM
abbrev pub SCCP-COMPACT : ℕ
SCCP-COMPACT = 25

-- list MESSAGE
abbrev pub LIST : ℕ
LIST = 26

-- bicc-list MESSAGE
abbrev pub BICC-LIST : ℕ
BICC-LIST = 27

-- sccp-list MESSAGE
abbrev pub SCCP-LIST : ℕ
SCCP-LIST = 28

-- busy FIRST LAST
abbrev pub BUSY : ℕ
BUSY = 29

-- totals
abbrev pub TOTALS : ℕ
TOTALS = 30

-- total BLOCK VALUE
abbrev pub TOTAL : ℕ
TOTAL = 31

-- rebuild
abbrev pub REBUILD : ℕ
REBUILD = 32

-- tick FIRST LAST OCTET
abbrev pub TICK : ℕ
TICK = 33

-- plan SENDER KIND ROOM
abbrev pub PLAN : ℕ
PLAN = 34

-- check SENDER KIND PLAN
abbrev pub CHECK : ℕ
CHECK = 35

-- a line that is no request
abbrev pub BAD : ℕ
BAD = 255
