-- Wrong tables, each refuted on one word: its row is not what the
-- definition says, which stands here.
use mathlib.Core.Path.{◌≡◌, refl}
use Rattle.words.specs.Said.{said}
use Rattle.forms.specs.Table.{forms}
use Rattle.forms.specs.Rows.{DIAL}
use Rattle.forms.specs.Inside.{letter_of, letters_all, digits_of, key_of, letters_packed, row_in}

-- the fields of dial, whose nature is a number of any size
pub dial-row : row_in forms 0 (key_of (said "dial")) ≡ record { which = DIAL; letters = letters_packed (said "nnnsr"); longer = 0 }
unfolding row_in key_of digits_of letters_all letter_of
dial-row = refl
