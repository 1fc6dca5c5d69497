use Rattle.forms.specs.Table.{forms}
use Rattle.forms.specs.Inside.{letter_of, letters_all, digits_of, key_of, row_in}
use Rattle.forms.proofs.Keys.{row-none}
use Rattle.forms.proofs.row_of.Goals as goal

-- Written by tools/forms.

pub returns-in-3425539 : goal.returns-in-3425539
unfolding row_in key_of digits_of letters_all letter_of
returns-in-3425539 c = rw c.in-3425539.is

pub returns-in-88750 : goal.returns-in-88750
unfolding row_in key_of digits_of letters_all letter_of
returns-in-88750 c = rw c.in-88750.is

pub returns-in-3519903 : goal.returns-in-3519903
unfolding row_in key_of digits_of letters_all letter_of
returns-in-3519903 c = rw c.in-3519903.is

pub returns-in-9690413687 : goal.returns-in-9690413687
unfolding row_in key_of digits_of letters_all letter_of
returns-in-9690413687 c = rw c.in-9690413687.is

pub returns-in-99042 : goal.returns-in-99042
unfolding row_in key_of digits_of letters_all letter_of
returns-in-99042 c = rw c.in-99042.is

pub returns-in-312914602 : goal.returns-in-312914602
unfolding row_in key_of digits_of letters_all letter_of
returns-in-312914602 c = rw c.in-312914602.is

pub returns-in-264464 : goal.returns-in-264464
unfolding row_in key_of digits_of letters_all letter_of
returns-in-264464 c = rw c.in-264464.is

pub returns-in-11635 : goal.returns-in-11635
unfolding row_in key_of digits_of letters_all letter_of
returns-in-11635 c = rw c.in-11635.is

pub returns-in-313220692 : goal.returns-in-313220692
unfolding row_in key_of digits_of letters_all letter_of
returns-in-313220692 c = rw c.in-313220692.is

pub returns-in-15839 : goal.returns-in-15839
unfolding row_in key_of digits_of letters_all letter_of
returns-in-15839 c = rw c.in-15839.is

pub returns-in-435558 : goal.returns-in-435558
unfolding row_in key_of digits_of letters_all letter_of
returns-in-435558 c = rw c.in-435558.is

pub returns-in-15765 : goal.returns-in-15765
unfolding row_in key_of digits_of letters_all letter_of
returns-in-15765 c = rw c.in-15765.is

pub returns-in-6839170 : goal.returns-in-6839170
unfolding row_in key_of digits_of letters_all letter_of
returns-in-6839170 c = rw c.in-6839170.is

pub returns-in-5361909693 : goal.returns-in-5361909693
unfolding row_in key_of digits_of letters_all letter_of
returns-in-5361909693 c = rw c.in-5361909693.is

pub returns-in-347118095010 : goal.returns-in-347118095010
unfolding row_in key_of digits_of letters_all letter_of
returns-in-347118095010 c = rw c.in-347118095010.is

pub returns-in-2579609345834404514 : goal.returns-in-2579609345834404514
unfolding row_in key_of digits_of letters_all letter_of
returns-in-2579609345834404514 c = rw c.in-2579609345834404514.is

pub returns-in-58954803452526 : goal.returns-in-58954803452526
unfolding row_in key_of digits_of letters_all letter_of
returns-in-58954803452526 c = rw c.in-58954803452526.is

pub returns-in-1527436824174 : goal.returns-in-1527436824174
unfolding row_in key_of digits_of letters_all letter_of
returns-in-1527436824174 c = rw c.in-1527436824174.is

pub returns-in-60578842618478 : goal.returns-in-60578842618478
unfolding row_in key_of digits_of letters_all letter_of
returns-in-60578842618478 c = rw c.in-60578842618478.is

pub returns-in-166775585642170990 : goal.returns-in-166775585642170990
unfolding row_in key_of digits_of letters_all letter_of
returns-in-166775585642170990 c = rw c.in-166775585642170990.is

pub returns-in-58954803737751 : goal.returns-in-58954803737751
unfolding row_in key_of digits_of letters_all letter_of
returns-in-58954803737751 c = rw c.in-58954803737751.is

pub returns-in-1527437109399 : goal.returns-in-1527437109399
unfolding row_in key_of digits_of letters_all letter_of
returns-in-1527437109399 c = rw c.in-1527437109399.is

pub returns-in-60578842903703 : goal.returns-in-60578842903703
unfolding row_in key_of digits_of letters_all letter_of
returns-in-60578842903703 c = rw c.in-60578842903703.is

pub returns-in-166775585642456215 : goal.returns-in-166775585642456215
unfolding row_in key_of digits_of letters_all letter_of
returns-in-166775585642456215 c = rw c.in-166775585642456215.is

pub returns-in-454200 : goal.returns-in-454200
unfolding row_in key_of digits_of letters_all letter_of
returns-in-454200 c = rw c.in-454200.is

pub returns-in-7816965809774 : goal.returns-in-7816965809774
unfolding row_in key_of digits_of letters_all letter_of
returns-in-7816965809774 c = rw c.in-7816965809774.is

pub returns-in-7816966094999 : goal.returns-in-7816966094999
unfolding row_in key_of digits_of letters_all letter_of
returns-in-7816966094999 c = rw c.in-7816966094999.is

pub returns-in-564286 : goal.returns-in-564286
unfolding row_in key_of digits_of letters_all letter_of
returns-in-564286 c = rw c.in-564286.is

pub returns-in-334410936 : goal.returns-in-334410936
unfolding row_in key_of digits_of letters_all letter_of
returns-in-334410936 c = rw c.in-334410936.is

pub returns-in-7413944 : goal.returns-in-7413944
unfolding row_in key_of digits_of letters_all letter_of
returns-in-7413944 c = rw c.in-7413944.is

pub returns-in-2140080254 : goal.returns-in-2140080254
unfolding row_in key_of digits_of letters_all letter_of
returns-in-2140080254 c = rw c.in-2140080254.is

pub returns-in-244096 : goal.returns-in-244096
unfolding row_in key_of digits_of letters_all letter_of
returns-in-244096 c = rw c.in-244096.is

pub returns-in-308464 : goal.returns-in-308464
unfolding row_in key_of digits_of letters_all letter_of
returns-in-308464 c = rw c.in-308464.is

pub returns-in-6831219 : goal.returns-in-6831219
unfolding row_in key_of digits_of letters_all letter_of
returns-in-6831219 c = rw c.in-6831219.is

pub returns-in_default : goal.returns-in_default
unfolding key_of digits_of letters_all letter_of
returns-in_default c = row-none forms _ c.in_default.in_default-own.rest
