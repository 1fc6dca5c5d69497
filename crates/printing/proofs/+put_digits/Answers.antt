use Rattle.std.proofs.Common.{◌+◌, ◌-◌, ◌%◌, sym, ◌∙◌, ap, arith}
use Rattle.printing.specs.Sheet.{Sheet, sheet, put}
use Rattle.printing.proofs.Pours.{decimal-none, decimal-last, decimal-more}
use Rattle.printing.proofs.+put_digits.Goals as goal
use Rattle.printing.proofs.+put_digits.Goals.{then-number-gt9, else-number-gt9}

pub returns-then-places-eq0 : goal.returns-then-places-eq0
returns-then-places-eq0 t c = let a = c.args in sym (decimal-none (sheet a.out.now a.at) a.places a.number c.if-places-eq0.true)

pub returns : goal.returns
returns t c =
    let a = c.args in
    let s = sheet a.out.now a.at in
    c.put_octet.ensures ∙ elim c.if-number-gt9.branch [ then-number-gt9 w ↦ ap (λ (x : Sheet). put x (48 + a.number % 10)) ((λ i. sheet (w.out-is i) (w.next-is i)) ∙ w.put_digits-next.ensures) ∙ sym (decimal-more s a.places (a.places - 1) a.number (omega arith) w.if-number-gt9.true) | else-number-gt9 w ↦ (λ i. put (sheet (w.out-is i) (w.next-is i)) (48 + a.number % 10)) ∙ sym (decimal-last s a.places a.number c.if-places-eq0.false w.if-number-gt9.false) ]
