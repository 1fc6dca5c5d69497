use Prim.Native.Nat.{ℕ}
use mathlib.Core.Path.{◌∙◌, ap}
use borrow.Author.Tests.{lt-ltb, le-ltb}
use Rattle.marks.specs.Marks.{cut_to, status_octet_lem}
use Rattle.marks.proofs.status_octet.Goals as goal

pub returns-then-j-range : goal.returns-then-j-range
unfolding status_octet_lem
returns-then-j-range c = rw (lt-ltb _ _ c.if-j-range.true) c.octet_at-octet.ensures

pub returns : goal.returns
unfolding status_octet_lem
returns c =
    let a = c.args in
    rw (le-ltb _ _ c.if-j-range.false) (c.cut.ensures ∙ ap (λ (o : ℕ). cut_to o a.range) c.octet_at-octet.ensures)
