use mathlib.Core.Path.{◌≡◌, ◌∙◌}
use mathlib.Core.Bool.{false}
use lib.Dec.{eqb, leb}
use Rattle.machine.specs.Machine.{fits_by}
use Rattle.machine.proofs.Told.{fits-by}
use Rattle.octets.proofs.Tests.{tests}
use Rattle.feeding.proofs.ready.Goals as goal

pub returns-then-wanted-eq0 : goal.returns-then-wanted-eq0
returns-then-wanted-eq0 c =
    let a = c.args in
    let e : eqb a.place.held 0 ≡ fits_by a.place.held c.want-wanted.result a.room = search tests in
    e ∙ fits-by a.place a.room c.want-wanted.ensures

pub returns-then-wanted-gt268 : goal.returns-then-wanted-gt268
returns-then-wanted-gt268 c =
    let a = c.args in
    let e : false ≡ fits_by a.place.held c.want-wanted.result a.room = search tests in
    e ∙ fits-by a.place a.room c.want-wanted.ensures

pub returns-then-held-wanted : goal.returns-then-held-wanted
returns-then-held-wanted c =
    let a = c.args in
    let e : leb 268 a.room ≡ fits_by a.place.held c.want-wanted.result a.room = search tests in
    e ∙ fits-by a.place a.room c.want-wanted.ensures

pub returns : goal.returns
returns c =
    let a = c.args in
    let e : false ≡ fits_by a.place.held c.want-wanted.result a.room = search tests in
    e ∙ fits-by a.place a.room c.want-wanted.ensures
