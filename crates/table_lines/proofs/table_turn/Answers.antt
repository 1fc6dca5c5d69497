use mathlib.Core.List.{[]}
use Rattle.requests.specs.Along.{said_in}
use Rattle.table_lines.proofs.Answered.{own-leaves, helper-leaves, set-leaves, rows-leave}
use Rattle.table_lines.proofs.table_turn.Goals as goal

pub returns-then-request-eq-OWN : goal.returns-then-request-eq-OWN
returns-then-request-eq-OWN c =
    let gs = said_in [] c.args.request.fields in
    own-leaves _ _ _ _ gs _ c.if-request-eq-OWN.true c.spread_asked.ensures

pub returns-then-request-eq-HELPER : goal.returns-then-request-eq-HELPER
returns-then-request-eq-HELPER c =
    let gs = said_in [] c.args.request.fields in
    helper-leaves _ _ _ _ gs _ c.if-request-eq-OWN.false c.if-request-eq-HELPER.true c.spread_asked-then-request-eq-HELPER.ensures

pub returns-then-request-eq-SET : goal.returns-then-request-eq-SET
returns-then-request-eq-SET c =
    let gs = said_in [] c.args.request.fields in
    set-leaves _ _ _ _ gs _ c.if-request-eq-OWN.false c.if-request-eq-HELPER.false c.if-request-eq-SET.true c.spread_asked-end.ensures c.recount_asked.ensures

pub returns : goal.returns
returns c =
    let gs = said_in [] c.args.request.fields in
    rows-leave _ _ _ _ gs _ c.if-request-eq-OWN.false c.if-request-eq-HELPER.false c.if-request-eq-SET.false c.say_rows.ensures
