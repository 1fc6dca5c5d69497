use mathlib.Core.Path.{refl, ◌∙◌, ap}
use mathlib.Core.List.{[]}
use Rattle.printing.specs.Sheet.{sheet}
use Rattle.requests.specs.Along.{said_in}
use Rattle.block_lines.specs.Blocks.{Blocked}
use Rattle.busy_lines.specs.Busy.{BusyLeft}
use Rattle.table_lines.specs.Tables.{desk_tables, Turn, left, left_by}
use Rattle.table_lines.proofs.Leaving.{left-same}
use Rattle.turns.proofs.Turned.{turn-codec, turn-numbers, turn-tables, turn-hub, turn-blocks, turn-velocities, turn-bicc, turn-further, table-any, block-any}
use Rattle.turns.proofs.answer_request.Goals as goal

pub returns-then-request-lt-NUMBER : goal.returns-then-request-lt-NUMBER
returns-then-request-lt-NUMBER c =
    let a = c.args in
    left-same refl c.codec_line.ensures ∙ ap (λ (x : Turn). left_by x (sheet a.out.now 0)) (turn-codec (desk_tables a.states.now a.owners.now a.helpers.now a.totals.now) a.request.which (said_in a.octets.now a.request.fields) c.if-request-lt-NUMBER.true)

pub returns-then-request-lt-OWN : goal.returns-then-request-lt-OWN
returns-then-request-lt-OWN c =
    let a = c.args in
    left-same refl c.numbers_line.ensures ∙ ap (λ (x : Turn). left_by x (sheet a.out.now 0)) (turn-numbers (desk_tables a.states.now a.owners.now a.helpers.now a.totals.now) a.request.which (said_in a.octets.now a.request.fields) c.if-request-lt-NUMBER.false c.if-request-lt-OWN.true)

pub returns-then-request-lt-ACT : goal.returns-then-request-lt-ACT
returns-then-request-lt-ACT c =
    let a = c.args in
    let T = desk_tables a.states.now a.owners.now a.helpers.now a.totals.now in
    c.table_turn.ensures
    ∙ ap (λ (x : Turn). left_by x (sheet a.out.now 0)) (table-any T a.request.which [] a.octets.now a.request.fields ∙ turn-tables T a.request.which (said_in a.octets.now a.request.fields) c.if-request-lt-OWN.false c.if-request-lt-ACT.true)

pub returns-then-request-eq-ACT : goal.returns-then-request-eq-ACT
returns-then-request-eq-ACT c =
    let a = c.args in
    c.act_turn.ensures ∙ ap (λ (x : Turn). left_by x (sheet a.out.now 0)) (turn-hub (desk_tables a.states.now a.owners.now a.helpers.now a.totals.now) a.request.which (said_in a.octets.now a.request.fields) c.if-request-eq-ACT.true)

pub returns-then-request-le-UNBLOCK : goal.returns-then-request-le-UNBLOCK
returns-then-request-le-UNBLOCK c =
    let a = c.args in
    let T = desk_tables a.states.now a.owners.now a.helpers.now a.totals.now in
    ap (λ (x : Blocked). left (desk_tables x.states a.owners.now a.helpers.now x.totals) x.sheet) c.block_turn.ensures
    ∙ ap (λ (x : Turn). left_by x (sheet a.out.now 0)) (block-any T a.request.which [] a.octets.now a.request.fields ∙ turn-blocks T a.request.which (said_in a.octets.now a.request.fields) c.if-request-lt-ACT.false c.if-request-eq-ACT.false c.if-request-le-UNBLOCK.true)

pub returns-then-request-le-VELOCITY_BACK_LONG : goal.returns-then-request-le-VELOCITY_BACK_LONG
returns-then-request-le-VELOCITY_BACK_LONG c =
    let a = c.args in
    left-same refl c.velocities_line.ensures ∙ ap (λ (x : Turn). left_by x (sheet a.out.now 0)) (turn-velocities (desk_tables a.states.now a.owners.now a.helpers.now a.totals.now) a.request.which (said_in a.octets.now a.request.fields) c.if-request-eq-ACT.false c.if-request-le-UNBLOCK.false c.if-request-le-VELOCITY_BACK_LONG.true)

pub returns-then-request-le-BICC_COMPACT : goal.returns-then-request-le-BICC_COMPACT
returns-then-request-le-BICC_COMPACT c =
    let a = c.args in
    left-same refl c.bicc_line.ensures ∙ ap (λ (x : Turn). left_by x (sheet a.out.now 0)) (turn-bicc (desk_tables a.states.now a.owners.now a.helpers.now a.totals.now) a.request.which (said_in a.octets.now a.request.fields) c.if-request-eq-ACT.false c.if-request-le-VELOCITY_BACK_LONG.false c.if-request-le-BICC_COMPACT.true)

pub returns : goal.returns
returns c =
    let a = c.args in
    ap (λ (x : BusyLeft). left (desk_tables a.states.now a.owners.now a.helpers.now x.totals) x.sheet) c.further_turn.ensures ∙ ap (λ (x : Turn). left_by x (sheet a.out.now 0)) (turn-further (desk_tables a.states.now a.owners.now a.helpers.now a.totals.now) a.request.which (said_in a.octets.now a.request.fields) c.if-request-eq-ACT.false c.if-request-le-BICC_COMPACT.false)
