use borrow.Author.Tests.{le-leb, lt-leb}
use Rattle.further_lines.specs.Further.{further_line_lem}
use Rattle.further_lines.proofs.further_line.Goals as goal

pub returns-then-request-le-SCCP_COMPACT : goal.returns-then-request-le-SCCP_COMPACT
unfolding further_line_lem
returns-then-request-le-SCCP_COMPACT c = rw (le-leb _ _ c.if-request-le-SCCP_COMPACT.true) c.sccp_line.ensures

pub returns-then-request-le-SCCP_LIST : goal.returns-then-request-le-SCCP_LIST
unfolding further_line_lem
returns-then-request-le-SCCP_LIST c = rw (lt-leb _ _ c.if-request-le-SCCP_COMPACT.false, le-leb _ _ c.if-request-le-SCCP_LIST.true) c.list_line.ensures

pub returns : goal.returns
unfolding further_line_lem
returns c = rw (lt-leb _ _ c.if-request-le-SCCP_COMPACT.false, lt-leb _ _ c.if-request-le-SCCP_LIST.false) c.put_text.ensures
