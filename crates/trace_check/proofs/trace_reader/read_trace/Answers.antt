use Rattle.std.proofs.Common.{Some, arith, subst}
use Rattle.trace_check.specs.Lines.{IsReadAs, IsLineOf}
use Rattle.trace_check.proofs.Bads.{bad_uncut, bad_line, bad_order, some_left, some_boards}
use Rattle.trace_check.proofs.trace_reader.read_trace.Goals as goal

pub returns-in_default : goal.returns-in_default
returns-in_default c =
    bad_uncut c.args.text.now c.loop-rest.registry.items c.loop-rest.board.items c.loop-rest.rest.now c.loop-rest.count c.loop-rest.invariant (some_left c.loop-rest.rest.now c.is_empty.result c.is_empty.ensures c.loop-rest-test.true) c.in_default.ensures

pub returns-then-not-is_empty : goal.returns-then-not-is_empty
returns-then-not-is_empty c =
    let read : IsReadAs c.in-Some.line.now (Some c.in-Some-Registry.field-0) = subst (IsReadAs c.in-Some.line.now) c.in-Some-Registry.is c.in_ok-event.ensures in
    bad_order c.args.text.now c.loop-rest.registry.items c.loop-rest.board.items c.loop-rest.rest.now c.loop-rest.count c.in-Some.line c.in-Some.more c.in-Some-Registry.event c.loop-rest.invariant (some_left c.loop-rest.rest.now c.is_empty.result c.is_empty.ensures c.loop-rest-test.true) c.in-Some.ensures (subst (IsLineOf c.in-Some.line.now) c.in-Some-Registry.field-0-is read) (some_boards c.loop-rest.board.items _ (omega arith) c.if-not-is_empty.ensures)

pub returns-in-None : goal.returns-in-None
returns-in-None c =
    bad_line c.args.text.now c.loop-rest.registry.items c.loop-rest.board.items c.loop-rest.rest.now c.loop-rest.count c.in-Some.line c.in-Some.more c.loop-rest.invariant (some_left c.loop-rest.rest.now c.is_empty.result c.is_empty.ensures c.loop-rest-test.true) c.in-Some.ensures (subst (IsReadAs c.in-Some.line.now) c.in-None.is c.in_ok-event.ensures)
