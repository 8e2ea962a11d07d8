use Rattle.std.proofs.Common.{map, arith}
use Rattle.trace_check.specs.Pipes.{state_of}
use Rattle.trace_check.proofs.Boarding.{board_goes_on, first_wrong_at, none_left, counts_at}
use Rattle.trace_check.proofs.table.first_wrong_event.Goals as goal

pub returns-in-Some : goal.returns-in-Some
returns-in-Some g c =
    let v = c.deref.ensures.value in let j = c.judge.ensures in let i = c.in-Some.is in
    first_wrong_at (map state_of c.loop-place.pipes.items) c.loop-place.shut c.args.events.now c.loop-place.place c.index-events-place.result c.in-Some.reason (omega arith) c.index-events-place.is (cc) c.loop-place.invariant

pub advance-requires : goal.advance-requires
advance-requires g c = counts_at (map state_of c.loop-place.pipes.items) c.loop-place.shut c.args.events.now c.loop-place.place (omega arith) (omega arith) c.loop-place.invariant

pub loop-place-preserved : goal.loop-place-preserved
loop-place-preserved g c =
    let n = none_left c.judge.result c.in_default.not-Some in let v = c.deref.ensures.value in let j = c.judge.ensures in
    board_goes_on (map state_of c.loop-place.pipes.items) c.loop-place.shut c.args.events.now c.loop-place.place c.index-events-place.result _ _ (omega arith) c.index-events-place.is (cc) c.in_ok-advance.ensures c.is_shut_by-shut.ensures c.loop-place.invariant
