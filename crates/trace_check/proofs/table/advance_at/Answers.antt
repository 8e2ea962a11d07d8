use Rattle.std.proofs.Common.{arith}
use Rattle.trace_check.proofs.Boards.{pipe_there, pipe_advanced}
use Rattle.trace_check.proofs.table.advance_at.Goals as goal

pub advance-requires : goal.advance-requires
advance-requires g c =
    c.requires c.pipe_of-place.result _ (pipe_there c.args.pipes.now.items c.pipe_of-place.result c.index_mut.result.now (omega arith) c.index_mut.ensures.value)

pub returns-in_ok-advance : goal.returns-in_ok-advance
returns-in_ok-advance g c =
    pipe_advanced c.args.pipes.now.items c.pipe_of-place.result c.index_mut.result.now c.advance.new.self c.args.event.now (omega arith) c.index_mut.ensures.value
    c.pipe_of-place.ensures c.in_ok-advance.ensures
