use Rattle.std.proofs.Common.{arith, None, sym, refl}
use Rattle.std.specs.Prelude.{slice_set}
use Rattle.board.specs.declared.run_queues.CallerQueue.{CallerQueue}
use Rattle.board.specs.RunQueues.{QueuesState, CallerQueues}
use Rattle.board.proofs.RunQueuesMade.{own_set, own_none}
use Rattle.board.proofs.CallersQueues.{first_written, queue_written, other_queue}
use Rattle.board.proofs.run_queues.RunQueues.tell_one.Goals as goal

pub returns-then-place-len : goal.returns-then-place-len
returns-then-place-len c =
    let own : CallerQueues = record { first = c.self.inside.first.items; others = c.self.inside.others.entries } in
    let d = c.index_mut.result.now in
    let new : CallerQueue = record d { queue = c.set.new.self } in
    let after : CallerQueues = record own { first = slice_set own.first c.args.caller new } in
    let set = first_written own c.args.caller d new (omega (arith, c.if-place-len.true, c.len.ensures, c.self.inside.first.ok.0)) c.index_mut.ensures.value in
    rw (← c.self.view_is) (own_set c.args.pipe c.args.has_job c.args.caller (record { queues = c.self.inside.queues; own = own }) (record { queues = c.self.inside.queues; own = after }) d.queue new.queue refl set c.set.ensures)

pub returns-in-Some : goal.returns-in-Some
returns-in-Some c =
    let first = c.self.inside.first.items in
    let own = c.self.inside.others in
    let new : CallerQueue = record c.in-Some.own.now { queue = c.set-in-Some.new.self } in
    let next = c.get_mut.follows.lender new in
    let set = queue_written first own next c.args.caller (omega (arith, c.if-place-len.false, c.len.ensures, c.self.inside.first.ok.0)) c.in-Some.own.now new (sym c.in-Some.ensures.value) (c.get_mut.follows.holds new) in
    let run_queues : QueuesState = record { queues = c.self.inside.queues; own = record { first = first; others = own.entries } } in
    let after : QueuesState = record { queues = c.self.inside.queues; own = record { first = first; others = next.entries } } in
    rw (← c.self.view_is) (own_set c.args.pipe c.args.has_job c.args.caller run_queues after c.in-Some.own.now.queue new.queue refl set c.set-in-Some.ensures)

pub returns-in_default : goal.returns-in_default
returns-in_default c =
    let first = c.self.inside.first.items in
    let own = c.self.inside.others.entries in
    let none = other_queue first own c.args.caller None (omega (arith, c.if-place-len.false, c.len.ensures, c.self.inside.first.ok.0)) (sym c.in_default.ensures.value) in
    rw (← c.self.view_is, c.get_mut.follows.holds-at-none) (own_none c.args.pipe c.args.has_job c.args.caller (record { queues = c.self.inside.queues; own = record { first = first; others = own } }) none)
