use Rattle.std.proofs.Common.{arith, None, sym, subst}
use Rattle.std.specs.Prelude.{slice_set}
use Rattle.board.specs.declared.run_queues.CallerQueue.{CallerQueue}
use Rattle.board.specs.Places.{places}
use Rattle.board.specs.RunQueues.{QueuesState, CallerQueues, AreReady}
use Rattle.board.proofs.CallersQueues.{first_written, queue_written, other_queue}
use Rattle.board.proofs.RunQueuesHold.{queue_searched, run_queues_searched, found_queue, found_queue_first}
use Rattle.board.proofs.run_queues.RunQueues.next_job.Goals as goal

pub returns-then-place-len-clause-ready : goal.returns-then-place-len-clause-ready
returns-then-place-len-clause-ready g c =
    let own : CallerQueues = record { first = c.self.inside.first.items; others = c.self.inside.others.entries } in
    let d = c.index_mut.result.now in
    let new : CallerQueue = c.next_of.new.own in
    let after : CallerQueues = record own { first = slice_set own.first c.args.caller new } in
    let set = first_written own c.args.caller d new (omega (arith, c.if-place-len.true, c.len.ensures, c.self.inside.first.ok.0)) c.index_mut.ensures.value in
    let all : QueuesState = record { queues = c.self.inside.queues; own = own } in
    let r = subst (λ run_queues. AreReady (places c.args.pipes.now) run_queues) (sym c.self.view_is) c.requires.ready in
    run_queues_searched c.args.pipes.now all (record { queues = c.next_of.new.queues; own = after }) c.args.caller d.queue new.queue r set c.next_of.ensures.queues c.next_of.ensures.own

pub returns-then-place-len-clause-next : goal.returns-then-place-len-clause-next
returns-then-place-len-clause-next g c =
    let own : CallerQueues = record { first = c.self.inside.first.items; others = c.self.inside.others.entries } in
    let d = c.index_mut.result.now in
    let new : CallerQueue = c.next_of.new.own in
    let after : CallerQueues = record own { first = slice_set own.first c.args.caller new } in
    let set = first_written own c.args.caller d new (omega (arith, c.if-place-len.true, c.len.ensures, c.self.inside.first.ok.0)) c.index_mut.ensures.value in
    let all : QueuesState = record { queues = c.self.inside.queues; own = own } in
    let r = subst (λ run_queues. AreReady (places c.args.pipes.now) run_queues) (sym c.self.view_is) c.requires.ready in
    found_queue_first c.args.pipes.now all c.args.caller d.queue c.next_of.result r set.here c.next_of.ensures.next

pub returns-in-Some-clause-ready : goal.returns-in-Some-clause-ready
returns-in-Some-clause-ready g c =
    let first = c.self.inside.first.items in
    let own = c.self.inside.others in
    let new : CallerQueue = c.next_of-in-Some.new.own in
    let next = c.get_mut.follows.lender new in
    let run_queues : CallerQueues = record { first = first; others = own.entries } in
    let after : CallerQueues = record { first = first; others = next.entries } in
    let set = queue_written first own next c.args.caller (omega (arith, c.if-place-len.false, c.len.ensures, c.self.inside.first.ok.0)) c.in-Some.own.now new (sym c.in-Some.ensures.value) (c.get_mut.follows.holds new) in
    let all : QueuesState = record { queues = c.self.inside.queues; own = run_queues } in
    let r = subst (λ run_queues. AreReady (places c.args.pipes.now) run_queues) (sym c.self.view_is) c.requires.ready in
    run_queues_searched c.args.pipes.now all (record { queues = c.next_of-in-Some.new.queues; own = after }) c.args.caller c.in-Some.own.now.queue new.queue r set c.next_of-in-Some.ensures.queues c.next_of-in-Some.ensures.own

pub returns-in-Some-clause-next : goal.returns-in-Some-clause-next
returns-in-Some-clause-next g c =
    let first = c.self.inside.first.items in
    let own = c.self.inside.others in
    let new : CallerQueue = c.next_of-in-Some.new.own in
    let next = c.get_mut.follows.lender new in
    let run_queues : CallerQueues = record { first = first; others = own.entries } in
    let after : CallerQueues = record { first = first; others = next.entries } in
    let set = queue_written first own next c.args.caller (omega (arith, c.if-place-len.false, c.len.ensures, c.self.inside.first.ok.0)) c.in-Some.own.now new (sym c.in-Some.ensures.value) (c.get_mut.follows.holds new) in
    let all : QueuesState = record { queues = c.self.inside.queues; own = run_queues } in
    let r = subst (λ run_queues. AreReady (places c.args.pipes.now) run_queues) (sym c.self.view_is) c.requires.ready in
    found_queue_first c.args.pipes.now all c.args.caller c.in-Some.own.now.queue c.next_of-in-Some.result r set.here c.next_of-in-Some.ensures.next

pub returns-in-None-clause-ready : goal.returns-in-None-clause-ready
returns-in-None-clause-ready g c =
    let first = c.self.inside.first.items in
    let own = c.self.inside.others.entries in
    let all : QueuesState = record { queues = c.self.inside.queues; own = record { first = first; others = own } } in
    let r = subst (λ run_queues. AreReady (places c.args.pipes.now) run_queues) (sym c.self.view_is) c.requires.ready in
    rw c.get_mut.follows.holds-at-none (queue_searched c.args.pipes.now all c.args.caller c.next_for.new.queue r c.next_for.ensures.kept)

pub returns-in-None-clause-next : goal.returns-in-None-clause-next
returns-in-None-clause-next g c =
    let first = c.self.inside.first.items in
    let own = c.self.inside.others.entries in
    let all : QueuesState = record { queues = c.self.inside.queues; own = record { first = first; others = own } } in
    let r = subst (λ run_queues. AreReady (places c.args.pipes.now) run_queues) (sym c.self.view_is) c.requires.ready in
    found_queue c.args.pipes.now all c.args.caller c.next_for.result r (other_queue first own c.args.caller None (omega (arith, c.if-place-len.false, c.len.ensures, c.self.inside.first.ok.0)) (sym c.in-None.ensures.value)) c.next_for.ensures.next
