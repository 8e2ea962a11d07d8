use Rattle.std.proofs.Common.{arith, ◌∙◌, sym, ap, subst, length}
use Rattle.std.specs.Prelude.{slice_set}
use Rattle.std.proofs.lemmas.Bool.{eqb-true}
use Rattle.board.specs.declared.run_queues.CallerQueue.{CallerQueue}
use Rattle.board.specs.RunQueue.{KeepsOthers}
use Rattle.board.specs.RunQueues.{CallerQueues, queue_for}
use Rattle.board.proofs.CallersQueues.{first_written, queue_written, queue_gone, set_made}
use Rattle.board.proofs.RunQueuesHold.{others_on}
use Rattle.board.proofs.RunQueuesMade.{same_but, empty_keeps}
use Rattle.board.proofs.run_queues.RunQueues.leave_own.Goals as goal

pub returns-then-place-len-clause-made : goal.returns-then-place-len-clause-made
returns-then-place-len-clause-made c =
    let own : CallerQueues = record { first = c.self.inside.first.items; others = c.self.inside.others.entries } in
    let d = c.index_mut.result.now in
    let new : CallerQueue = record d { queue = c.leave.new.self } in
    let after : CallerQueues = record own { first = slice_set own.first c.args.caller new } in
    let set = first_written own c.args.caller d new (omega (arith, c.if-place-len.true, c.len.ensures, c.self.inside.first.ok.0)) c.index_mut.ensures.value in
    rw (← c.self.view_is) (set_made (λ n. KeepsOthers c.args.pipe) own after c.args.caller d.queue new.queue set (λ n d queue. same_but c.args.pipe queue) c.leave.ensures.others)

pub returns-then-place-len-clause-others : goal.returns-then-place-len-clause-others
returns-then-place-len-clause-others c =
    let own : CallerQueues = record { first = c.self.inside.first.items; others = c.self.inside.others.entries } in
    let d = c.index_mut.result.now in
    let new : CallerQueue = record d { queue = c.leave.new.self } in
    let after : CallerQueues = record own { first = slice_set own.first c.args.caller new } in
    let set = first_written own c.args.caller d new (omega (arith, c.if-place-len.true, c.len.ensures, c.self.inside.first.ok.0)) c.index_mut.ensures.value in
    rw (← c.self.view_is) set.others

pub returns-then-is_empty-clause-made : goal.returns-then-is_empty-clause-made
returns-then-is_empty-clause-made c =
    let first = c.self.inside.first.items in
    let own = c.self.inside.others in
    let new : CallerQueue = record c.in-Some.own.now { queue = c.leave-2.new.self } in
    let next = c.get_mut.follows.lender new in
    let run_queues : CallerQueues = record { first = first; others = own.entries } in
    let after : CallerQueues = record { first = first; others = next.entries } in
    let set = queue_written first own next c.args.caller (omega (arith, c.if-place-len.false, c.len.ensures, c.self.inside.first.ok.0)) c.in-Some.own.now new (sym c.in-Some.ensures.value) (c.get_mut.follows.holds new) in
    let last : CallerQueues = record { first = first; others = c.remove.new.self.entries } in
    let gone = queue_gone first next c.remove.new.self c.args.caller (omega (arith, c.if-place-len.false, c.len.ensures, c.self.inside.first.ok.0)) c.remove.ensures.updates in
    let to = set_made (λ n. KeepsOthers c.args.pipe) run_queues after c.args.caller c.in-Some.own.now.queue new.queue set (λ n d queue. same_but c.args.pipe queue) c.leave-2.ensures.others in
    let none = eqb-true (length new.queue.members) 0 (sym c.is_empty.ensures ∙ c.if-is_empty.true) in
    let kept = empty_keeps c.args.pipe (queue_for c.args.caller after) (queue_for c.args.caller last) (ap (λ l. length l.members) set.there ∙ none) in
    let from = set_made (λ n. KeepsOthers c.args.pipe) after last c.args.caller _ _ gone (λ n d queue. same_but c.args.pipe queue) (subst (λ l. KeepsOthers c.args.pipe (queue_for c.args.caller after) l) gone.there kept) in
    rw (← c.self.view_is) (λ n. others_on c.args.pipe (queue_for n run_queues) (queue_for n after) (queue_for n last) (to n) (from n))

pub returns-then-is_empty-clause-others : goal.returns-then-is_empty-clause-others
returns-then-is_empty-clause-others c =
    let first = c.self.inside.first.items in
    let own = c.self.inside.others in
    let new : CallerQueue = record c.in-Some.own.now { queue = c.leave-2.new.self } in
    let next = c.get_mut.follows.lender new in
    let run_queues : CallerQueues = record { first = first; others = own.entries } in
    let after : CallerQueues = record { first = first; others = next.entries } in
    let set = queue_written first own next c.args.caller (omega (arith, c.if-place-len.false, c.len.ensures, c.self.inside.first.ok.0)) c.in-Some.own.now new (sym c.in-Some.ensures.value) (c.get_mut.follows.holds new) in
    let last : CallerQueues = record { first = first; others = c.remove.new.self.entries } in
    let gone = queue_gone first next c.remove.new.self c.args.caller (omega (arith, c.if-place-len.false, c.len.ensures, c.self.inside.first.ok.0)) c.remove.ensures.updates in
    rw (← c.self.view_is) (λ n d. gone.others n d ∙ set.others n d)

pub returns-else-is_empty-clause-made : goal.returns-else-is_empty-clause-made
returns-else-is_empty-clause-made c =
    let first = c.self.inside.first.items in
    let own = c.self.inside.others in
    let new : CallerQueue = record c.in-Some.own.now { queue = c.leave-2.new.self } in
    let next = c.get_mut.follows.lender new in
    let run_queues : CallerQueues = record { first = first; others = own.entries } in
    let after : CallerQueues = record { first = first; others = next.entries } in
    let set = queue_written first own next c.args.caller (omega (arith, c.if-place-len.false, c.len.ensures, c.self.inside.first.ok.0)) c.in-Some.own.now new (sym c.in-Some.ensures.value) (c.get_mut.follows.holds new) in
    rw (← c.self.view_is) (set_made (λ n. KeepsOthers c.args.pipe) run_queues after c.args.caller c.in-Some.own.now.queue new.queue set (λ n d queue. same_but c.args.pipe queue) c.leave-2.ensures.others)

pub returns-else-is_empty-clause-others : goal.returns-else-is_empty-clause-others
returns-else-is_empty-clause-others c =
    let first = c.self.inside.first.items in
    let own = c.self.inside.others in
    let new : CallerQueue = record c.in-Some.own.now { queue = c.leave-2.new.self } in
    let next = c.get_mut.follows.lender new in
    let run_queues : CallerQueues = record { first = first; others = own.entries } in
    let after : CallerQueues = record { first = first; others = next.entries } in
    let set = queue_written first own next c.args.caller (omega (arith, c.if-place-len.false, c.len.ensures, c.self.inside.first.ok.0)) c.in-Some.own.now new (sym c.in-Some.ensures.value) (c.get_mut.follows.holds new) in
    rw (← c.self.view_is) set.others
