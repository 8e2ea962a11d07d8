use Rattle.std.proofs.Common.{arith, ◌≡◌, true, sym, subst}
use Rattle.std.specs.Prelude.{OnOk, slice_set}
use Rattle.board.specs.declared.run_queues.CallerQueue.{CallerQueue}
use Rattle.board.specs.RunQueue.{Keeps, IsMember, IsQueued}
use Rattle.board.specs.RunQueues.{CallerQueues}
use Rattle.board.proofs.CallersQueues.{first_written, queue_written, queue_given, set_made}
use Rattle.board.proofs.RunQueuesHold.{same_keeps, none_keeps}
use Rattle.board.proofs.run_queues.RunQueues.join.Goals as goal

pub returns-then-place-len-clause-kept : goal.returns-then-place-len-clause-kept
returns-then-place-len-clause-kept c =
    let own : CallerQueues = record { first = c.self.inside.first.items; others = c.self.inside.others.entries } in
    let d = c.index_mut.result.now in
    let new : CallerQueue = record d { queue = c.admit.new.self } in
    let after : CallerQueues = record own { first = slice_set own.first c.args.caller new } in
    let set = first_written own c.args.caller d new (omega (arith, c.if-place-len.true, c.len.ensures, c.self.inside.first.ok.0)) c.index_mut.ensures.value in
    rw (← c.self.view_is) (same_keeps c.self.inside.queues, set_made (λ n. Keeps) own after c.args.caller d.queue new.queue set (λ n d queue. same_keeps queue) c.admit.ensures.kept)

pub returns-then-place-len-clause-joined : goal.returns-then-place-len-clause-joined
returns-then-place-len-clause-joined c =
    let own : CallerQueues = record { first = c.self.inside.first.items; others = c.self.inside.others.entries } in
    let d = c.index_mut.result.now in
    let new : CallerQueue = record d { queue = c.admit.new.self } in
    let after : CallerQueues = record own { first = slice_set own.first c.args.caller new } in
    let set = first_written own c.args.caller d new (omega (arith, c.if-place-len.true, c.len.ensures, c.self.inside.first.ok.0)) c.index_mut.ensures.value in
    subst (λ queue. OnOk c.admit.result (IsMember queue c.args.pipe)) (sym set.there) c.admit.ensures.joined

pub returns-then-place-len-clause-queued : goal.returns-then-place-len-clause-queued
returns-then-place-len-clause-queued c =
    let own : CallerQueues = record { first = c.self.inside.first.items; others = c.self.inside.others.entries } in
    let d = c.index_mut.result.now in
    let new : CallerQueue = record d { queue = c.admit.new.self } in
    let after : CallerQueues = record own { first = slice_set own.first c.args.caller new } in
    let set = first_written own c.args.caller d new (omega (arith, c.if-place-len.true, c.len.ensures, c.self.inside.first.ok.0)) c.index_mut.ensures.value in
    subst (λ queue. OnOk c.admit.result (c.args.has_job ≡ true → IsQueued queue c.args.pipe)) (sym set.there) c.admit.ensures.queued

pub returns-in-Some-clause-kept : goal.returns-in-Some-clause-kept
returns-in-Some-clause-kept c =
    let first = c.self.inside.first.items in
    let own = c.self.inside.others in
    let new : CallerQueue = record c.in-Some.own.now { queue = c.admit-in-Some.new.self } in
    let next = c.get_mut.follows.lender new in
    let run_queues : CallerQueues = record { first = first; others = own.entries } in
    let after : CallerQueues = record { first = first; others = next.entries } in
    let set = queue_written first own next c.args.caller (omega (arith, c.if-place-len.false, c.len.ensures, c.self.inside.first.ok.0)) c.in-Some.own.now new (sym c.in-Some.ensures.value) (c.get_mut.follows.holds new) in
    rw (← c.self.view_is) (same_keeps c.self.inside.queues, set_made (λ n. Keeps) run_queues after c.args.caller c.in-Some.own.now.queue new.queue set (λ n d queue. same_keeps queue) c.admit-in-Some.ensures.kept)

pub returns-in-Some-clause-joined : goal.returns-in-Some-clause-joined
returns-in-Some-clause-joined c =
    let first = c.self.inside.first.items in
    let own = c.self.inside.others in
    let new : CallerQueue = record c.in-Some.own.now { queue = c.admit-in-Some.new.self } in
    let next = c.get_mut.follows.lender new in
    let run_queues : CallerQueues = record { first = first; others = own.entries } in
    let after : CallerQueues = record { first = first; others = next.entries } in
    let set = queue_written first own next c.args.caller (omega (arith, c.if-place-len.false, c.len.ensures, c.self.inside.first.ok.0)) c.in-Some.own.now new (sym c.in-Some.ensures.value) (c.get_mut.follows.holds new) in
    subst (λ queue. OnOk c.admit-in-Some.result (IsMember queue c.args.pipe)) (sym set.there) c.admit-in-Some.ensures.joined

pub returns-in-Some-clause-queued : goal.returns-in-Some-clause-queued
returns-in-Some-clause-queued c =
    let first = c.self.inside.first.items in
    let own = c.self.inside.others in
    let new : CallerQueue = record c.in-Some.own.now { queue = c.admit-in-Some.new.self } in
    let next = c.get_mut.follows.lender new in
    let run_queues : CallerQueues = record { first = first; others = own.entries } in
    let after : CallerQueues = record { first = first; others = next.entries } in
    let set = queue_written first own next c.args.caller (omega (arith, c.if-place-len.false, c.len.ensures, c.self.inside.first.ok.0)) c.in-Some.own.now new (sym c.in-Some.ensures.value) (c.get_mut.follows.holds new) in
    subst (λ queue. OnOk c.admit-in-Some.result (c.args.has_job ≡ true → IsQueued queue c.args.pipe)) (sym set.there) c.admit-in-Some.ensures.queued

pub returns-clause-kept : goal.returns-clause-kept
returns-clause-kept c =
    let first = c.self.inside.first.items in
    let own = c.self.inside.others in
    let new : CallerQueue = record c.new-own.result { queue = c.admit-2.new.self } in
    let next = c.insert.new.self in
    let run_queues : CallerQueues = record { first = first; others = own.entries } in
    let after : CallerQueues = record { first = first; others = next.entries } in
    let set = queue_given first own next c.args.caller (omega (arith, c.if-place-len.false, c.len.ensures, c.self.inside.first.ok.0)) c.get_mut.follows.lender-at-none c.get_mut.follows.holds-at-none new (sym c.in_default.ensures.value) c.in_ok-insert.ensures.updates in
    rw (← c.self.view_is) (same_keeps c.self.inside.queues, set_made (λ n. Keeps) run_queues after c.args.caller _ new.queue set (λ n d queue. same_keeps queue) (none_keeps new.queue))

pub returns-clause-joined : goal.returns-clause-joined
returns-clause-joined c =
    let first = c.self.inside.first.items in
    let own = c.self.inside.others in
    let new : CallerQueue = record c.new-own.result { queue = c.admit-2.new.self } in
    let next = c.insert.new.self in
    let run_queues : CallerQueues = record { first = first; others = own.entries } in
    let after : CallerQueues = record { first = first; others = next.entries } in
    let set = queue_given first own next c.args.caller (omega (arith, c.if-place-len.false, c.len.ensures, c.self.inside.first.ok.0)) c.get_mut.follows.lender-at-none c.get_mut.follows.holds-at-none new (sym c.in_default.ensures.value) c.in_ok-insert.ensures.updates in
    subst (λ queue. IsMember queue c.args.pipe) (sym set.there) c.in_ok-admit.ensures.joined

pub returns-clause-queued : goal.returns-clause-queued
returns-clause-queued c =
    let first = c.self.inside.first.items in
    let own = c.self.inside.others in
    let new : CallerQueue = record c.new-own.result { queue = c.admit-2.new.self } in
    let next = c.insert.new.self in
    let run_queues : CallerQueues = record { first = first; others = own.entries } in
    let after : CallerQueues = record { first = first; others = next.entries } in
    let set = queue_given first own next c.args.caller (omega (arith, c.if-place-len.false, c.len.ensures, c.self.inside.first.ok.0)) c.get_mut.follows.lender-at-none c.get_mut.follows.holds-at-none new (sym c.in_default.ensures.value) c.in_ok-insert.ensures.updates in
    subst (λ queue. c.args.has_job ≡ true → IsQueued queue c.args.pipe) (sym set.there) c.in_ok-admit.ensures.queued
