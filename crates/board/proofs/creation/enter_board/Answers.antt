use Rattle.std.specs.Prelude.{is_err}
use Rattle.std.proofs.Common.{◌≡◌, true, false, sym}
use Rattle.board.proofs.Kept.{added_here, on_ok, on_err}
use Rattle.board.proofs.RunQueuesHold.{others_on, queues_but_on}
use Rattle.board.proofs.creation.enter_board.Goals as goal

pub returns-then-is_err-clause-ready : goal.returns-then-is_err-clause-ready
returns-then-is_err-clause-ready g c = queues_but_on c.args.pipe c.args.ready.now c.enter_run_queues.new.ready c.leave.new.self c.in_ok-enter_run_queues.ensures.ready c.leave.ensures

pub returns-then-is_err-clause-passing : goal.returns-then-is_err-clause-passing
returns-then-is_err-clause-passing g c =
    others_on c.args.pipe c.args.passing.now c.enter_run_queues.new.passing c.leave-then-is_err.new.self c.in_ok-enter_run_queues.ensures.passing c.leave-then-is_err.ensures.others

pub returns-then-is_err-clause-unchanged : goal.returns-then-is_err-clause-unchanged
returns-then-is_err-clause-unchanged g c =
    let refused : is_err c.insert.result ≡ true = sym c.if-is_err.ensures.value in
    on_err c.insert.result refused c.insert.ensures.err

pub returns-clause-there : goal.returns-clause-there
returns-clause-there g c =
    let made : is_err c.insert.result ≡ false = sym c.if-is_err.ensures.value in
    (added_here c.args.pipes.now c.insert.new.self c.args.pipe c.args.new c.requires c.insert.ensures.was_ordered (on_ok c.insert.result made c.insert.ensures.updates) (on_ok c.insert.result made c.insert.ensures.entries)).there

pub returns-clause-others : goal.returns-clause-others
returns-clause-others g c =
    let made : is_err c.insert.result ≡ false = sym c.if-is_err.ensures.value in
    (added_here c.args.pipes.now c.insert.new.self c.args.pipe c.args.new c.requires c.insert.ensures.was_ordered (on_ok c.insert.result made c.insert.ensures.updates) (on_ok c.insert.result made c.insert.ensures.entries)).others

pub returns-clause-owed : goal.returns-clause-owed
returns-clause-owed g c =
    let made : is_err c.insert.result ≡ false = sym c.if-is_err.ensures.value in
    (added_here c.args.pipes.now c.insert.new.self c.args.pipe c.args.new c.requires c.insert.ensures.was_ordered (on_ok c.insert.result made c.insert.ensures.updates) (on_ok c.insert.result made c.insert.ensures.entries)).owed
