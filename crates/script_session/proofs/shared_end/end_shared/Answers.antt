use Rattle.std.proofs.Common.{ap, ◌∙◌, ◌++◌}
use Rattle.std.specs.List.{flat_map}
use Rattle.reply_text.specs.Answers.{text_of}
use Rattle.recorded_calls.specs.Passes.{known}
use Rattle.script_session.proofs.Joined.{then-drains, ends-lent, goes-sees, beside-then}
use Rattle.script_session.proofs.Moving.{fails}
use Rattle.script_session.proofs.shared_end.end_shared.Goals as goal

pub returns-in_err-release_shared_all-clause-done : goal.returns-in_err-release_shared_all-clause-done
returns-in_err-release_shared_all-clause-done g c = fails c.from_residual.result _ c.from_residual.ensures.0 c.in_err-release_shared_all.ensures.moved

pub drain_shared_all-requires-clause-freed : goal.drain_shared_all-requires-clause-freed
drain_shared_all-requires-clause-freed g c = then-drains c.args.lives.now (known c.args.caller.now) (known c.release_shared_all.new.caller) c.requires.lent c.in_ok-release_shared_all.ensures.moved

pub returns-in_err-drain_shared_all-clause-done : goal.returns-in_err-drain_shared_all-clause-done
returns-in_err-drain_shared_all-clause-done g c =
    let k = known c.args.caller.now in
    let l = known c.release_shared_all.new.caller in
    let lets = c.in_ok-release_shared_all.ensures.moved in
    fails c.from_residual-in_err-drain_shared_all.result _ c.from_residual-in_err-drain_shared_all.ensures.0
    (beside-then k l (known c.drain_shared_all.new.caller) (goes-sees k l lets.calls lets.goes) c.in_err-drain_shared_all.ensures.moved)

pub returns-in_err-put_all-clause-done : goal.returns-in_err-put_all-clause-done
returns-in_err-put_all-clause-done g c =
    let k = known c.args.caller.now in
    let l = known c.release_shared_all.new.caller in
    let m = known c.drain_shared_all.new.caller in
    let lets = c.in_ok-release_shared_all.ensures.moved in
    let drains = c.in_ok-drain_shared_all.ensures.moved in
    fails c.from_residual-in_err-put_all.result _ c.from_residual-in_err-put_all.ensures.0
    (beside-then k l m (goes-sees k l lets.calls lets.goes) (goes-sees l m drains.calls drains.goes))

pub returns-clause-done : goal.returns-clause-done
returns-clause-done g c =
    let text = c.args.reply.now.text in
    ends-lent c.args.lives.now (known c.args.caller.now) (known c.release_shared_all.new.caller) (known c.drain_shared_all.new.caller) c.new-answers.result.items c.drain_shared_all.new.answers.items text c.put_all.new.reply.text
    c.new-answers.ensures.items c.in_ok-release_shared_all.ensures.moved c.in_ok-drain_shared_all.ensures.moved
    (c.in_ok-put_all.ensures.ok ∙ ap (λ a. text ++ flat_map text_of a) c.as_slice.ensures.value)
