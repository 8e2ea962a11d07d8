use Rattle.std.proofs.Common.{subst}
use Rattle.turn_lock.specs.Passes.{knows}
use Rattle.alg_registry.proofs.OwnCalls.{last_any}
use Rattle.shared_registry.specs.Own.{open_of}
use Rattle.shared_registry.specs.Within.{BeginsText}
use Rattle.shared_registry.proofs.Working.{within_works, works_still}
use Rattle.shared_registry.proofs.Claiming.{end_comes, end_closes, end_wants}
use Rattle.shared_registry.proofs.Outcomes.{larvals_named, is_named, same_tree}
use Rattle.shared_registry.proofs.builds.build_text.Goals as goal

pub build_claimed-requires-clause-begins : goal.build_claimed-requires-clause-begins
build_claimed-requires-clause-begins g c = subst (λ text. BeginsText c.args.larval text (knows c.args.pass)) (c.one_name.ensures.spelling c.args.text.now c.in-Ok.name c.in-Ok.ensures.name.0) c.requires.begins

pub build_claimed-requires-clause-ready : goal.build_claimed-requires-clause-ready
build_claimed-requires-clause-ready g c =
    let k = knows c.args.pass in
    let nested = same_tree c.args.text.now c.in-Ok.name (is_named c.args.text.now (larvals_named k.seen c.args.larval c.args.text.now c.requires.begins.sound.faithful.made c.requires.begins.begun))
    (c.computed_tree.ensures.named c.args.text.now c.in-Ok.name c.in-Ok.ensures.name.0) in
    record { lock = c.requires.lock; known = c.learn_name.ensures; nested = nested }

pub finish-requires-clause-open : goal.finish-requires-clause-open
finish-requires-clause-open g c = last_any (open_of (knows c.args.pass)) c.args.larval c.requires.begins.last

pub returns-in-Err-clause-closes : goal.returns-in-Err-clause-closes
returns-in-Err-clause-closes g c =
    let k = knows c.args.pass in
    end_closes k (knows c.finish.result.0) c.args.larval c.finish.result.1 c.finish.ensures.ended k (within_works c.args.larval k k (works_still k))

pub returns-in-Err-clause-ends : goal.returns-in-Err-clause-ends
returns-in-Err-clause-ends g c =
    let k = knows c.args.pass in
    end_comes k (knows c.finish.result.0) c.args.larval c.finish.result.1 c.finish.ensures.ended c.registry_laws.ensures (last_any (open_of k) c.args.larval c.requires.begins.last)

pub returns-in-Err-clause-wanting : goal.returns-in-Err-clause-wanting
returns-in-Err-clause-wanting g c =
    let k = knows c.args.pass in
    end_wants k (knows c.finish.result.0) c.args.larval c.finish.result.1 c.finish.ensures.ended c.registry_laws.ensures (last_any (open_of k) c.args.larval c.requires.begins.last)
