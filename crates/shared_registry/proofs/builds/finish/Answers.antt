use Rattle.std.proofs.Common.{sym, subst}
use Rattle.turn_lock.specs.Passes.{knows}
use Rattle.shared_registry.specs.Own.{MayHand}
use Rattle.shared_registry.proofs.Claiming.{hands, has_finished}
use Rattle.shared_registry.proofs.builds.finish.Goals as goal

pub end-pass-requires-clause-handed : goal.end-pass-requires-clause-handed
end-pass-requires-clause-handed g c =
    subst (MayHand (knows c.args.pass) c.args.larval) (sym c.given_of.ensures) (hands (knows c.args.pass) c.args.larval c.args.built c.requires.builds)

pub returns-clause-ended : goal.returns-clause-ended
returns-clause-ended g c =
    has_finished (knows c.args.pass) (knows c.end-pass.result.0) c.args.larval c.given_of.result c.end-pass.result.1 c.came_of.result c.came_of.ensures c.end-pass.ensures.turn
