use Rattle.std.proofs.Common.{ap, ◌∙◌, Ok}
use Rattle.turn_lock.specs.Passes.{knows}
use Rattle.shared_registry.proofs.Origins.{origin_there}
use Rattle.shared_registry.proofs.builds.add_origin.Goals as goal

pub unreachable-requires : goal.unreachable-requires
unreachable-requires g c =
    origin_there (knows c.args.pass) (knows c.origin-pass.result.0) c.args.id c.origin-pass.result.1 c.origin-pass.ensures.turn c.requires.exists (c.in-Ok.is ∙ ap Ok c.in-None.is)
