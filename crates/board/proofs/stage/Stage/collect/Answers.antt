use Rattle.std.proofs.Common.{subst, length, ◌≤◌}
use Rattle.padata_core.specs.Pad.{ready}
use Rattle.board.specs.Stages.{callbacks_of}
use Rattle.board.proofs.Callbacks.{length-done}
use Rattle.board.proofs.stage.Stage.collect.Goals as goal

pub collect-requires : goal.collect-requires
collect-requires g c =
    subst (λ n. n ≤ c.args.into.now.spare) (length-done c.in-Pad.pad.collected (ready c.in-Pad.pad.outcomes)) (subst (λ s. length (callbacks_of s) ≤ c.args.into.now.spare) c.in-Pad.is c.requires)
