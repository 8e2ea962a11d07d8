use Rattle.padata_core.specs.Pad.{ready}
use Rattle.board.proofs.Callbacks.{length-done}
use Rattle.board.proofs.stage.Stage.uncollected.Goals as goal

pub returns-in-Pad : goal.returns-in-Pad
returns-in-Pad g c = rw (c.in-Pad.is, length-done c.in-Pad.pad.collected (ready c.in-Pad.pad.outcomes)) c.finished.ensures.enough
