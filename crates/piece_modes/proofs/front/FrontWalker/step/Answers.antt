use Rattle.std.proofs.Common.{refl, arith, length-take}
use Rattle.piece_modes.proofs.Fronts.{some_left, goes_step}
use Rattle.piece_modes.proofs.front.FrontWalker.step.Goals as goal

pub returns : goal.returns
returns g c =
    goes_step g.W.Walker.makes c.args.self.now.walker c.step.new.self c.args.self.now.left c.min-count.result c.args.piece.now c.step.new.piece _
    (some_left c.args.self.now.left c.if-self-eq0.false) c.min-count.ensures
    (omega (arith, c.step.auto.piece, length-take c.min-count.result c.args.piece.now, c.min-count.ensures)) c.step.ensures refl
