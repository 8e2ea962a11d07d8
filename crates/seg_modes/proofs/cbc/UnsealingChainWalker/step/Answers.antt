use Rattle.seg_modes.proofs.Steps.{unsealed_step}
use Rattle.seg_modes.proofs.cbc.UnsealingChainWalker.step.Goals as goal

pub returns : goal.returns
returns g c =
    rw (← c.self.view_is)
    (unsealed_step g.C.BlockCipher.unsealed c.self.inside.mode.now c.self.inside.before c.args.piece.now c.unseal.new.b c.last_block-next.result c.unseal.result c.unseal.ensures c.last_block-next.ensures)
