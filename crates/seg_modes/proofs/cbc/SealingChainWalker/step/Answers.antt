use Rattle.seg_modes.proofs.Steps.{sealed_step}
use Rattle.seg_modes.proofs.cbc.SealingChainWalker.step.Goals as goal

pub returns : goal.returns
returns g c =
    rw (← c.self.view_is)
    (sealed_step g.C.BlockCipher.sealed g.C.BlockCipher.unsealed c.self.inside.mode.now c.self.inside.before c.args.piece.now c.seal.new.b c.last_block-self-inside.result c.seal.result
    (g.met.C.BlockCipher.inverse c.self.inside.mode.now) (c.self.told, c.are_bytes.ensures) c.are_bytes-2.ensures c.seal.auto.b c.seal.ensures c.last_block-self-inside.ensures)
