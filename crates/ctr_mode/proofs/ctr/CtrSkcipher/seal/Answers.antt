use Rattle.std.proofs.Common.{ap, ◌∙◌, Some}
use Rattle.std_defs.specs.Blocks.{block_number}
use Rattle.ctr_mode.proofs.WholeText.{ctr_text}
use Rattle.ctr_mode.proofs.ctr.CtrSkcipher.seal.Goals as goal

pub returns : goal.returns
returns g c =
    rw (← c.self.view_is)
    (ap Some (ctr_text (g.C.BlockCipher.sealed c.self.inside.cipher) c.from_block.result.next c.args.iv.now c.args.b.now c.apply_key_stream.new.text
    (c.from_block.ensures ∙ ap block_number c.copy_from_slice.ensures.after) c.apply_key_stream.ensures))
