use Rattle.std.proofs.Common.{◌≡◌, ◌∙◌, ◌+◌, ℕ, sym, ap, arith, add-zero}
use Rattle.std_defs.specs.Cmac.{chained, zero_block}
use Rattle.perdoaze_calls.specs.Pieces.{text_in}
use Rattle.perdoaze_calls.proofs.Chained.{chained_more, gathered_block}
use Rattle.perdoaze_calls.proofs.macs.chain_some.Goals as goal

pub loop-i-init : goal.loop-i-init
loop-i-init g c = λ h. h ∙ ap (chained (g.C.BlockCipher.sealed c.args.cipher.now) zero_block (text_in c.args.pieces.now)) (sym (add-zero c.args.from))

pub loop-i-preserved : goal.loop-i-preserved
loop-i-preserved g c = λ h.
    let text = text_in c.args.pieces.now in
    let i : ℕ = c.loop-i.i in
    chained_more (g.C.BlockCipher.sealed c.args.cipher.now) text c.loop-i.chain c.block_at.result c.add_block.new.chain c.seal_block.new.b c.args.from i
    (c.loop-i.invariant h)
    (c.block_at.ensures ∙ gathered_block text c.gather.new.into _ c.args.from c.args.n i (omega arith) c.requires.within c.gather.ensures)
    c.add_block.ensures c.seal_block.ensures

pub returns : goal.returns
returns g c = λ h.
    let all : c.loop-i.i ≡ c.args.n = omega arith in
    c.loop-i.invariant h ∙ ap (λ (k : ℕ). chained (g.C.BlockCipher.sealed c.args.cipher.now) zero_block (text_in c.args.pieces.now) (c.args.from + k)) all
