use Rattle.std.proofs.Common.{◌≡◌, ◌∙◌, ◌+◌, ◌*◌, ◌/◌, ◌%◌, refl, ap, arith}
use Rattle.std_defs.specs.Cmac.{chained, zero_block}
use Rattle.perdoaze_calls.specs.Pieces.{text_in}
use Rattle.perdoaze_calls.proofs.macs.chain_of.Goals as goal

pub loop-i-init : goal.loop-i-init
unfolding chained
loop-i-init g c = refl

pub loop-i-preserved : goal.loop-i-preserved
loop-i-preserved g c =
    let next : 64 * c.loop-i.i + 64 ≡ 64 * (c.loop-i.i + 1) = omega arith in
    c.chain_some.ensures c.loop-i.invariant ∙ ap (chained (g.C.BlockCipher.sealed c.args.cipher.now) zero_block (text_in c.args.pieces.now)) next

pub returns : goal.returns
returns g c =
    let at = chained (g.C.BlockCipher.sealed c.args.cipher.now) zero_block (text_in c.args.pieces.now) in
    let turns : 64 * c.loop-i.i ≡ 64 * (c.args.count / 64) = omega arith in
    let all : 64 * (c.args.count / 64) + c.args.count % 64 ≡ c.args.count = omega arith in
    c.chain_some-2.ensures (c.loop-i.invariant ∙ ap at turns) ∙ ap at all
