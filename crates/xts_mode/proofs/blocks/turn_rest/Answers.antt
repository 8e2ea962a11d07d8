use Rattle.std.proofs.Common.{◌≡◌, ◌∙◌, ◌/◌, ap, arith, length}
use Rattle.std_defs.specs.Xts.{times_alpha_power, xts_block, xts_blocks}
use Rattle.xts_mode.proofs.Units.{one_block, power_one}
use Rattle.xts_mode.proofs.blocks.turn_rest.Goals as goal

pub returns-then-text-eq16-clause-text : goal.returns-then-text-eq16-clause-text
returns-then-text-eq16-clause-text g c =
    let one : 1 ≡ length c.args.text.now / 16 = omega arith in
    one_block (g.D.Direction.turned c.args.direction.now) c.args.tweak.now c.args.text.now c.turn_block.new.text c.if-text-eq16.true c.turn_block.ensures
    ∙ ap (xts_blocks (xts_block (g.D.Direction.turned c.args.direction.now) c.args.tweak.now) c.args.text.now) one

pub returns-then-text-eq16-clause-tweak : goal.returns-then-text-eq16-clause-tweak
returns-then-text-eq16-clause-tweak g c =
    let one : 1 ≡ length c.args.text.now / 16 = omega arith in
    c.next.ensures ∙ power_one c.args.tweak.now ∙ ap (times_alpha_power c.args.tweak.now) one
