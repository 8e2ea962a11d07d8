use Rattle.std.proofs.Common.{◌+◌, ◌-◌, ◌*◌, ◌/◌, refl, arith, length}
use Rattle.xts_mode.proofs.Units.{made_none, made_more, made_rest}
use Rattle.xts_mode.proofs.blocks.turn_blocks.Goals as goal

pub loop-i-init : goal.loop-i-init
loop-i-init g c = made_none (g.D.Direction.turned c.args.direction.now) c.args.tweak.now c.args.text.now

pub loop-i-preserved : goal.loop-i-preserved
loop-i-preserved g c =
    made_more (g.D.Direction.turned c.args.direction.now) c.args.tweak.now c.args.text.now c.loop-i.text c.loop-i.tweak (8 * c.loop-i.i) 8 (8 * (c.loop-i.i + 1))
    (128 * c.loop-i.i) (128 * c.loop-i.i + 128 - 128 * c.loop-i.i) c.turn_eight.new.text c.turn_eight.new.tweak c.loop-i.invariant
    (omega arith) (omega arith) (omega arith) (omega arith) c.turn_eight.ensures.text c.turn_eight.ensures.tweak

pub returns-clause-text : goal.returns-clause-text
returns-clause-text g c =
    (made_rest (g.D.Direction.turned c.args.direction.now) c.args.tweak.now c.args.text.now c.loop-i.text c.loop-i.tweak (8 * c.loop-i.i) (128 * (length c.args.text.now / 128))
    (length c.loop-i.text - 128 * (length c.args.text.now / 128)) (length c.args.text.now / 16) c.turn_rest.new.text c.turn_rest.new.tweak c.loop-i.invariant
    (omega arith) c.loop-i.auto.text refl (omega (arith, c.requires)) c.turn_rest.ensures.text c.turn_rest.ensures.tweak).0

pub returns-clause-tweak : goal.returns-clause-tweak
returns-clause-tweak g c =
    (made_rest (g.D.Direction.turned c.args.direction.now) c.args.tweak.now c.args.text.now c.loop-i.text c.loop-i.tweak (8 * c.loop-i.i) (128 * (length c.args.text.now / 128))
    (length c.loop-i.text - 128 * (length c.args.text.now / 128)) (length c.args.text.now / 16) c.turn_rest.new.text c.turn_rest.new.tweak c.loop-i.invariant
    (omega arith) c.loop-i.auto.text refl (omega (arith, c.requires)) c.turn_rest.ensures.text c.turn_rest.ensures.tweak).1
