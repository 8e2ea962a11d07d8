use Rattle.std.proofs.Common.{◌*◌}
use Rattle.xts_mode.proofs.Units.{Made}
use Rattle.xts_mode.proofs.blocks.turn_blocks.Given as goal

abbrev pub invariant-loop-i : goal.invariant-loop-i
invariant-loop-i g l = Made (g.D.Direction.turned l.direction) l.fn.tweak l.fn.text l.text l.tweak (8 * l.i)
