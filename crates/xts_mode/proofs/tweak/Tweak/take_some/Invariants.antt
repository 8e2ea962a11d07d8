use Rattle.std.proofs.Common.{◌≡◌}
use Rattle.std_defs.specs.Xts.{times_alpha_power}
use Rattle.xts_mode.proofs.Eight.{Filled}
use Rattle.xts_mode.proofs.tweak.Tweak.take_some.Given as goal

abbrev pub invariant-loop-j : goal.invariant-loop-j
invariant-loop-j l = record {
  filled : Filled (times_alpha_power l.fn.self) l.some l.j;
  place : l.self ≡ times_alpha_power l.fn.self l.j;
}
