use Rattle.std.proofs.Common.{take}
use Rattle.alg_names.specs.Reader.{run, start}
use Rattle.alg_names.specs.Scan.{Shows}
use Rattle.alg_names.proofs.grammar.levels_of.Given as goal

abbrev pub invariant-loop-i : goal.invariant-loop-i
invariant-loop-i l = Shows (run start (take l.i l.text)) l.scan
