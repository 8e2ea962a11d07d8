use Rattle.std.proofs.Common.{◌-◌, length}
use Rattle.script_text.proofs.CuttingLemmas.{IsPassed}
use Rattle.script_text.proofs.parts.cut_at_mark.Given as goal

abbrev pub invariant-loop-at : goal.invariant-loop-at
invariant-loop-at l = IsPassed l.bytes l.at

abbrev pub decreases-loop-at : goal.decreases-loop-at
decreases-loop-at l = length l.bytes - l.at
