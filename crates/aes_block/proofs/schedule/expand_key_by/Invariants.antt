use Rattle.aes_block.proofs.Expansion.{Expanded}
use Rattle.aes_block.proofs.schedule.expand_key_by.Given as goal

abbrev pub invariant-loop-i : goal.invariant-loop-i
invariant-loop-i g l = Expanded l.key l.words l.i

abbrev pub invariant-loop-i-2 : goal.invariant-loop-i-2
invariant-loop-i-2 g l = Expanded l.key l.words l.i
