use Rattle.std.proofs.Common.{◌-◌, ◌^◌}
use Rattle.client_run.proofs.Answering.{Answering}
use Rattle.client_run.proofs.part.answer_part.Given as goal

abbrev pub invariant-loop-line : goal.invariant-loop-line
invariant-loop-line g l = record {
  at : Answering l.registry l.board l.fn.session l.fn.reply.text l.fn.part l.rest l.number l.malformed l.session l.reply.text;
}

abbrev pub decreases-loop-line : goal.decreases-loop-line
decreases-loop-line g l = 2 ^ 32 - l.number
