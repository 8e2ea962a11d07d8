use Rattle.std.proofs.Common.{◌≤◌}
use Rattle.client_run.proofs.Texts.{Writing}
use Rattle.client_run.proofs.run.write_texts.Given as goal

abbrev pub invariant-loop-text : goal.invariant-loop-text
invariant-loop-text g l = record {
  part : Writing l.texts l.text-index (g.K.Sink.held l.fn.out) (g.K.Sink.held l.out);
  later : g.K.Sink.faults l.fn.out ≤ g.K.Sink.faults l.out;
}
