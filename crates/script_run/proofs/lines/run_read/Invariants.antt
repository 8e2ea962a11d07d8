use Rattle.std.proofs.Common.{◌≤◌, ◌-◌, ◌^◌}
use Rattle.script_run.proofs.Exits.{Running}
use Rattle.script_run.proofs.lines.run_read.Given as goal

abbrev pub invariant-loop-line : goal.invariant-loop-line
invariant-loop-line g l =
    let held = g.K.Sink.held in
    let left = g.S.Source.left in
    record {
      at : Running l.registry l.board l.fn.session l.number l.reader (left l.fn.src) (left l.src) (held l.fn.out) (held l.out) l.malformed l.session;
      read_later : g.S.Source.faults l.fn.src ≤ g.S.Source.faults l.src;
      written_later : g.K.Sink.faults l.fn.out ≤ g.K.Sink.faults l.out;
    }

abbrev pub decreases-loop-line : goal.decreases-loop-line
decreases-loop-line g l = 2 ^ 32 - l.number
