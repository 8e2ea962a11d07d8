use Rattle.std.proofs.Common.{◌≡◌, length, take, drop}
use Rattle.std.specs.List.{AllZip}
use Rattle.perdoaze_pipes.specs.Ops.{RunsOrStays}
use Rattle.perdoaze_pipes.proofs.op_work.run_each.Given as goal

abbrev pub invariant-loop-i : goal.invariant-loop-i
invariant-loop-i l = record {
  kept : l.slot.handle.value ≡ l.fn.slot.handle.value;
  size : length l.ops ≡ length l.fn.ops;
  rest : drop l.i l.ops ≡ drop l.i l.fn.ops;
  came : AllZip (RunsOrStays l.fn.slot.handle.value) (take l.i l.fn.ops) (take l.i l.ops);
}
