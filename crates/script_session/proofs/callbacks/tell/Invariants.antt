use Rattle.std.proofs.Common.{◌≡◌, ◌++◌, length, map}
use Rattle.std.specs.Vec.Iter.{into_iter_items, into_iter_len}
use Rattle.script_session.specs.CallbackText.{callback_said}
use Rattle.script_session.proofs.callbacks.tell.Given as goal

abbrev pub invariant-loop-callback : goal.invariant-loop-callback
invariant-loop-callback l = record {
  told : l.answers.items ≡ l.initial.answers.items ++ map (callback_said l.lines) l.yielded;
  yielded : l.yielded ++ into_iter_items l.callback-iterator ≡ into_iter_items l.initial.callback-iterator;
  left : into_iter_len l.callback-iterator ≡ length (into_iter_items l.callback-iterator);
}
