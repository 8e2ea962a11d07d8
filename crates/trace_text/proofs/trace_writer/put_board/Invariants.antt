use Rattle.std.proofs.Common.{◌≡◌, ◌++◌, true, take}
use Rattle.std.specs.List.{flat_map, list_all}
use Rattle.trace_text.specs.Text.{sentence, board_words}
use Rattle.trace_text.specs.Trace.{board_fits}
use Rattle.trace_text.proofs.trace_writer.put_board.Given as goal

abbrev pub invariant-loop-event : goal.invariant-loop-event
invariant-loop-event g l =
    (l.text ≡ l.fn.text ++ flat_map (λ e. sentence (board_words g.A.HasScriptLine.origin e)) (take l.event-index l.events))
    × (list_all (board_fits g.A.HasScriptLine.origin) (take l.event-index l.events) ≡ true)
