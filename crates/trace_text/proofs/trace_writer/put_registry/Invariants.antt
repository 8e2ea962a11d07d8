use Rattle.std.proofs.Common.{◌≡◌, ◌++◌, true, take}
use Rattle.std.specs.List.{flat_map, list_all}
use Rattle.trace_text.specs.Text.{sentence, reg_words}
use Rattle.trace_text.specs.Trace.{fits}
use Rattle.trace_text.proofs.trace_writer.put_registry.Given as goal

abbrev pub invariant-loop-event : goal.invariant-loop-event
invariant-loop-event l =
    (l.text ≡ l.fn.text ++ flat_map (λ e. sentence (reg_words e)) (take l.event-index l.events))
    × (list_all fits (take l.event-index l.events) ≡ true)
