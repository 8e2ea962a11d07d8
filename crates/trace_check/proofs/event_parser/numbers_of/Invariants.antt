use Rattle.std.proofs.Common.{◌≡◌, map, take}
use Rattle.trace_check.specs.EventParser.{number_of}
use Rattle.trace_check.proofs.event_parser.numbers_of.Given as goal

abbrev pub invariant-loop-word : goal.invariant-loop-word
invariant-loop-word l = l.ids ≡ map number_of (map (λ word. word.now) (take l.word-index l.words))
