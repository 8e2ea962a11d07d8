use Rattle.std.proofs.Common.{◌≡◌, drop}
use Rattle.trace_check.specs.EventParser.{number_from}
use Rattle.trace_check.proofs.event_parser.number_in.Given as goal

abbrev pub invariant-loop-digit : goal.invariant-loop-digit
invariant-loop-digit l = number_from l.value (drop l.digit-index l.word) ≡ number_from 0 l.word
