use Rattle.trace_check.specs.AskLines.{with_lines}
use Rattle.trace_check.proofs.Knowing.{legal_there, legal_back, trace_same, events_same}
use Rattle.std.proofs.Common.{sym}
use Rattle.trace_check.proofs.laws.asks_are_lines.Goals as goal

pub returns-clause-legal : goal.returns-clause-legal
returns-clause-legal g c = λ h. (legal_there g.A.HasScriptLine.origin h, legal_back g.A.HasScriptLine.origin h)

pub returns-clause-traced : goal.returns-clause-traced
returns-clause-traced g c = λ r h k lr lb. (r, with_lines g.A.HasScriptLine.origin h, (events_same g.A.HasScriptLine.origin r h k, sym (trace_same g.A.HasScriptLine.origin r h)), lr, legal_there g.A.HasScriptLine.origin h lb)
