use Rattle.std.proofs.Common.{◌≡◌, ◌++◌, List, take}
use Rattle.reply_text.specs.declared.answers.Answer.{Answer}
use Rattle.script_session.specs.Probe.{SettlesThen}
use Rattle.script_session.proofs.probe_command.settle_all.Given as goal

abbrev pub invariant-loop-search : goal.invariant-loop-search
invariant-loop-search g l =
    (said : List Answer) × (l.answers.items ≡ l.fn.answers.items ++ said) × SettlesThen l.fn.caller l.caller l.fn.line (take l.search-index l.fn.searches) said
