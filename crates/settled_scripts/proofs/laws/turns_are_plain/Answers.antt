use Rattle.settled_scripts.proofs.Printing.{turns_are_plain}
use Rattle.settled_scripts.proofs.laws.turns_are_plain.Goals as goal

pub returns : goal.returns
returns c = turns_are_plain c.answers_are_plain.ensures c.replies_are_plain.ensures c.calls_at_once.ensures.one
