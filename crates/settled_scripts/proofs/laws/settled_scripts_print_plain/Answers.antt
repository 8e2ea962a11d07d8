use Rattle.settled_scripts.proofs.Printing.{prints_plain}
use Rattle.settled_scripts.proofs.laws.settled_scripts_print_plain.Goals as goal

pub returns : goal.returns
returns c = prints_plain c.answers_are_plain.ensures c.replies_are_plain.ensures c.calls_at_once.ensures.one
