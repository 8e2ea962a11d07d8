use Rattle.templates.proofs.PlannedHistories.{Grammar}
use Rattle.progress_laws.proofs.Builders.{no_ring}
use Rattle.progress_laws.proofs.laws.larvals_wait_in_no_ring.Goals as goal

pub returns : goal.returns
returns c h =
    let g : Grammar = record { read = c.computed_tree.ensures.named; named = c.computed_tree.ensures.computed; arguments = c.named_arguments.ensures } in no_ring g h
