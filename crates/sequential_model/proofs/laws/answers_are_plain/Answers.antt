use Rattle.sequential_model.proofs.Answering.{answers_are_plain as plain}
use Rattle.sequential_model.proofs.Naming.{NameLaws, table_lighter}
use Rattle.sequential_model.proofs.laws.answers_are_plain.Goals as goal

pub returns : goal.returns
returns c =
    let laws : NameLaws = record {
      read = c.computed_tree.ensures.named;
      named = c.computed_tree.ensures.computed;
      arguments = c.named_arguments.ensures;
      less = c.names_in_the_table.ensures.less;
    } in
    plain (table_lighter laws)
