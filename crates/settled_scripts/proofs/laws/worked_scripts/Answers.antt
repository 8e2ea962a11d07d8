use Rattle.std.proofs.Common.{refl}
use Rattle.alg_names.specs.Spelled.{tree_of}
use Rattle.templates.specs.Table.{table}
use Rattle.templates.specs.Words.{template_named}
use Rattle.templates.specs.Resolution.{weight}
use Rattle.transforms.specs.RequestValue.{request_value}
use Rattle.settled_scripts.proofs.laws.worked_scripts.Goals as goal

pub returns-clause-sharing : goal.returns-clause-sharing
unfolding table template_named tree_of weight
returns-clause-sharing c = refl

pub returns-clause-unregistering : goal.returns-clause-unregistering
unfolding table template_named tree_of weight
returns-clause-unregistering c = refl

pub returns-clause-held_first : goal.returns-clause-held_first
unfolding table template_named tree_of weight
returns-clause-held_first c = record { lines_settled = refl; timeless = refl }

pub returns-clause-held_first_answers : goal.returns-clause-held_first_answers
unfolding table template_named tree_of weight request_value
returns-clause-held_first_answers c = refl

pub returns-clause-two_at_a_time : goal.returns-clause-two_at_a_time
unfolding table template_named tree_of weight
returns-clause-two_at_a_time c = record { lines_settled = refl; timeless = refl }

pub returns-clause-three_at_once : goal.returns-clause-three_at_once
unfolding table template_named tree_of weight
returns-clause-three_at_once c = λ settled. absurd (let e = settled.timeless in cc)

pub returns-clause-held_late : goal.returns-clause-held_late
unfolding table template_named tree_of weight
returns-clause-held_late c = λ settled. absurd (let e = settled.timeless in cc)

pub returns-clause-polling : goal.returns-clause-polling
unfolding table template_named tree_of weight
returns-clause-polling c = λ settled. absurd (let e = settled.timeless in cc)

pub returns-clause-held_chain : goal.returns-clause-held_chain
unfolding table template_named tree_of weight
returns-clause-held_chain c = record { lines_settled = refl; timeless = refl }

pub returns-clause-held_chain_answers : goal.returns-clause-held_chain_answers
unfolding table template_named tree_of weight request_value
returns-clause-held_chain_answers c = refl

pub returns-clause-backlog_of_chain : goal.returns-clause-backlog_of_chain
unfolding table template_named tree_of weight
returns-clause-backlog_of_chain c = λ settled. absurd (let e = settled.timeless in cc)

pub returns-clause-masked : goal.returns-clause-masked
unfolding table template_named tree_of weight
returns-clause-masked c = record { lines_settled = refl; timeless = refl }

pub returns-clause-masked_answers : goal.returns-clause-masked_answers
unfolding table template_named tree_of weight request_value
returns-clause-masked_answers c = refl

pub returns-clause-masked_to_second : goal.returns-clause-masked_to_second
returns-clause-masked_to_second c = λ settled. absurd (let e = settled.lines_settled in cc)
