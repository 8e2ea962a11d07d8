use Rattle.alg_registry.specs.Trial.{run_legal, after_unlist_legal, asked_by_worker_illegal, claimed_early_illegal, began_again_illegal, claimed_twice_illegal, found_another_illegal, ended_by_another_illegal, built_again_illegal, refused_reference_illegal, found_after_unlist_illegal, run_made, wrong_child_not_made, too_early_not_made}
use Rattle.alg_registry.proofs.laws.legal_histories.Goals as goal

pub returns : goal.returns
returns c = record {
  run = run_legal;
  after_unlist = after_unlist_legal;
  asked_by_worker = asked_by_worker_illegal;
  claimed_early = claimed_early_illegal;
  began_again = began_again_illegal;
  claimed_twice = claimed_twice_illegal;
  found_another = found_another_illegal;
  ended_by_another = ended_by_another_illegal;
  built_again = built_again_illegal;
  refused_reference = refused_reference_illegal;
  found_after_unlist = found_after_unlist_illegal;
  made = run_made;
  wrong_child = wrong_child_not_made;
  too_early = too_early_not_made;
}
