use Rattle.reorder_window.proofs.InOrder.{polls_in_order, is_bounded, takes_in_order, waits_for_each, one_at_a_time, begins}
use Rattle.reorder_window.proofs.laws.polls_hand_out_in_order.Goals as goal

pub returns-clause-in_order : goal.returns-clause-in_order
returns-clause-in_order g c kind first h = polls_in_order kind first h

pub returns-clause-bounded : goal.returns-clause-bounded
returns-clause-bounded g c kind first h = is_bounded kind first h

pub returns-clause-waits : goal.returns-clause-waits
returns-clause-waits g c kind first h n = waits_for_each kind first h n

pub returns-clause-taken : goal.returns-clause-taken
returns-clause-taken g c kind first h = takes_in_order kind first h

pub returns-clause-begins : goal.returns-clause-begins
returns-clause-begins g c kind first = begins _ kind first

pub returns-clause-one : goal.returns-clause-one
returns-clause-one g c kind first h n = one_at_a_time kind first h n
