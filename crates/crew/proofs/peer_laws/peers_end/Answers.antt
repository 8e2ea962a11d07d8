use Rattle.crew.proofs.Peering.{peers_leave, peers_take_numbers, peers_have_ended, ended_stays, ended_are_alone, first_is_alone, callers_are}
use Rattle.crew.proofs.peer_laws.peers_end.Goals as goal

pub returns-clause-leave : goal.returns-clause-leave
returns-clause-leave g c = peers_leave

pub returns-clause-numbers : goal.returns-clause-numbers
returns-clause-numbers g c = peers_take_numbers

pub returns-clause-ended : goal.returns-clause-ended
returns-clause-ended g c = peers_have_ended

pub returns-clause-stays : goal.returns-clause-stays
returns-clause-stays g c = ended_stays

pub returns-clause-alone : goal.returns-clause-alone
returns-clause-alone g c = ended_are_alone

pub returns-clause-first : goal.returns-clause-first
returns-clause-first g c = first_is_alone

pub returns-clause-callers : goal.returns-clause-callers
returns-clause-callers g c = callers_are
