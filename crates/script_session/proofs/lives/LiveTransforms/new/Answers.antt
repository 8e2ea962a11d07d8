use Rattle.std.proofs.Common.{ap}
use Rattle.std.specs.Map.{values_of}
use Rattle.script_session.proofs.Filed.{filed-none}
use Rattle.script_session.proofs.lives.LiveTransforms.new.Goals as goal

pub returns-clause-none : goal.returns-clause-none
returns-clause-none c = ap values_of c.new-2.ensures.empty

pub returns-clause-filed : goal.returns-clause-filed
returns-clause-filed c = filed-none _ c.new-2.ensures.ordered c.new.ensures.empty c.new-2.ensures.empty
