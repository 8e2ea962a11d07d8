use Rattle.trace_laws.proofs.Events.{traces_can_be_read}
use Rattle.trace_laws.proofs.laws.traces_can_be_read.Goals as goal

pub returns : goal.returns
returns c = traces_can_be_read
