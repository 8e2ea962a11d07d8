use Rattle.trace_laws.proofs.ClientEvents.{client_traces_can_be_read}
use Rattle.trace_laws.proofs.laws.client_traces_can_be_read.Goals as goal

pub returns : goal.returns
returns c = client_traces_can_be_read
