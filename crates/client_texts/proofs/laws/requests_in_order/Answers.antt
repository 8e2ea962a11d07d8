use Rattle.client_texts.proofs.Ordered.{client-in-order, first-in-order}
use Rattle.client_texts.proofs.laws.requests_in_order.Goals as goal

pub returns-clause-client : goal.returns-clause-client
returns-clause-client c = client-in-order

pub returns-clause-first : goal.returns-clause-first
returns-clause-first c = first-in-order
