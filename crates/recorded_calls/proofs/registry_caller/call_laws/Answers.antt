use Rattle.recorded_calls.proofs.registry_caller.call_laws.Goals as goal

pub returns : goal.returns
returns c = record {
  are = c.calls_in_turn.ensures.are;
  any = c.calls_at_once.ensures.any;
  goes_on = c.registry_calls_go_on.ensures.goes_on;
  joins = c.registry_calls_go_on.ensures.joins;
  unasked = c.registry_calls_go_on.ensures.unasked;
}
