use Rattle.std.proofs.Common.{◌+◌, ap}
use Rattle.std.specs.Prelude.{not}
use Rattle.templates.specs.Resolution.{weight}
use Rattle.templates.proofs.TableLaws.{table-name}
use Rattle.templates.proofs.Existing.{none_above, none_left}
use Rattle.templates.proofs.resolution.resolve_outright.Goals as goal

pub resolve_alone-requires-clause-caller : goal.resolve_alone-requires-clause-caller
resolve_alone-requires-clause-caller c = ap not c.requires.caller

pub resolve_alone-requires-clause-next : goal.resolve_alone-requires-clause-next
resolve_alone-requires-clause-next c = table-name c.args.name.now c.learn_name.ensures c.requires.nested

pub resolve_alone-requires-clause-above : goal.resolve_alone-requires-clause-above
resolve_alone-requires-clause-above c = none_above c.args.registry.now (weight c.args.name.now + 1) c.requires.none

pub returns-clause-none : goal.returns-clause-none
returns-clause-none c = none_left c.args.caller c.args.registry.now c.resolve_alone.new.registry c.resolve_alone.result c.requires.none c.resolve_alone.ensures.grows c.resolve_alone.ensures.ended
