use Rattle.alg_names.specs.Name.{spelling}
use Rattle.templates.proofs.Existing.{looks_for_it, grows_of, ended_of}
use Rattle.templates.proofs.resolution.resolve_alone.Goals as goal

pub returns-clause-looked : goal.returns-clause-looked
returns-clause-looked c = looks_for_it c.args.caller (spelling c.args.name.now) c.args.plain c.args.registry.now c.resolve_within-found.new.registry c.resolve_within-found.result c.history.ensures.legal c.resolve_within-found.ensures

pub returns-clause-grows : goal.returns-clause-grows
returns-clause-grows c = grows_of c.args.caller (spelling c.args.name.now) c.args.plain c.args.registry.now c.resolve_within-found.new.registry c.resolve_within-found.result c.resolve_within-found.ensures

pub returns-clause-ended : goal.returns-clause-ended
returns-clause-ended c = ended_of c.args.caller (spelling c.args.name.now) c.args.plain c.args.registry.now c.resolve_within-found.new.registry c.resolve_within-found.result c.resolve_within-found.ensures
