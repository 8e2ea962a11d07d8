use Rattle.shared_registry.proofs.laws.registry_laws.Goals as goal

pub returns : goal.returns
returns c =
    let own = c.own_calls.ensures in let names = c.names_exist.ensures in
    record { stays = own.stays; building = own.building; claimed = own.claimed; looks = own.looks; references = own.references; named = names.looks; ended = names.ends }
