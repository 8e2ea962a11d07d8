use Rattle.alg_registry.proofs.Histories.{origin_more}
use Rattle.dialogues.proofs.RegistryGrowing.{found_in-stays, reg_calls-append, reg_calls_from-append, none-asked}
use Rattle.dialogues.proofs.laws.registry_calls_go_on.Goals as goal

pub returns : goal.returns
returns c = record { registered = origin_more; found = found_in-stays; goes_on = reg_calls-append; joins = reg_calls_from-append; unasked = none-asked }
