-- What a builder has: a pass of the registry, and a name that can be built.
use Rattle.std.specs.Prelude.{◌≡◌, true}
use Rattle.alg_registry.specs.declared.entry.RegEntry.{RegEntry}
use Rattle.alg_names.specs.Name.{Tree}
use Rattle.templates.specs.Nesting.{is_nested_well}
use Rattle.turn_lock.specs.declared.lock.Pass.{Pass}
use Rattle.turn_lock.specs.Passes.{knows}
use Rattle.shared_registry.specs.declared.registry_lock.SharedRegistry.{SharedRegistry}
use Rattle.shared_registry.specs.Learned.{IsLearned}
use Rattle.shared_registry.specs.Passes.{IsPassOn, IsSound}

-- the pass is one of the registry's, and what it knows is sound
pub record IsSoundOn (registry : SharedRegistry) (pass : Pass RegEntry) : Type 0 where
  pub lock : IsPassOn registry pass
  pub sound : IsSound (knows pass)

-- the pass is one of the registry's, and the name is within the limits, with what is known of it and of every history
pub record CanBuild (registry : SharedRegistry) (pass : Pass RegEntry) (name : Tree) : Type 0 where
  pub lock : IsPassOn registry pass
  pub known : IsLearned name
  pub nested : is_nested_well name ≡ true
