-- What the laws of the registry and of the table say, as far as building needs it.
use Rattle.alg_registry.specs.OwnCalls.{AllStays, BuildingIsOwn, OpenIsClaimed, LooksAreOwn, ReferencesAreOwn}
use Rattle.alg_registry.specs.NamedAnswers.{LooksName, EndsName}
use Rattle.alg_names.specs.Name.{Tree}
use Rattle.templates.specs.Names.{IsKnown}
use Rattle.templates.specs.Requirements.{IsTableAt, AsksForLess}

-- of every history
pub record RegistryLaws : Type 0 where
  pub stays : AllStays
  pub building : BuildingIsOwn
  pub claimed : OpenIsClaimed
  pub looks : LooksAreOwn
  pub references : ReferencesAreOwn
  pub named : LooksName
  pub ended : EndsName

-- and of a name
pub record IsLearned (name : Tree) : Type 0 where
  pub known : IsKnown name
  pub table : IsTableAt name
  pub less : AsksForLess name
  pub laws : RegistryLaws
