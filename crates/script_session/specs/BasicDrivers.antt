-- The drivers that a script may register, each as an entry.
use Rattle.std.specs.Prelude.{List, [], ◌∷◌, codes}
use Rattle.alg_registry.specs.declared.spec.Spec.{Spec}
use Rattle.alg_registry.specs.declared.spec.Kind.TheVariants.{Cipher, Hash, Ghash}
use Rattle.alg_registry.specs.Rows.{opened}
use Rattle.script_session.specs.declared.drivers.BasicDriver.{BasicDriver}
use Rattle.script_session.specs.declared.drivers.BasicDriver.TheVariants.{AesGeneric, Sha256Generic, GhashGeneric, AesTable, AesLanes, GhashTable}

-- its entry, before it has a priority
abbrev pub entry_of : BasicDriver → Spec
entry_of AesGeneric = opened (codes "aes") (codes "aes-generic") Cipher
entry_of Sha256Generic = opened (codes "sha256") (codes "sha256-generic") Hash
entry_of GhashGeneric = opened (codes "ghash") (codes "ghash-generic") Ghash
entry_of AesTable = opened (codes "aes") (codes "aes-table") Cipher
entry_of AesLanes = opened (codes "aes") (codes "aes-lanes") Cipher
entry_of GhashTable = opened (codes "ghash") (codes "ghash-table") Ghash

abbrev pub basic_drivers : List BasicDriver
basic_drivers = AesGeneric ∷ Sha256Generic ∷ GhashGeneric ∷ AesTable ∷ AesLanes ∷ GhashTable ∷ []
