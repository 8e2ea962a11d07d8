-- Runs that come of building by the table, and runs that don't.
use Rattle.std.specs.Prelude.{true, false, List, [], ◌∷◌, ◌++◌, codes}
use Rattle.alg_registry.specs.declared.spec.Kind.TheVariants.{Skcipher}
use Rattle.alg_registry.specs.declared.spec.Wrap.TheVariants.{Plain}
use Rattle.alg_registry.specs.declared.spec.Spec.{Spec}
use Rattle.alg_registry.specs.declared.entry.Looked.TheVariants.{Found, Began}
use Rattle.alg_registry.specs.declared.entry.EndAnswer.{EndAnswer}
use Rattle.alg_registry.specs.declared.entry.RegEntry.{RegEntry}
use Rattle.alg_registry.specs.declared.entry.RegEntry.TheVariants.{Look, Claim, End}

abbrev pub cbc_spec : Spec
cbc_spec = record { name = codes "cbc(aes)"; driver = codes "cbc(aes-generic)"; kind = Skcipher; wrap = Plain; priority = 100; below = 0 ∷ [] }

abbrev pub ctr_spec : Spec
ctr_spec = record { name = codes "ctr(aes)"; driver = codes "ctr(aes-generic)"; kind = Skcipher; wrap = Plain; priority = 100; below = 0 ∷ [] }

abbrev pub opening_of_cbc : List RegEntry
opening_of_cbc = Look 0 (codes "cbc(aes)") false (Began 0) ∷ Claim 0 0 ∷ Look 0 (codes "aes") true (Found 0) ∷ []

abbrev pub cbc_with : EndAnswer → List RegEntry
cbc_with answer = opening_of_cbc ++ End 0 0 answer ∷ []
