use Rattle.std.proofs.Common.{◌≡◌, refl, List, ℕ, codes}
use Rattle.std.specs.Prelude.{IsTrue}
use Rattle.alg_registry.specs.declared.spec.Kind.TheVariants.{Cipher}
use Rattle.alg_registry.specs.declared.spec.Wrap.TheVariants.{Plain}
use Rattle.templates.specs.Table.{table}
use Rattle.shared_registry.proofs.tests.table_driver.Goals as goal

is_driver : (name driver : List ℕ) → name ≡ codes "aes" → driver ≡ codes "aes-table" → (below : List ℕ) → IsTrue (table.is_driver (record { name = name; driver = driver; kind = Cipher; wrap = Plain; priority = 150; below = below }))
unfolding table
is_driver name driver n d below = rw (n, d) refl

pub returns-clause-driver : goal.returns-clause-driver
returns-clause-driver g c = is_driver c.bytes_of.result c.bytes_of-2.result c.bytes_of.ensures c.bytes_of-2.ensures c.new.result
