-- The pipelines that a board keeps, by their numbers.
use Rattle.std.specs.Prelude.{ℕ, Option}
use Rattle.std.specs.Ordering.{nat_cmp}
use Rattle.std.specs.BTreeMap.{get}
use Rattle.std.specs.declared.collections.BTreeMap.{BTreeMap}
use Rattle.std.specs.Global.{Global}

-- what stands at each number, if anything
abbrev pub Places : Type 0 → Type 0
Places P = ℕ → Option P

abbrev pub places : {P : Type 0} → BTreeMap ℕ P Global → Places P
places pipes p = get nat_cmp pipes p
