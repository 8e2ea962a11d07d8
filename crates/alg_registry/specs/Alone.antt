-- Which entries may change alone: no other entry's mark or references hang on the change.
use Rattle.std.specs.Prelude.{Bool, ◌&&◌, ◌||◌, ◌==◌, nat_lt, length}
use Rattle.alg_registry.specs.declared.row.Row.{Row}

abbrev pub stands_on_nothing : Row → Bool
stands_on_nothing row = length row.spec.below == 0

-- No held entry stands on it, and it stays held, or stands on nothing.
abbrev pub unlists_alone : Row → Bool
unlists_alone row = row.references == row.taken && (nat_lt 0 row.references || stands_on_nothing row)

-- It stays held, or stands on nothing.
abbrev pub puts_alone : Row → Bool
puts_alone row = nat_lt 0 row.taken && nat_lt 0 row.references && (row.listed || nat_lt 1 row.references || stands_on_nothing row)
