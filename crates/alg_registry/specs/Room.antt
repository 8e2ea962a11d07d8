-- For which entries of a history room is kept.
use Rattle.std.specs.Prelude.{ℕ, ◌+◌, ◌-◌, ◌≤◌, Bool, true, false, List, length, count_by}
use Rattle.alg_registry.specs.declared.entry.RegEntry.{RegEntry}
use Rattle.alg_registry.specs.declared.entry.RegEntry.TheVariants.{Claim, End, Get, Put}

-- the entry is followed by another of the same caller, which takes no memory
abbrev pub opens : RegEntry → Bool
opens (Claim caller larval) = true
opens (Get caller id ok) = ok
opens _ = false

-- the other
abbrev pub closes : RegEntry → Bool
closes (End caller larval answer) = true
closes (Put caller id) = true
closes _ = false

-- how many such entries may still come
abbrev pub owed : List RegEntry → ℕ
owed h = count_by opens h - count_by closes h

-- there is room for what is owed
pub record HasRoom (h : List RegEntry) (spare room : ℕ) : Type 0 where
  pub enough : owed h ≤ spare
  pub fits : length h + spare ≤ room
