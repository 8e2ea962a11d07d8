-- states as columns
use Rattle.std.specs.Prelude.{ℕ, List, [], ◌∷◌}
use Rattle.aes_table.specs.Words.{state_in}
use Rattle.aes_table.specs.declared.state.Columns.{Columns}

-- the state of four columns
abbrev pub state_of : Columns → List ℕ
state_of s = state_in (s.first ∷ s.second ∷ s.third ∷ s.fourth ∷ [])
