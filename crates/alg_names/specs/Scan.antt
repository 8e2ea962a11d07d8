-- A scan beside the reading that it stands for.
use Rattle.std.specs.Prelude.{◌≡◌, length}
use Rattle.alg_names.specs.Reader.{Place, begins, in_word, closed, Reading, lost, reading, reach}
use Rattle.alg_names.specs.declared.grammar.Spot.{Spot}
use Rattle.alg_names.specs.declared.grammar.Spot.TheVariants.{Begins, InWord, Closed}
use Rattle.alg_names.specs.declared.grammar.Scan.{Scan}

abbrev pub IsAt : Place → Spot → Type 0
IsAt begins Begins = Unit {0}
IsAt (in_word w) InWord = Unit {0}
IsAt (closed t) Closed = Unit {0}
IsAt _ _ = ⊥

abbrev pub Shows : Reading → Scan → Type 0
Shows lost s = ⊥
Shows (reading fs place) s = (s.unclosed ≡ length fs) × (s.levels ≡ reach fs place) × IsAt place s.spot
