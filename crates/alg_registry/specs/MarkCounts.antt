-- How entries get their marks and references again: marks from the oldest held entry to the newest, then references
-- from the newest to the oldest, each held one giving one to each entry below it.
use Rattle.std.specs.Prelude.{ℕ, ◌+◌, ◌==◌, if◌then◌else◌, List, [], ◌∷◌, ◌++◌, take, drop}
use Rattle.std.specs.List.{list_any}
use Rattle.alg_registry.specs.declared.row.Row.{Row}
use Rattle.alg_registry.specs.Rows.{is_held, stays_listed}

-- an entry with its mark and the references of callers alone, where the older ones have theirs
abbrev pub remarked : List Row → Row → Row
remarked older row = record row { listed = stays_listed older row; references = row.taken }

abbrev pub remarked_by : List Row → List Row → List Row
remarked_by older [] = older
remarked_by older (row ∷ newer) = older ++ remarked older row ∷ newer

-- the entries, after the one at the place was marked
abbrev pub remarked_at : ℕ → List Row → List Row
remarked_at place rows = remarked_by (take place rows) (drop place rows)

-- after those of the ids were marked, the first first
abbrev pub remarked_all : List ℕ → List Row → List Row
remarked_all [] rows = rows
remarked_all (id ∷ ids) rows = remarked_all ids (remarked_at id rows)

-- the entries from this id on, those of the ids with one more reference
abbrev pub referred : ℕ → List ℕ → List Row → List Row
referred id below [] = []
referred id below (row ∷ rows) = record row { references = row.references + (if list_any (λ child. child == id) below then 1 else 0) } ∷ referred (id + 1) below rows

-- the older entries, and those from the one on that has its references and gives them on
abbrev pub referred_by : List Row → List Row → List Row
referred_by older [] = older
referred_by older (row ∷ newer) = (if is_held row then referred 0 row.spec.below older else older) ++ row ∷ newer

-- the entries, after the one at the place has given its references on
abbrev pub gave : ℕ → List Row → List Row
gave place rows = referred_by (take place rows) (drop place rows)

-- after those of the ids have, the last first
abbrev pub gave_all : List ℕ → List Row → List Row
gave_all [] rows = rows
gave_all (id ∷ ids) rows = gave id (gave_all ids rows)

-- the entries, after those of the ids got their marks and references again
abbrev pub restood : List ℕ → List Row → List Row
restood ids rows = gave_all ids (remarked_all ids rows)
