-- Marks of ids: of the entries that are held, and of those with which larvals ended.
use Rattle.std.specs.Prelude.{◌≡◌, ◌==◌, ◌<◌, ℕ, Bool, ◌||◌, nat_lt, List, [], ◌∷◌, length, slice_index_or, Option, Some}
use Rattle.std.specs.List.{list_any}
use Rattle.alg_registry.specs.Answers.{ended_with}
use Rattle.alg_registry.specs.declared.row.Larval.{Larval}
use Rattle.alg_registry.specs.declared.entry.Ended.{Ended}
use Rattle.alg_registry.specs.declared.entry.Ended.TheVariants.{Built, Joined}
use Rattle.trace_check.specs.declared.register.Entry.{Entry}

-- the places of these ids are marked too
pub record AreMarked (old new : List Bool) (ids : List ℕ) : Type 0 where
  pub len : length new ≡ length old
  pub each : (id : ℕ) (d : Bool) → id < length old → slice_index_or new id d ≡ (slice_index_or old id d || list_any (λ child. child == id) ids)

-- an entry is held while it is listed, callers have references of it, or a newer entry that is held stands on it
abbrev pub holds : Entry → Bool → Bool
holds entry used = entry.listed || (nat_lt 0 entry.taken || used)

-- the id of the entry that a larval ended with
abbrev pub end_ids : Option Ended → List ℕ
end_ids (Some (Built id)) = id ∷ []
end_ids (Some (Joined id)) = id ∷ []
end_ids _ = []

-- of each id below the count, whether a larval of the text ended with it
pub record AreJoined (larvals : List Larval) (text : List ℕ) (count : ℕ) (marks : List Bool) : Type 0 where
  pub len : length marks ≡ count
  pub each : (id : ℕ) (d : Bool) → id < count → slice_index_or marks id d ≡ list_any (ended_with text id) larvals
