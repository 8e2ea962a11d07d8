-- Marks and references depend on what was done to each entry by its id alone.
use Rattle.std.proofs.Common.{◌≡◌, ℕ, ◌+◌, false, List, [], ◌∷◌, ◌++◌, map, refl, sym, ap, ◌∙◌, append_assoc}
use Rattle.std.proofs.lemmas.List.{append-nil}
use Rattle.alg_registry.specs.declared.spec.Spec.{Spec}
use Rattle.alg_registry.specs.declared.row.Row.{Row}
use Rattle.alg_registry.specs.declared.entry.RegEntry.{RegEntry}
use Rattle.alg_registry.specs.Rows.{noted_at, noted, stays_listed, marked, counted, standing, rows_of, registered}

-- an entry without mark and references
abbrev pub bare : Row → Row
bare row = record row { listed = false; references = 0 }

pub marked-bare : (older rows : List Row) → marked older (map bare rows) ≡ marked older rows
marked-bare older [] = refl
marked-bare older (row ∷ rows) = marked-bare (older ++ record row { listed = stays_listed older row; references = 0 } ∷ []) rows

pub map-push : (older : List Row) (row : Row) → map bare (older ++ row ∷ []) ≡ map bare older ++ bare row ∷ []
map-push [] row = refl
map-push (r ∷ older) row = ap (λ rs. bare r ∷ rs) (map-push older row)

pub bare-marked : (older rows : List Row) → map bare (marked older rows) ≡ map bare older ++ map bare rows
bare-marked older [] = sym (append-nil (map bare older))
bare-marked older (row ∷ rows) =
    let first : Row = record row { listed = stays_listed older row; references = 0 } in
    bare-marked (older ++ first ∷ []) rows
    ∙ (ap (λ rs. rs ++ map bare rows) (map-push older first) ∙ append_assoc (map bare older) (bare first ∷ []) (map bare rows))

pub bare-counted : (id : ℕ) (rows : List Row) → map bare (counted id rows) ≡ map bare rows
bare-counted id [] = refl
bare-counted id (row ∷ rows) = ap (λ rs. bare row ∷ rs) (bare-counted (id + 1) rows)

pub bare-noted : (h : List RegEntry) (id : ℕ) (specs : List Spec) → map bare (noted h id specs) ≡ noted h id specs
bare-noted h id [] = refl
bare-noted h id (spec ∷ specs) = ap (λ rs. noted_at h id spec ∷ rs) (bare-noted h (id + 1) specs)

pub bare-rows_of : (h : List RegEntry) → map bare (rows_of h) ≡ noted h 0 (registered h)
bare-rows_of h =
    bare-counted 0 (marked [] (noted h 0 (registered h)))
    ∙ (bare-marked [] (noted h 0 (registered h)) ∙ bare-noted h 0 (registered h))

-- entries to which was done what the history says stand as it says
pub standing-from_bare : (h : List RegEntry) (rows : List Row) → map bare rows ≡ noted h 0 (registered h) → standing rows ≡ rows_of h
standing-from_bare h rows same = ap (λ rs. counted 0 rs) (sym (marked-bare [] rows) ∙ ap (λ rs. marked [] rs) same)
