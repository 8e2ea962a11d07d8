-- Fewer entries than may be held are never too many.
use Rattle.std.proofs.Common.{◌≡◌, ℕ, suc, ◌+◌, ◌<◌, false, List, [], ◌∷◌, length, map, refl, sym, ap, arith}
use Rattle.std.proofs.lemmas.Bool.{lt-leb}
use Rattle.std.proofs.lemmas.List.{length-map}
use Rattle.std.proofs.lemmas.List.Sums.{count_by-le-length}
use Rattle.alg_registry.specs.declared.row.Row.{Row}
use Rattle.alg_registry.specs.Rows.{counted, is_held}
use Rattle.alg_registry.specs.Answers.{held_count}
use Rattle.trace_check.specs.declared.register.Entry.{Entry}
use Rattle.trace_check.specs.Registers.{row_of, is_full}

length-counted : (id : ℕ) (rows : List Row) → length (counted id rows) ≡ length rows
length-counted id [] = refl
length-counted id (row ∷ rows) = ap suc (length-counted (id + 1) rows)

pub few_not_full : (entries : List Entry) → length entries < 4096 → false ≡ is_full (map row_of entries)
few_not_full entries few =
    let a = count_by-le-length is_held (counted 0 (map row_of entries)) in
    let b = length-counted 0 (map row_of entries) in
    let c = length-map entries row_of in
    sym (lt-leb 4096 (held_count (counted 0 (map row_of entries))) (omega arith))
