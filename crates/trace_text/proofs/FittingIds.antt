-- Ids are within their type.
use Rattle.std.proofs.Common.{◌≡◌, ℕ, zero, suc, true, List, [], ◌∷◌, get_or, ◌^◌, Result, Ok, Err, refl, lt-ltb}
use Rattle.std.specs.Prelude.{OnOk}
use Rattle.std.specs.List.{list_all}
use Rattle.std.proofs.lemmas.Bool.{and_from}
use mir.Val.{Fits}
use mir.Syntax.{w64}
use Rattle.trace_text.specs.Trace.{is_u64}

ids_fit : (ids : List ℕ) → ((i : ℕ) → Fits w64 (get_or ids i 0)) → list_all is_u64 ids ≡ true
ids_fit [] fit = refl
ids_fit (id ∷ ids) fit = and_from (is_u64 id) (list_all is_u64 ids) (lt-ltb id (2 ^ 64) (fit zero).fits) (ids_fit ids (λ i. fit (suc i)))

pub fit_where_ok : {A E : Type 0} (result : Result A E) (ids : List ℕ) → ((i : ℕ) → Fits w64 (get_or ids i 0)) → OnOk result (list_all is_u64 ids ≡ true)
fit_where_ok (Ok x) ids fit = ids_fit ids fit
fit_where_ok (Err e) ids fit = tt
