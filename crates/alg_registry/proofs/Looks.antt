-- What a look answers, by what was found.
use Rattle.std.proofs.Common.{◌≡◌, ℕ, Bool, true, false, List, length, if◌then◌else◌, ◌&&◌, Option, Some, None, ap, sym, ◌∙◌}
use Rattle.std.specs.List.{position_from}
use Rattle.std.specs.Str.{bytes_eq}
use Rattle.alg_registry.specs.declared.entry.RegEntry.{RegEntry}
use Rattle.alg_registry.specs.Rows.{rows_of, larvals_of, texts}
use Rattle.alg_registry.proofs.Fresh.{length-larvals_of}
use Rattle.alg_registry.specs.declared.row.Row.{Row}
use Rattle.alg_registry.specs.declared.row.Larval.{Larval}
use Rattle.alg_registry.specs.declared.entry.Looked.TheVariants.{Found, Began, Absent}
use Rattle.alg_registry.specs.Answers.{may_find, is_pending, is_template, best_from, not_found, found_best, found_driver, look_answer}

pub look-best : (rows : List Row) (larvals : List Larval) (text : List ℕ) (plain : Bool) (best : ℕ × ℕ)
    → position_from (λ row. may_find plain row && bytes_eq row.spec.driver text) 0 rows ≡ None → best_from larvals text plain 0 rows ≡ Some best
    → look_answer rows larvals text plain ≡ Found best.0
look-best rows larvals text plain best none found =
    ap (λ (o : Option ℕ). found_driver rows larvals text plain o) none ∙ ap (λ (o : Option (ℕ × ℕ)). found_best larvals text o) found

pub look-none : (rows : List Row) (larvals : List Larval) (text : List ℕ) (plain : Bool)
    → position_from (λ row. may_find plain row && bytes_eq row.spec.driver text) 0 rows ≡ None → best_from larvals text plain 0 rows ≡ None
    → look_answer rows larvals text plain ≡ not_found larvals text (position_from (is_pending text) 0 larvals)
look-none rows larvals text plain none found =
    ap (λ (o : Option ℕ). found_driver rows larvals text plain o) none ∙ ap (λ (o : Option (ℕ × ℕ)). found_best larvals text o) found

-- a larval that begins has the next number
began_answer : (larvals : List Larval) (text : List ℕ) (k : ℕ) (o : Option ℕ) → not_found larvals text o ≡ Began k → k ≡ length larvals
began_answer larvals text k (Some n) e = absurd cc
began_answer larvals text k None e = yes (is_template text) e
  where
    yes : (b : Bool) → (if b then Began (length larvals) else Absent) ≡ Began k → k ≡ length larvals
    yes true q = let f : length larvals ≡ k = cc in sym f
    yes false q = absurd cc

began_best : (larvals : List Larval) (text : List ℕ) (k : ℕ) (o : Option (ℕ × ℕ)) → found_best larvals text o ≡ Began k → k ≡ length larvals
began_best larvals text k (Some best) e = absurd cc
began_best larvals text k None e = began_answer larvals text k (position_from (is_pending text) 0 larvals) e

began_driver : (rows : List Row) (larvals : List Larval) (text : List ℕ) (plain : Bool) (k : ℕ) (o : Option ℕ) → found_driver rows larvals text plain o ≡ Began k → k ≡ length larvals
began_driver rows larvals text plain k (Some id) e = absurd cc
began_driver rows larvals text plain k None e = began_best larvals text k (best_from larvals text plain 0 rows) e

pub began_new : (h : List RegEntry) (text : List ℕ) (plain : Bool) (k : ℕ) → look_answer (rows_of h) (larvals_of h) text plain ≡ Began k → k ≡ length (texts h)
began_new h text plain k e = began_driver (rows_of h) (larvals_of h) text plain k (position_from (λ row. may_find plain row && bytes_eq row.spec.driver text) 0 (rows_of h)) e ∙ length-larvals_of h
