-- Whether each job is done, as no job runs and none waits.
use Rattle.std.proofs.Common.{◌≡◌, ℕ, zero, suc, Bool, true, false, sym, ◌+◌, ◌<◌, List, [], ◌∷◌, length, Option, Some, None, refl, arith}
use Rattle.std.specs.Prelude.{MatchBool, ◌==◌}
use Rattle.std.proofs.lemmas.Bool.{eqb-true}
use Rattle.padata_core.specs.Pad.{Pad, ready, submitted_of, running_of}

module _ {F : Type 0} where
  none_runs : (xs : List (Option F)) → running_of xs ≡ 0 → length (ready xs) ≡ length xs
  none_runs [] h = refl
  none_runs (None ∷ xs) h = absurd (omega arith)
  none_runs (Some x ∷ xs) h = (let k = none_runs xs h in omega arith)

  some_runs : (xs : List (Option F)) → 0 < running_of xs → length (ready xs) < length xs
  some_runs [] h = absurd (omega arith)
  some_runs (None ∷ xs) h = omega arith
  some_runs (Some x ∷ xs) h = (let k = some_runs xs h in omega arith)

pub empty_or : (n : ℕ) (none : Bool) → none ≡ (n == 0) → MatchBool none (n ≡ 0) (0 < n)
empty_or n true h = eqb-true n 0 (sym h)
empty_or zero false h = cc
empty_or (suc n) false h = omega arith

pub positive : (n : ℕ) → (n ≡ 0 → ⊥) → 0 < n
positive zero h = absurd (h refl)
positive (suc n) h = omega arith

-- where no job runs, each is done if none waits
pub done_cases : {J F : Type 0} (pad : Pad J F) (none : Bool) → running_of pad.outcomes ≡ 0 → MatchBool none (length pad.waiting ≡ 0) (0 < length pad.waiting)
    → MatchBool none (submitted_of pad ≡ pad.collected + length (ready pad.outcomes)) (pad.collected + length (ready pad.outcomes) < submitted_of pad)
done_cases pad true z e = (let r = none_runs pad.outcomes z in omega arith)
done_cases pad false z e = (let r = none_runs pad.outcomes z in omega arith)

pub undone : {J F : Type 0} (pad : Pad J F) → 0 < running_of pad.outcomes → pad.collected + length (ready pad.outcomes) < submitted_of pad
undone pad some = (let r = some_runs pad.outcomes some in omega arith)
