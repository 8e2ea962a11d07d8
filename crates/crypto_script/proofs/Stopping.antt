-- How far a run comes that nothing stops, and a load, which reads nothing.
use Rattle.std.proofs.Common.{◌≡◌, ℕ, ◌^◌, ◌<◌, ◌≤◌, ◌⊎◌, inl, inr, Bool, true, false, List, [], ◌++◌, length, Option, Some, None, refl, ap, arith, IfSome, length-append}
use Rattle.std.specs.Prelude.{Result, Ok, Err, IfErr, IsErrOf}
use Rattle.std.specs.Io.KnownBytes.{Consumes}
use Rattle.script_run.specs.declared.errors.RunError.{RunError}
use Rattle.script_run.specs.declared.errors.RunError.TheVariants as run
use Rattle.script_run.specs.Runs.{ReadsUpTo}
use Rattle.script_run.specs.Statuses.{status_of}

never-long : (answer : Result Bool RunError) (status : ℕ) → IfErr answer (λ e. (e ≡ run.WriteFault) ⊎ (e ≡ run.NoMemory)) → status ≡ status_of answer → status ≡ 6 → ⊥
never-long (Ok true) status causes code six = omega arith
never-long (Ok false) status causes code six = omega arith
never-long (Err e) status (inl write) code six = let four : status_of (Err e) ≡ 4 = ap (λ x. status_of (Err x)) write in omega arith
never-long (Err e) status (inr memory) code six = let five : status_of (Err e) ≡ 5 = ap (λ x. status_of (Err x)) memory in omega arith

nothing-read : (left : Option (List ℕ)) → Consumes left left []
nothing-read None = tt
nothing-read (Some xs) = refl

-- a load reads nothing
pub load-reads : (left : Option (List ℕ)) (answer : Result Bool RunError) (status : ℕ) → IfErr answer (λ e. (e ≡ run.WriteFault) ⊎ (e ≡ run.NoMemory)) → status ≡ status_of answer → ReadsUpTo left left (status ≡ 6)
load-reads left answer status causes code = ([], nothing-read left, ((λ six. absurd (never-long answer status causes code six)), (λ long. absurd (omega (arith, long)))))

-- what a run came to that read so much, whose words are a command, and whose streams didn't fail
reaches : (answer : Result Bool RunError) (status : ℕ) (script given rest : List ℕ) → script ≡ given ++ rest → length script ≤ 2 ^ 28 → (IsErrOf answer run.TooLong → 2 ^ 28 < length given)
    → (IsErrOf answer run.Usage → ⊥) → (IsErrOf answer run.ReadFault → ⊥) → (IsErrOf answer run.WriteFault → ⊥) → status ≡ status_of answer → (status ≤ 1) ⊎ (status ≡ 5)
reaches (Ok true) status script given rest read fits long usage no_read no_write code = inl (omega arith)
reaches (Ok false) status script given rest read fits long usage no_read no_write code = inl (omega arith)
reaches (Err run.Usage) status script given rest read fits long usage no_read no_write code = absurd (usage refl)
reaches (Err run.ReadFault) status script given rest read fits long usage no_read no_write code = absurd (no_read refl)
reaches (Err run.WriteFault) status script given rest read fits long usage no_read no_write code = absurd (no_write refl)
reaches (Err run.NoMemory) status script given rest read fits long usage no_read no_write code = inr code
reaches (Err run.TooLong) status script given rest read fits long usage no_read no_write code =
    let more = long refl in
    let size = ap length read in
    let sum = length-append given rest in
    absurd (omega arith)

pub reaches-end : (left left' : Option (List ℕ)) (given : List ℕ) (answer : Result Bool RunError) (status : ℕ) → Consumes left left' given → (IsErrOf answer run.TooLong → 2 ^ 28 < length given)
    → (IsErrOf answer run.Usage → ⊥) → (IsErrOf answer run.ReadFault → ⊥) → (IsErrOf answer run.WriteFault → ⊥) → status ≡ status_of answer
    → IfSome left (λ script. length script ≤ 2 ^ 28 → (status ≤ 1) ⊎ (status ≡ 5))
reaches-end None left' given answer status read long usage no_read no_write code = tt
reaches-end (Some script) None given answer status read long usage no_read no_write code = absurd read
reaches-end (Some script) (Some rest) given answer status read long usage no_read no_write code = λ fits. reaches answer status script given rest read fits long usage no_read no_write code
