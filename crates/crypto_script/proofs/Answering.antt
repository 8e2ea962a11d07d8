-- What was answered of a source that failed or gave too much, or into a sink that failed, by the status.
use Rattle.std.proofs.Common.{◌≡◌, ℕ, ◌-◌, ◌^◌, ◌≤◌, Bool, true, false, List, length, take, Option, refl, arith}
use Rattle.std.specs.Prelude.{Result, Ok, Err, IsErrOf}
use Rattle.alg_registry.specs.declared.entry.RegEntry.{RegEntry}
use Rattle.board.specs.declared.entry.BoardEntry.{BoardEntry}
use Rattle.transforms.specs.declared.ask.Ask.{Ask}
use Rattle.script_text.specs.Whole.{whole_script}
use Rattle.script_run.specs.declared.errors.RunError.{RunError}
use Rattle.script_run.specs.declared.errors.RunError.TheVariants.{Usage, ReadFault, WriteFault, NoMemory, TooLong}
use Rattle.script_run.specs.Answered.{Gives, AreAnswered, BeginsWithText, RanSource}
use Rattle.script_run.specs.Runs.{Gains}
use Rattle.script_run.specs.Statuses.{status_of}

failed : (answer : Result Bool RunError) → status_of answer ≡ 3 → IsErrOf answer ReadFault
failed (Ok true) code = absurd (omega (arith, code))
failed (Ok false) code = absurd (omega (arith, code))
failed (Err Usage) code = absurd (omega (arith, code))
failed (Err ReadFault) code = refl
failed (Err WriteFault) code = absurd (omega (arith, code))
failed (Err NoMemory) code = absurd (omega (arith, code))
failed (Err TooLong) code = absurd (omega (arith, code))

pub unwritten : (answer : Result Bool RunError) → status_of answer ≡ 4 → IsErrOf answer WriteFault
unwritten (Ok true) code = absurd (omega (arith, code))
unwritten (Ok false) code = absurd (omega (arith, code))
unwritten (Err Usage) code = absurd (omega (arith, code))
unwritten (Err ReadFault) code = absurd (omega (arith, code))
unwritten (Err WriteFault) code = refl
unwritten (Err NoMemory) code = absurd (omega (arith, code))
unwritten (Err TooLong) code = absurd (omega (arith, code))

pub wanting : (answer : Result Bool RunError) → status_of answer ≡ 5 → IsErrOf answer NoMemory
wanting (Ok true) code = absurd (omega (arith, code))
wanting (Ok false) code = absurd (omega (arith, code))
wanting (Err Usage) code = absurd (omega (arith, code))
wanting (Err ReadFault) code = absurd (omega (arith, code))
wanting (Err WriteFault) code = absurd (omega (arith, code))
wanting (Err NoMemory) code = refl
wanting (Err TooLong) code = absurd (omega (arith, code))

too_long : (answer : Result Bool RunError) → status_of answer ≡ 6 → IsErrOf answer TooLong
too_long (Ok true) code = absurd (omega (arith, code))
too_long (Ok false) code = absurd (omega (arith, code))
too_long (Err Usage) code = absurd (omega (arith, code))
too_long (Err ReadFault) code = absurd (omega (arith, code))
too_long (Err WriteFault) code = absurd (omega (arith, code))
too_long (Err NoMemory) code = absurd (omega (arith, code))
too_long (Err TooLong) code = refl

module _ (workers status : ℕ) (left left' : Option (List ℕ)) (r : List RegEntry) (b : List (BoardEntry Ask)) (answer : Result Bool RunError) (held held' : Option (List ℕ)) (ran : RanSource workers left left' r b answer held held') (code : status ≡ status_of answer) where
  pub answered-read : status ≡ 3 → Gives left left' (λ given. Gains held held' (AreAnswered workers (whole_script given) r b))
  answered-read is = (ran.given, ran.first.failed (failed answer (omega (arith, code, is))), ran.reads.read)

  pub answered-long : status ≡ 6 → Gives left left' (λ given. (m : ℕ) × (2 ^ 28 - 65535 ≤ m) × (m ≤ 2 ^ 28) × Gains held held' (AreAnswered workers (whole_script (take m given)) r b))
  answered-long is = (ran.given, ran.first.up_to (too_long answer (omega (arith, code, is))), ran.reads.read)

  pub answered-written : status ≡ 4 → Gives left left' (λ given. Gains held held' (BeginsWithText workers (whole_script (take (length given - 65536) given)) r b))
  answered-written is = (ran.given, ran.first.written (unwritten answer (omega (arith, code, is))), ran.reads.read)
