-- Why a run did not reach the end, and the status that says so.
use Rattle.std.specs.Prelude.{ℕ, Bool, true, false, Result, Ok, Err}
use Rattle.kc_base.specs.declared.transfer.InputError.{InputError}
use Rattle.kc_base.specs.declared.transfer.InputError.TheVariants as input
use Rattle.kc_base.specs.declared.transfer.SinkError.{SinkError}
use Rattle.kc_base.specs.declared.transfer.SinkError.TheVariants as output
use Rattle.script_run.specs.declared.errors.RunError.{RunError}
use Rattle.script_run.specs.declared.errors.RunError.TheVariants.{Usage, ReadFault, WriteFault, NoMemory, TooLong}

abbrev pub of_input : InputError → RunError
of_input input.Failed = ReadFault
of_input input.NoMemory = NoMemory
of_input input.TooLong = TooLong

abbrev pub of_output : SinkError → RunError
of_output output.Failed = WriteFault
of_output output.NoMemory = NoMemory

-- the status of a run that found a malformed line or none, or didn't reach the end
abbrev pub status_of : Result Bool RunError → ℕ
status_of (Ok false) = 0
status_of (Ok true) = 1
status_of (Err Usage) = 2
status_of (Err ReadFault) = 3
status_of (Err WriteFault) = 4
status_of (Err NoMemory) = 5
status_of (Err TooLong) = 6
