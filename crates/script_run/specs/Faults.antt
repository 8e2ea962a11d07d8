-- Which faults of its source and its sink a run answers. Each counts its own.
use Rattle.std.specs.Prelude.{ℕ, ◌≤◌, Bool, Result, IsErrOf}
use Rattle.kc_base.specs.Streams.{Rose}
use Rattle.script_run.specs.declared.errors.RunError.{RunError}
use Rattle.script_run.specs.declared.errors.RunError.TheVariants.{Usage, ReadFault, WriteFault}

-- The answer is that a read failed only where the source's count of faults rose, and that a write failed only where the
-- sink's did, which never falls. It is never that the options were wrong.
pub record TellsFaults (result : Result Bool RunError) (reads reads' writes writes' : ℕ) : Type 0 where
  pub read_fault : IsErrOf result ReadFault → Rose reads reads'
  pub write_fault : IsErrOf result WriteFault → Rose writes writes'
  pub later : writes ≤ writes'
  pub usage : IsErrOf result Usage → ⊥
