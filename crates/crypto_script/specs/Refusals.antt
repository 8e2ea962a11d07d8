-- Words of the private contracts.
use Rattle.command_line.specs.declared.errors.CommandLineError.{CommandLineError}
use Rattle.command_line.specs.declared.errors.CommandLineError.TheVariants as command
use Rattle.script_run.specs.declared.errors.RunError.{RunError}
use Rattle.script_run.specs.declared.errors.RunError.TheVariants.{Usage, NoMemory}

-- why a run ends whose words are no command, or can't be read for want of memory
abbrev pub of_words : CommandLineError → RunError
of_words command.NoMemory = NoMemory
of_words _ = Usage
