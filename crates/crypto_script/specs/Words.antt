-- What words ask for.
use Rattle.std.specs.Prelude.{ℕ, ◌≡◌, ◌≤◌, ◌⊎◌, List, Option, Some, None, Result, Ok, Err}
use Rattle.command_line.specs.CommandLine.{mode_of}
use Rattle.command_line.specs.declared.errors.CommandLineError.{CommandLineError}
use Rattle.run_options.specs.declared.options.ClientOptions.{ClientOptions}
use Rattle.run_options.specs.declared.options.LoadOptions.{LoadOptions}
use Rattle.run_options.specs.declared.options.Mode.{Mode}
use Rattle.run_options.specs.declared.options.Mode.TheVariants.{Script, Clients, Load}
use Rattle.run_options.specs.declared.options.ScriptOptions.{ScriptOptions}

abbrev pub script_in_mode : Result Mode CommandLineError → Option ScriptOptions
script_in_mode (Ok (Script options)) = Some options
script_in_mode (Ok (Clients options)) = None
script_in_mode (Ok (Load options)) = None
script_in_mode (Err error) = None

-- how the words ask for a script to be run, where that is what they ask for
unfoldable pub script_asked : List (List ℕ) → Option ScriptOptions
script_asked words = script_in_mode (mode_of words)

abbrev pub clients_in_mode : Result Mode CommandLineError → Option ClientOptions
clients_in_mode (Ok (Script options)) = None
clients_in_mode (Ok (Clients options)) = Some options
clients_in_mode (Ok (Load options)) = None
clients_in_mode (Err error) = None

-- how the words ask for several scripts to be run at once, where that is what they ask for
unfoldable pub clients_asked : List (List ℕ) → Option ClientOptions
clients_asked words = clients_in_mode (mode_of words)

abbrev pub load_in_mode : Result Mode CommandLineError → Option LoadOptions
load_in_mode (Ok (Script options)) = None
load_in_mode (Ok (Clients options)) = None
load_in_mode (Ok (Load options)) = Some options
load_in_mode (Err error) = None

-- the load that the words ask for, where that is what they ask for
unfoldable pub load_asked : List (List ℕ) → Option LoadOptions
load_asked words = load_in_mode (mode_of words)

abbrev pub workers_by : Option ScriptOptions → Option ClientOptions → Option LoadOptions → ℕ
workers_by (Some script) clients load = script.workers
workers_by None (Some clients) load = clients.workers
workers_by None None (Some load) = load.workers
workers_by None None None = 0

-- beside how many workers the words ask for a script, several scripts or a load: 0 where they ask for none of these
abbrev pub workers_in : List (List ℕ) → ℕ
workers_in words = workers_by (script_asked words) (clients_asked words) (load_asked words)

abbrev pub clients_by : Option ClientOptions → ℕ
clients_by None = 0
clients_by (Some clients) = clients.clients

-- how many clients the words ask for beside the first script: 0 where they don't ask for several scripts
abbrev pub clients_in : List (List ℕ) → ℕ
clients_in words = clients_by (clients_asked words)

-- The statuses under which there may have been no board: the input of several scripts is read before there is one.
abbrev pub MayBeUnbegun : Option ClientOptions → ℕ → Type 0
MayBeUnbegun None status = (status ≡ 2) ⊎ (status ≡ 5)
MayBeUnbegun (Some options) status = 3 ≤ status
