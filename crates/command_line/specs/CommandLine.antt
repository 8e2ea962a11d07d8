-- What the words of the command line ask for, the program's name not among them.
use Rattle.std.specs.Prelude.{◌==◌, ◌≤◌, ℕ, Bool, true, false, List, Option, Some, None, Result, Ok, Err}
use Rattle.std.specs.Prelude.{if◌then◌else◌, codes, length}
use Rattle.std.specs.Str.{bytes_eq}
use Rattle.clap.specs.Words.{App, Row, Rule, Text, first_of, fault_of, matches_of, new_app, new_rule, with_rule}
use Rattle.clap.specs.Simple.{on_top}
use Rattle.clap.specs.declared.builder.action.ArgAction.TheVariants.{SetTrue}
use Rattle.command_line.specs.Number.{number_up_to}
use Rattle.command_line.specs.declared.errors.CommandLineError.{CommandLineError}
use Rattle.command_line.specs.declared.errors.CommandLineError.TheVariants.{Syntax, CountWithoutLoad, LoadWithTrace, LoadWithClients, InvalidNumber}
use Rattle.run_options.specs.declared.options.Mode.{Mode}
use Rattle.run_options.specs.declared.options.Mode.TheVariants.{Script, Clients, Load}

-- `--name VALUE`
abbrev pub option_rule : Text → Rule
option_rule name = record (new_rule name) { long = Some name }

-- `--name`
abbrev pub flag_rule : Text → Rule
flag_rule name = record (new_rule name) { long = Some name; action = Some SetTrue }

-- the program without options, and without flags for help and version
abbrev pub bare_app : App
bare_app = on_top (λ s. record s { no_binary_name = true; disable_help_flag = true; disable_version_flag = true })
    (new_app (codes "crypto_script"))

-- `crypto_script [--workers N] [--trace] [--clients N] [--load SEED] [--count N]`, as `clap` has it
abbrev pub script_app : App
script_app = with_rule (with_rule (with_rule (with_rule (with_rule bare_app
    (option_rule (codes "workers")))
    (flag_rule (codes "trace")))
    (option_rule (codes "clients")))
    (option_rule (codes "load")))
    (option_rule (codes "count"))

-- `clap` accepts the words: no kind of error may come of them
abbrev pub is_accepted : List Text → Bool
is_accepted words = length (fault_of script_app words) == 0

-- an option's number, at most `most`; the default where the option is absent
abbrev pub number_or : ℕ → ℕ → Option Text → Option ℕ
number_or default most None = Some default
number_or default most (Some text) = number_up_to most text

abbrev pub workers_of : Option Text → Option ℕ
workers_of = number_or 4 16

abbrev pub from_one : Option ℕ → Option ℕ
from_one None = None
from_one (Some number) = if number == 0 then None else Some number

-- at least 1 and at most 8
abbrev pub clients_of : Text → Option ℕ
clients_of text = from_one (number_up_to 8 text)

abbrev pub seed_of : Text → Option ℕ
seed_of = number_up_to 18446744073709551615

abbrev pub count_of : Option Text → Option ℕ
count_of = number_or 1000 100000

abbrev pub script_mode : Option ℕ → Bool → Result Mode CommandLineError
script_mode (Some workers) trace = Ok (Script (record { workers = workers; trace = trace }))
script_mode None trace = Err InvalidNumber

abbrev pub clients_mode : Option ℕ → Bool → Option ℕ → Result Mode CommandLineError
clients_mode (Some workers) trace (Some clients) = Ok (Clients (record { workers = workers; trace = trace; clients = clients }))
clients_mode _ _ _ = Err InvalidNumber

-- a script, or several at once where `--clients` stands
abbrev pub scripts_mode : Option ℕ → Bool → Option Text → Result Mode CommandLineError
scripts_mode workers trace None = script_mode workers trace
scripts_mode workers trace (Some clients) = clients_mode workers trace (clients_of clients)

abbrev pub load_mode : Option ℕ → Option ℕ → Option ℕ → Result Mode CommandLineError
load_mode (Some workers) (Some seed) (Some count) =
    Ok (Load (record { workers = workers; seed = seed; count = count }))
load_mode _ _ _ = Err InvalidNumber

-- by the values of `--workers`, `--trace`, `--clients`, `--load` and `--count`:
-- `--count` stands only beside `--load`, and `--load` neither beside `--trace` nor beside `--clients`
abbrev pub mode_by : Option Text → Bool → Option Text → Option Text → Option Text → Result Mode CommandLineError
mode_by workers trace clients None None = scripts_mode (workers_of workers) trace clients
mode_by workers trace clients None (Some count) = Err CountWithoutLoad
mode_by workers true clients (Some seed) count = Err LoadWithTrace
mode_by workers false (Some clients) (Some seed) count = Err LoadWithClients
mode_by workers false None (Some seed) count = load_mode (workers_of workers) (seed_of seed) (count_of count)

-- `clap` gives a flag that stands the value `true`
abbrev pub is_true_text : Option Text → Bool
is_true_text None = false
is_true_text (Some text) = bytes_eq text (codes "true")

-- by the values that `clap` finds
abbrev pub mode_of_rows : List Row → Result Mode CommandLineError
mode_of_rows rows = mode_by (first_of (codes "workers") rows) (is_true_text (first_of (codes "trace") rows))
    (first_of (codes "clients") rows) (first_of (codes "load") rows) (first_of (codes "count") rows)

-- what the words ask for, or why they are no command
abbrev pub mode_of : List Text → Result Mode CommandLineError
mode_of words = if is_accepted words then mode_of_rows (matches_of script_app words) else Err Syntax

-- the numbers of a mode are within their limits
abbrev pub IsWithinLimits : Mode → Type 0
IsWithinLimits (Script options) = options.workers ≤ 16
IsWithinLimits (Clients options) = (options.workers ≤ 16) × (1 ≤ options.clients) × (options.clients ≤ 8)
IsWithinLimits (Load options) = (options.workers ≤ 16) × (options.count ≤ 100000)
