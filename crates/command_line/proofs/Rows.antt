-- The definition at words that are written out.
use Rattle.std.proofs.Common.{◌≡◌, refl, codes, [], ◌∷◌, Ok, Err, true, false}
use Rattle.clap.proofs.OnLiterals.{clap_on_literals}
use Rattle.command_line.specs.CommandLine.{mode_of}
use Rattle.command_line.specs.declared.errors.CommandLineError.TheVariants.{Syntax, CountWithoutLoad, LoadWithClients, InvalidNumber}
use Rattle.run_options.specs.declared.options.Mode.TheVariants.{Script, Clients, Load}

no_words : mode_of [] ≡ Ok (Script (record { workers = 4; trace = false }))
unfolding clap_on_literals
no_words = refl

many_workers : mode_of (codes "--workers" ∷ codes "16" ∷ codes "--trace" ∷ []) ≡ Ok (Script (record { workers = 16; trace = true }))
unfolding clap_on_literals
many_workers = refl

loads : mode_of (codes "--load=7" ∷ codes "--count" ∷ codes "0" ∷ codes "--workers=1" ∷ []) ≡ Ok (Load (record { workers = 1; seed = 7; count = 0 }))
unfolding clap_on_literals
loads = refl

two_clients : mode_of (codes "--clients" ∷ codes "2" ∷ codes "--workers=0" ∷ []) ≡ Ok (Clients (record { workers = 0; trace = false; clients = 2 }))
unfolding clap_on_literals
two_clients = refl

no_clients : mode_of (codes "--clients" ∷ codes "0" ∷ []) ≡ Err InvalidNumber
unfolding clap_on_literals
no_clients = refl

loading_clients : mode_of (codes "--clients" ∷ codes "2" ∷ codes "--load" ∷ codes "1" ∷ []) ≡ Err LoadWithClients
unfolding clap_on_literals
loading_clients = refl

lone_count : mode_of (codes "--count" ∷ codes "5" ∷ []) ≡ Err CountWithoutLoad
unfolding clap_on_literals
lone_count = refl

no_help : mode_of (codes "--help" ∷ []) ≡ Err Syntax
unfolding clap_on_literals
no_help = refl
