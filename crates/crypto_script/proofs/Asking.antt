-- What words ask for.
use Rattle.std.proofs.Common.{◌≡◌, ◌≢◌, ℕ, List, None, Ok, Err, refl, ap, inl, inr, ◌⊎◌}
use Rattle.command_line.specs.CommandLine.{mode_of}
use Rattle.command_line.specs.declared.errors.CommandLineError.{CommandLineError}
use Rattle.command_line.specs.declared.errors.CommandLineError.TheVariants as command
use Rattle.run_options.specs.declared.options.Mode.{Mode}
use Rattle.script_run.specs.declared.errors.RunError.{RunError}
use Rattle.script_run.specs.declared.errors.RunError.TheVariants as run
use Rattle.crypto_script.specs.Words.{script_asked, script_in_mode, clients_asked, clients_in_mode, load_asked, load_in_mode}
use Rattle.crypto_script.specs.Refusals.{of_words}

module _ (words : List (List ℕ)) where
  pub asks-script : (mode : Mode) → mode_of words ≡ Ok mode → script_asked words ≡ script_in_mode (Ok mode)
  unfolding script_asked
  asks-script mode is = ap script_in_mode is

  pub asks-clients : (mode : Mode) → mode_of words ≡ Ok mode → clients_asked words ≡ clients_in_mode (Ok mode)
  unfolding clients_asked
  asks-clients mode is = ap clients_in_mode is

  pub asks-load : (mode : Mode) → mode_of words ≡ Ok mode → load_asked words ≡ load_in_mode (Ok mode)
  unfolding load_asked
  asks-load mode is = ap load_in_mode is

  no-script : (e : CommandLineError) → mode_of words ≡ Err e → script_asked words ≡ None
  unfolding script_asked
  no-script e is = ap script_in_mode is

  no-clients : (e : CommandLineError) → mode_of words ≡ Err e → clients_asked words ≡ None
  unfolding clients_asked
  no-clients e is = ap clients_in_mode is

  no-load : (e : CommandLineError) → mode_of words ≡ Err e → load_asked words ≡ None
  unfolding load_asked
  no-load e is = ap load_in_mode is

  abbrev IsRefusal : RunError → Type 0
  IsRefusal e = (e ≡ run.NoMemory) ⊎ ((e ≡ run.Usage) × (script_asked words ≡ None) × (clients_asked words ≡ None) × (load_asked words ≡ None))

  usage : (e : CommandLineError) → mode_of words ≡ Err e → IsRefusal run.Usage
  usage e is = inr (refl, no-script e is, no-clients e is, no-load e is)

  pub refuses : (e : CommandLineError) → (e ≢ command.NoMemory → mode_of words ≡ Err e) → IsRefusal (of_words e)
  refuses command.NoMemory is = inl refl
  refuses command.Syntax is = usage command.Syntax (is (λ same. let x : command.Syntax ≡ command.NoMemory = same in cc))
  refuses command.CountWithoutLoad is = usage command.CountWithoutLoad (is (λ same. let x : command.CountWithoutLoad ≡ command.NoMemory = same in cc))
  refuses command.LoadWithTrace is = usage command.LoadWithTrace (is (λ same. let x : command.LoadWithTrace ≡ command.NoMemory = same in cc))
  refuses command.LoadWithClients is = usage command.LoadWithClients (is (λ same. let x : command.LoadWithClients ≡ command.NoMemory = same in cc))
  refuses command.InvalidNumber is = usage command.InvalidNumber (is (λ same. let x : command.InvalidNumber ≡ command.NoMemory = same in cc))
