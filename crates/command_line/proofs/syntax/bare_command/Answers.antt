use Rattle.std.proofs.Common.{ap, true, ◌≡◌, ◌∙◌}
use Rattle.clap.specs.Words.{App, app_of}
use Rattle.clap.specs.Simple.{app_of_fields, on_top}
use Rattle.command_line.proofs.syntax.bare_command.Goals as goal

abbrev without_name : App → App
without_name = on_top (λ s. record s { no_binary_name = true })

abbrev without_help : App → App
without_help = on_top (λ s. record s { disable_help_flag = true })

abbrev without_version : App → App
without_version = on_top (λ s. record s { disable_version_flag = true })

pub returns : goal.returns
returns c =
    let named : app_of c.no_binary_name.result ≡ without_name (app_of c.new.result) = ap app_of_fields c.no_binary_name.ensures in
    let helped : app_of c.disable_help_flag.result ≡ without_help (app_of c.no_binary_name.result) = ap app_of_fields c.disable_help_flag.ensures in
    let versioned : app_of c.disable_version_flag.result ≡ without_version (app_of c.disable_help_flag.result) = ap app_of_fields c.disable_version_flag.ensures in
    versioned ∙ ap without_version (helped ∙ ap without_help (named ∙ ap without_name c.new.ensures.app))
