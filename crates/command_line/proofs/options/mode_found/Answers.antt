use Rattle.std.proofs.Common.{◌∙◌, codes, ap}
use Rattle.clap.specs.Words.{found_of}
use Rattle.clap.proofs.WalkLemmas.{first_value-rows}
use Rattle.command_line.specs.CommandLine.{is_true_text}
use Rattle.command_line.proofs.WordsLemmas.{same_mode}
use Rattle.command_line.proofs.options.mode_found.Goals as goal

pub returns-clause-value : goal.returns-clause-value
returns-clause-value c =
    let found = found_of c.args.matches.now in
    let workers = c.get_str-2.ensures ∙ first_value-rows found (codes "workers") in
    let clients = c.get_str-3.ensures ∙ first_value-rows found (codes "clients") in
    let load = c.get_str-4.ensures ∙ first_value-rows found (codes "load") in
    let count = c.get_str-5.ensures ∙ first_value-rows found (codes "count") in
    let trace = c.is_set-trace.ensures ∙ ap is_true_text (c.get_str.ensures ∙ first_value-rows found (codes "trace")) in
    c.mode_given.ensures.value ∙ same_mode workers trace clients load count
