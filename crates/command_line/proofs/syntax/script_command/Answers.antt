use Rattle.std.proofs.Common.{ap₂, ◌∙◌}
use Rattle.clap.specs.Words.{with_rule}
use Rattle.command_line.proofs.syntax.script_command.Goals as goal

pub returns : goal.returns
returns c =
    let one = c.in_ok-arg.ensures.shape c.option.ensures.local ∙ ap₂ with_rule c.bare_command.ensures c.option.ensures.rule in
    let two = c.in_ok-arg-2.ensures.shape c.flag.ensures.local ∙ ap₂ with_rule one c.flag.ensures.rule in
    let three = c.in_ok-arg-3.ensures.shape c.option-2.ensures.local ∙ ap₂ with_rule two c.option-2.ensures.rule in
    let four = c.in_ok-arg-4.ensures.shape c.option-3.ensures.local ∙ ap₂ with_rule three c.option-3.ensures.rule in
    c.in_ok-command.ensures.shape c.option-4.ensures.local ∙ ap₂ with_rule four c.option-4.ensures.rule
