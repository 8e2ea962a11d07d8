use Rattle.std.proofs.Common.{ℕ, List, ◌++◌, subst}
use Rattle.std.specs.List.{flat_map}
use Rattle.sha2.specs.Hashers.{Holds256}
use Rattle.dialogues.specs.Lines.{line_dialogue}
use Rattle.dialogues.specs.Widths.{width_of}
use Rattle.load_mode.specs.Turns.{bytes_told}
use Rattle.script_run.proofs.LoadLines.{line-on}
use Rattle.script_run.proofs.load_session.perform_line.Goals as goal

pub returns-in-Ok-clause-on : goal.returns-in-Ok-clause-on
returns-in-Ok-clause-on g c =
    let s = c.args.session.now in
    line-on c.laws.ensures (width_of c.args.line) (line_dialogue s.workers s.script_state c.args.number c.args.line) s c.answer_line.new.self c.args.hasher.now c.hash_completions.new.hasher
    c.new-answers.result.items c.answer_line.new.answers.items c.requires.narrow c.new-answers.ensures.items c.in-Ok.ensures.done
    (subst (λ xs. (m : List ℕ) → Holds256 c.args.hasher.now m → Holds256 c.hash_completions.new.hasher (m ++ flat_map bytes_told xs)) c.deref.ensures.value c.hash_completions.ensures)
