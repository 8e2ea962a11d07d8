use Rattle.std.proofs.Common.{ℕ, List, ◌++◌, subst}
use Rattle.std.specs.List.{flat_map}
use Rattle.sha2.specs.Hashers.{Holds256}
use Rattle.load_mode.specs.Turns.{bytes_told}
use Rattle.script_run.proofs.LoadLines.{end-on}
use Rattle.script_run.proofs.load_session.hold_end.Goals as goal

pub returns-in-Ok-clause-on : goal.returns-in-Ok-clause-on
returns-in-Ok-clause-on g c =
    end-on c.laws.ensures c.args.session.now c.answer_end.new.self c.args.hasher.now c.hash_completions.new.hasher
    c.new-answers.result.items c.answer_end.new.answers.items c.new-answers.ensures.items c.in-Ok.ensures.done
    (subst (λ xs. (m : List ℕ) → Holds256 c.args.hasher.now m → Holds256 c.hash_completions.new.hasher (m ++ flat_map bytes_told xs)) c.deref.ensures.value c.hash_completions.ensures)

pub returns-in-Ok-clause-own : goal.returns-in-Ok-clause-own
returns-in-Ok-clause-own g c = c.in-Ok.ensures.done.asked.caller.own
