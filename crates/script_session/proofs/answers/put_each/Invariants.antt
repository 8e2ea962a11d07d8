use Rattle.std.proofs.Common.{◌≡◌, ◌++◌, take}
use Rattle.std.specs.List.{flat_map}
use Rattle.reply_text.specs.Answers.{text_of}
use Rattle.script_session.proofs.answers.put_each.Given as goal

abbrev pub invariant-loop-answer : goal.invariant-loop-answer
invariant-loop-answer l = l.reply.text ≡ l.fn.reply.text ++ flat_map text_of (take l.answer-index l.answers)
