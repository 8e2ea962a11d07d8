use Rattle.std.proofs.Common.{rules, arith}
use Rattle.script_session.proofs.Rooms.{end-length, flat-one}
use Rattle.reply_text.specs.declared.answers.Answer.TheVariants.{End}
use Rattle.script_session.proofs.collects.put_end.Goals as goal

pub returns : goal.returns
returns c = search (rules, end-length c.args.label.now c.args.count (omega arith), flat-one (End c.args.label.now c.args.count))
