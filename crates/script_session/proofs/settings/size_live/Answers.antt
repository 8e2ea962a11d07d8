use Rattle.script_session.proofs.Arms.{on-ok}
use Rattle.script_session.proofs.Piped.{size-taken, size-refused}
use Rattle.script_session.proofs.settings.size_live.Goals as goal

pub returns-in-Ok-clause-held : goal.returns-in-Ok-clause-held
returns-in-Ok-clause-held c = on-ok c.say.result c.say.ensures (λ says k on legal. size-taken c.args.live.now c.set_tag_size.new.self k c.args.line c.args.size _ _ c.in-Ok.ensures.0 c.in-Ok.ensures.1 says on legal)

pub returns-in-Err-clause-held : goal.returns-in-Err-clause-held
returns-in-Err-clause-held c = on-ok c.answer_errno.result c.answer_errno.ensures (λ says k on legal. size-refused c.args.live.now c.set_tag_size.new.self k c.args.line c.args.size _ _ _ c.in-Err.ensures says on legal)
