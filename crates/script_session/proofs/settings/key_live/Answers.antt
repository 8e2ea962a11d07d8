use Rattle.script_session.proofs.Arms.{on-ok}
use Rattle.script_session.proofs.Piped.{key-taken, key-refused}
use Rattle.script_session.proofs.settings.key_live.Goals as goal

pub returns-in-Ok-clause-held : goal.returns-in-Ok-clause-held
returns-in-Ok-clause-held c = on-ok c.say.result c.say.ensures (λ says k on legal. key-taken c.args.live.now c.set_key.new.self k c.args.line c.args.key.now _ _ c.in-Ok.ensures.0 c.in-Ok.ensures.1 says on legal)

pub returns-in-Err-Inval-clause-held : goal.returns-in-Err-Inval-clause-held
returns-in-Err-Inval-clause-held c =
    on-ok c.answer_errno.result c.answer_errno.ensures (λ says k on legal. key-refused c.args.live.now c.set_key.new.self k c.args.line c.args.key.now _ _ _ c.in-Err-Inval.field-0-is c.in-Err-Inval.ensures says on legal)
