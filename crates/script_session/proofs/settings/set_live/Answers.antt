use Rattle.std.proofs.Common.{[], OnOk, subst}
use Rattle.board.specs.declared.entry.BoardEntry.{BoardEntry}
use Rattle.board.specs.Legal.{LegalBoard}
use Rattle.transforms.specs.declared.ask.Ask.{Ask}
use Rattle.turn_lock.specs.Turns.{Known}
use Rattle.dialogues.specs.RequestCommands.{set_key}
use Rattle.recorded_calls.specs.Passes.{known}
use Rattle.script_session.specs.TransformChanges.{PerformsFor}
use Rattle.script_session.specs.States.{HasPipe}
use Rattle.script_session.specs.declared.settings.Setting.TheVariants as set
use Rattle.script_session.proofs.Arms.{or-stops}
use Rattle.script_session.proofs.Piped.{setting-arm}
use Rattle.script_session.proofs.Stopping.{for-nothing}
use Rattle.script_session.proofs.settings.set_live.Goals as goal

pub returns-in-Key-clause-held : goal.returns-in-Key-clause-held
returns-in-Key-clause-held g c =
    let k = known c.args.caller.now in
    let live = c.args.live.now in
    setting-arm c.key_live.result c.args.workers c.args.line live c.key_live.new.live k k c.args.setting (set.Key c.in-Key.key) _ _ c.in-Key.is
    (or-stops c.key_live.result
    (subst (λ x. OnOk c.key_live.result ((k : Known (BoardEntry Ask)) → HasPipe k live.pipe → LegalBoard k.seen → PerformsFor (λ script_state. set_key script_state c.args.line live.label x) live c.key_live.new.live k k [] c.args.answers.now.items c.key_live.new.answers.items)) c.as_slice.ensures c.key_live.ensures.held)
    (λ f. f k c.requires.pipe c.requires.legal) (for-nothing _ live k))

pub returns-in-TagSize-clause-held : goal.returns-in-TagSize-clause-held
returns-in-TagSize-clause-held g c =
    let k = known c.args.caller.now in
    let live = c.args.live.now in
    setting-arm c.size_live.result c.args.workers c.args.line live c.size_live.new.live k k c.args.setting (set.TagSize c.in-TagSize.size) _ _ c.in-TagSize.is
    (or-stops c.size_live.result c.size_live.ensures.held (λ f. f k c.requires.pipe c.requires.legal) (for-nothing _ live k))

pub returns-in-Mask-clause-held : goal.returns-in-Mask-clause-held
returns-in-Mask-clause-held g c =
    setting-arm c.mask_live.result c.args.workers c.args.line c.args.live.now c.mask_live.new.live (known c.args.caller.now) (known c.mask_live.new.caller) c.args.setting (set.Mask c.in-Mask.bits) _ _ c.in-Mask.is c.mask_live.ensures.held

pub returns-in-Held-clause-held : goal.returns-in-Held-clause-held
returns-in-Held-clause-held g c =
    setting-arm c.hold_live.result c.args.workers c.args.line c.args.live.now c.hold_live.new.live (known c.args.caller.now) (known c.hold_live.new.caller) c.args.setting (set.Held c.in-Held.held) _ _ c.in-Held.is c.hold_live.ensures.held
