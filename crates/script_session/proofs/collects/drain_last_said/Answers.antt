use Rattle.std.proofs.Common.{◌++◌, ap, sym, refl, ◌∙◌, map, length, arith}
use Rattle.std.specs.Prelude.{sum_by}
use Rattle.std.specs.List.{flat_map}
use Rattle.board.specs.Allowance.{accepted_by}
use Rattle.board.specs.HandedOut.{completions}
use Rattle.dialogues.specs.ScriptState.{PipelineState}
use Rattle.reply_text.specs.Answers.{text_of}
use Rattle.recorded_calls.specs.Passes.{known}
use Rattle.recorded_calls.proofs.Boarding.{kept-same}
use Rattle.dialogues.specs.PipelineCommands.{end_said}
use Rattle.script_session.specs.ReplyText.{callback_room}
use Rattle.script_session.specs.CallbackText.{callback_said}
use Rattle.script_session.proofs.Ended.{stays-put}
use Rattle.script_session.proofs.Leading.{drains-none}
use Rattle.script_session.proofs.Moving.{fails}
use Rattle.script_session.proofs.Piped.{from-empty}
use Rattle.script_session.proofs.Rooms.{room-enough}
use Rattle.script_session.proofs.Said.{last-says, last-stays, told-last, told-nothing}
use Rattle.script_session.proofs.Stopping.{moving-nothing, moving-kept}
use Rattle.script_session.proofs.collects.drain_last_said.Goals as goal

pub returns-in_default-clause-moved : goal.returns-in_default-clause-moved
returns-in_default-clause-moved g c =
    last-stays c.args.live.now (known c.args.caller.now) _ _
    (stays-put _ c.args.live.now (known c.args.caller.now) _ c.requires.pipe c.requires.legal (drains-none c.args.live.now.label c.args.live.now.pipe (sym c.in_default.ensures))) refl

pub returns-in_default-clause-told : goal.returns-in_default-clause-told
returns-in_default-clause-told g c = told-nothing (known c.args.caller.now) (known c.args.caller.now) _ _ (kept-same (known c.args.caller.now) c.requires.legal).called refl

pub returns-in_err-reserve-clause-moved : goal.returns-in_err-reserve-clause-moved
returns-in_err-reserve-clause-moved g c = fails c.from_residual.result _ c.from_residual.ensures.0 (moving-nothing _ (known c.args.caller.now))

pub returns-in_err-reserve-clause-told : goal.returns-in_err-reserve-clause-told
returns-in_err-reserve-clause-told g c = told-nothing (known c.args.caller.now) (known c.args.caller.now) _ _ (kept-same (known c.args.caller.now) c.requires.legal).called c.reserve.ensures.text

pub returns-in_err-drain-clause-moved : goal.returns-in_err-drain-clause-moved
returns-in_err-drain-clause-moved g c =
    fails c.from_residual-in_err-drain.result _ c.from_residual-in_err-drain.ensures.0 (moving-kept _ (known c.args.caller.now) (known c.drain.new.self) c.in_err-drain.ensures.drained.2)

pub returns-in_err-drain-clause-told : goal.returns-in_err-drain-clause-told
returns-in_err-drain-clause-told g c = told-nothing (known c.args.caller.now) (known c.drain.new.self) _ _ c.in_err-drain.ensures.drained.2.called c.reserve.ensures.text

pub put_callbacks-requires : goal.put_callbacks-requires
put_callbacks-requires g c =
    let d = c.in_ok-drain.ensures.drained in
    let are = c.as_slice-2.ensures ∙ from-empty c.new-into.result _ _ c.new-into.ensures d.1 in
    let room = room-enough c.count.result c.args.bytes (length c.label-more.result.now) c.collected_room.result c.reserve.new.self.spare (length c.in-Some.pipe.now.lines) (accepted_by (known c.args.caller.now).number (known c.args.caller.now).seen) d.0 c.collected_room.ensures.enough c.in_ok-reserve.ensures.most c.in_ok-reserve.ensures.room
    (c.count.ensures ∙ ap (λ (p : PipelineState). length p.lines) c.pipe-2.view_is) c.requires.bytes d.4 in
    omega (arith, room, ap (sum_by callback_room) are)

pub put_end-requires : goal.put_end-requires
put_end-requires g c =
    let d = c.in_ok-drain.ensures.drained in
    let are = c.as_slice-2.ensures ∙ from-empty c.new-into.result _ _ c.new-into.ensures d.1 in
    let room = room-enough c.count.result c.args.bytes (length c.label-more.result.now) c.collected_room.result c.reserve.new.self.spare (length c.in-Some.pipe.now.lines) (accepted_by (known c.args.caller.now).number (known c.args.caller.now).seen) d.0 c.collected_room.ensures.enough c.in_ok-reserve.ensures.most c.in_ok-reserve.ensures.room
    (c.count.ensures ∙ ap (λ (p : PipelineState). length p.lines) c.pipe-2.view_is) c.requires.bytes d.4 in
    omega (arith, room, c.put_callbacks.ensures.left, ap (sum_by callback_room) are, ap length c.label-more.ensures, ap length c.label.ensures)

pub returns-clause-moved : goal.returns-clause-moved
returns-clause-moved g c =
    let d = c.in_ok-drain.ensures.drained in
    let pipe = c.in-Some.pipe.now in
    let live = c.args.live.now in
    let count = c.count_completions-count.result in
    let a = c.reserve.new.self.text in
    let b = c.put_callbacks.new.reply.text in
    last-says (known c.args.caller.now) (known c.drain.new.self) live c.deliver.new.self pipe count d.0 c.args.reply.now.text a b c.put_end.new.reply.text (sym c.in-Some.ensures) d.2
    (c.count_completions-count.ensures ∙ ap completions (c.as_slice.ensures ∙ from-empty c.new-into.result _ _ c.new-into.ensures d.1)) c.deliver.ensures
    c.reserve.ensures.text
    (c.put_callbacks.ensures.text
    ∙ (ap (λ ls. a ++ flat_map text_of (map (callback_said ls) c.as_slice-2.result.now)) (ap (λ (p : PipelineState). p.lines) c.pipe-2.view_is)
    ∙ ap (λ cs. a ++ flat_map text_of (map (callback_said pipe.lines) cs)) (c.as_slice-2.ensures ∙ from-empty c.new-into.result _ _ c.new-into.ensures d.1)))
    (c.put_end.ensures ∙ ap (λ l. b ++ flat_map text_of (end_said l count)) c.label.ensures)

pub returns-clause-told : goal.returns-clause-told
returns-clause-told g c =
    let d = c.in_ok-drain.ensures.drained in
    let pipe = c.in-Some.pipe.now in
    let count = c.count_completions-count.result in
    let a = c.reserve.new.self.text in
    told-last (known c.args.caller.now) (known c.drain.new.self) pipe c.label.result.now count d.0 c.args.reply.now.text a c.put_callbacks.new.reply.text c.put_end.new.reply.text d.2
    c.reserve.ensures.text
    (c.put_callbacks.ensures.text
    ∙ (ap (λ ls. a ++ flat_map text_of (map (callback_said ls) c.as_slice-2.result.now)) (ap (λ (p : PipelineState). p.lines) c.pipe-2.view_is)
    ∙ ap (λ cs. a ++ flat_map text_of (map (callback_said pipe.lines) cs)) (c.as_slice-2.ensures ∙ from-empty c.new-into.result _ _ c.new-into.ensures d.1)))
    c.put_end.ensures
