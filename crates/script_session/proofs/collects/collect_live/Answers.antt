use Rattle.std.proofs.Common.{ap, sym, ◌∙◌, ◌++◌, map, length, arith}
use Rattle.std.specs.Prelude.{sum_by}
use Rattle.std.specs.List.{flat_map}
use Rattle.board.specs.Allowance.{accepted_by}
use Rattle.board.specs.HandedOut.{completions}
use Rattle.dialogues.specs.ScriptState.{PipelineState}
use Rattle.reply_text.specs.Answers.{text_of}
use Rattle.recorded_calls.specs.Passes.{known}
use Rattle.script_session.specs.ReplyText.{callback_room}
use Rattle.script_session.specs.CallbackText.{callback_said}
use Rattle.script_session.proofs.Moving.{fails}
use Rattle.script_session.proofs.Piped.{from-empty, collect-none, collect-held, may-deliver-polled}
use Rattle.script_session.proofs.Rooms.{room-enough, collected-length}
use Rattle.script_session.proofs.Said.{or-breaks, breaks-same, breaks-kept, one-says, collect-says}
use Rattle.script_session.proofs.collects.collect_live.Goals as goal

pub returns-in_default-clause-held : goal.returns-in_default-clause-held
returns-in_default-clause-held g c =
    or-breaks c.put_one.result c.put_one.ensures.ok c.put_one.ensures.err
    (λ says. one-says _ c.args.live.now (known c.args.caller.now) _ _ _ c.requires.pipe c.requires.legal (λ script_state found posted. collect-none c.args.waits script_state c.args.line c.args.live.now (sym c.in_default.ensures) found)
    (says ∙ ap (λ a. c.args.reply.now.text ++ text_of a) c.collected.ensures))
    (breaks-same _ _ _ c.requires.legal)

pub returns-then-never_ends-clause-held : goal.returns-then-never_ends-clause-held
returns-then-never_ends-clause-held g c =
    or-breaks c.put_one-then-never_ends.result c.put_one-then-never_ends.ensures.ok c.put_one-then-never_ends.ensures.err
    (one-says _ c.args.live.now (known c.args.caller.now) _ _ _ c.requires.pipe c.requires.legal
    (λ script_state found posted. collect-held c.args.waits script_state c.args.line c.args.live.now c.in-Some.pipe.now (sym c.in-Some.ensures) (sym c.never_ends.ensures ∙ c.if-never_ends.true) found))
    (breaks-same _ _ _ c.requires.legal)

pub returns-in_err-reserve-clause-held : goal.returns-in_err-reserve-clause-held
returns-in_err-reserve-clause-held g c =
    fails c.from_residual.result _ c.from_residual.ensures.0 (breaks-same (known c.args.caller.now) _ _ c.requires.legal c.reserve.ensures.text)

pub returns-in_err-collect_pipe-clause-held : goal.returns-in_err-collect_pipe-clause-held
returns-in_err-collect_pipe-clause-held g c =
    fails c.from_residual-in_err-collect_pipe.result _ c.from_residual-in_err-collect_pipe.ensures.0
    (breaks-kept (known c.args.caller.now) (known c.collect_pipe.new.caller) _ _ c.in_err-collect_pipe.ensures.collected c.reserve.ensures.text)

pub put_callbacks-requires : goal.put_callbacks-requires
put_callbacks-requires g c =
    let d = c.in_ok-collect_pipe.ensures.collected in
    let are = c.as_slice-2.ensures ∙ from-empty c.new-into.result _ _ c.new-into.ensures d.added in
    let room = room-enough c.count.result c.args.bytes 0 c.collected_room.result c.reserve.new.self.spare (length c.in-Some.pipe.now.lines) (accepted_by (known c.args.caller.now).number (known c.args.caller.now).seen) d.callbacks c.collected_room.ensures.enough c.in_ok-reserve.ensures.most c.in_ok-reserve.ensures.room
    (c.count.ensures ∙ ap (λ (p : PipelineState). length p.lines) c.pipe-2.view_is) c.requires.bytes d.within in
    omega (arith, room, ap (sum_by callback_room) are)

pub put_short-requires : goal.put_short-requires
put_short-requires g c =
    let d = c.in_ok-collect_pipe.ensures.collected in
    let are = c.as_slice-2.ensures ∙ from-empty c.new-into.result _ _ c.new-into.ensures d.added in
    let room = room-enough c.count.result c.args.bytes 0 c.collected_room.result c.reserve.new.self.spare (length c.in-Some.pipe.now.lines) (accepted_by (known c.args.caller.now).number (known c.args.caller.now).seen) d.callbacks c.collected_room.ensures.enough c.in_ok-reserve.ensures.most c.in_ok-reserve.ensures.room
    (c.count.ensures ∙ ap (λ (p : PipelineState). length p.lines) c.pipe-2.view_is) c.requires.bytes d.within in
    let line = collected-length c.args.waits c.args.line c.count_completions-count.result (omega arith) (omega arith) in
    omega (arith, room, line, c.put_callbacks.ensures.left, ap (sum_by callback_room) are, ap (λ a. length (text_of a)) c.collected-2.ensures)

pub deliver-requires : goal.deliver-requires
deliver-requires g c =
    let d = c.in_ok-collect_pipe.ensures.collected in
    may-deliver-polled c.only_collects_hand_out.ensures.most (known c.args.caller.now) (known c.collect_pipe.new.caller) c.args.live.now c.in-Some.pipe.now c.count_completions-count.result d.callbacks d.all (sym c.in-Some.ensures) d.polled
    (c.count_completions-count.ensures ∙ ap completions (c.as_slice.ensures ∙ from-empty c.new-into.result _ _ c.new-into.ensures d.added))

pub returns-clause-held : goal.returns-clause-held
returns-clause-held g c =
    let d = c.in_ok-collect_pipe.ensures.collected in
    let pipe = c.in-Some.pipe.now in
    let a = c.reserve.new.self.text in
    collect-says c.args.waits (known c.args.caller.now) (known c.collect_pipe.new.caller) c.args.live.now c.deliver.new.self pipe c.args.line c.count_completions-count.result d.callbacks d.all
    c.args.reply.now.text a c.put_callbacks.new.reply.text c.put_short.new.reply.text (sym c.in-Some.ensures) (sym c.never_ends.ensures ∙ c.if-never_ends.false) d.whole d.polled
    (c.count_completions-count.ensures ∙ ap completions (c.as_slice.ensures ∙ from-empty c.new-into.result _ _ c.new-into.ensures d.added)) c.deliver.ensures
    c.reserve.ensures.text
    (c.put_callbacks.ensures.text
    ∙ (ap (λ ls. a ++ flat_map text_of (map (callback_said ls) c.as_slice-2.result.now)) (ap (λ (p : PipelineState). p.lines) c.pipe-2.view_is)
    ∙ ap (λ cs. a ++ flat_map text_of (map (callback_said pipe.lines) cs)) (c.as_slice-2.ensures ∙ from-empty c.new-into.result _ _ c.new-into.ensures d.added)))
    (c.put_short.ensures.text ∙ ap (λ x. c.put_callbacks.new.reply.text ++ text_of x) c.collected-2.ensures)
