use Rattle.std.proofs.Common.{◌≡◌, ◌+◌, ◌≤◌, ◌++◌, map, take}
use Rattle.std.specs.Prelude.{sum_by}
use Rattle.std.specs.List.{flat_map}
use Rattle.reply_text.specs.Answers.{text_of}
use Rattle.script_session.specs.ReplyText.{callback_room}
use Rattle.script_session.specs.CallbackText.{callback_said}
use Rattle.script_session.proofs.callbacks.put_callbacks.Given as goal

abbrev pub invariant-loop-callback : goal.invariant-loop-callback
invariant-loop-callback l =
    (l.reply.text ≡ l.fn.reply.text ++ flat_map text_of (map (callback_said l.lines) (take l.callback-index l.callbacks)))
    × (l.fn.reply.spare ≤ l.reply.spare + sum_by callback_room (take l.callback-index l.callbacks))
