use Rattle.std.proofs.Common.{◌++◌, map, take, ap, sym, ◌∙◌, arith, append_assoc}
use Rattle.std.specs.List.{flat_map}
use Rattle.reply_text.specs.Answers.{text_of}
use Rattle.script_session.specs.ReplyText.{callback_room}
use Rattle.script_session.specs.CallbackText.{callback_said}
use Rattle.script_session.proofs.Rooms.{room-more, room-within, said-more}
use Rattle.script_session.proofs.callbacks.put_callbacks.Goals as goal

pub put_callback-requires : goal.put_callback-requires
put_callback-requires c =
    let within = room-within c.args.callbacks.now c.loop-callback.callback-index c.callback-item.result c.loop-callback-test.true in
    omega (arith, within, ap callback_room c.callback-item.is, c.loop-callback.invariant.1, c.requires)

pub loop-callback-preserved : goal.loop-callback-preserved
loop-callback-preserved c =
    let lines = c.args.lines.now in
    let callbacks = c.args.callbacks.now in
    let i = c.loop-callback.callback-index in
    let item = c.callback-item.result in
    let text = c.args.reply.now.text in
    let told = flat_map text_of (map (callback_said lines) (take i callbacks)) in (
      c.put_callback.ensures.text
          ∙ (ap (λ x. x ++ text_of (callback_said lines item)) c.loop-callback.invariant.0
          ∙ (append_assoc text told (text_of (callback_said lines item))
          ∙ ap (λ x. text ++ x) (ap (λ x. told ++ text_of (callback_said lines x)) c.callback-item.is ∙ sym (said-more lines callbacks i item c.loop-callback-test.true)))),
      omega (arith, room-more callbacks i item c.loop-callback-test.true, ap callback_room c.callback-item.is, c.loop-callback.invariant.1, c.put_callback.ensures.left),
    )
