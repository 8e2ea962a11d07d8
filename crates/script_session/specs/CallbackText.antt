-- What a line says of what a pipeline tells.
use Rattle.std.specs.Prelude.{List}
use Rattle.kc_base.specs.declared.callback_list.Callback.{Callback}
use Rattle.kc_base.specs.declared.callback_list.Callback.TheVariants as callback
use Rattle.transforms.specs.declared.request.Finished.{Finished}
use Rattle.reply_text.specs.declared.answers.Answer.{Answer}
use Rattle.reply_text.specs.declared.origin.Origin.{Origin}
use Rattle.reply_text.specs.declared.answers.Answer.TheVariants as said
use Rattle.dialogues.specs.PipelineCommands.{completion_said}
use Rattle.recorded_calls.specs.Pipelines.{origin_at}

-- a callback, under the line of its request
abbrev pub callback_said : List Origin → Callback Finished → Answer
callback_said lines (callback.Started number) = said.Started (origin_at lines number)
callback_said lines (callback.Done number finished) = completion_said (origin_at lines number) finished
