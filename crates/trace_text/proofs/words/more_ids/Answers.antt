use Rattle.std.proofs.Common.{arith, ◌∙◌}
use Rattle.trace_text.proofs.SentenceLemmas.{next_id}
use Rattle.trace_text.proofs.words.more_ids.Goals as goal

pub loop-id-preserved : goal.loop-id-preserved
loop-id-preserved c =
    next_id c.loop-id.text c.push.new.self c.append.new.self c.as_bytes-in-loop-id.result.now c.args.first c.args.others.now c.loop-id.id-index 0 (omega arith)
    c.loop-id.invariant c.in_ok-push.ensures.ok (c.as_bytes-in-loop-id.ensures.value ∙ c.in_ok-to_string-2.ensures.ok) c.in_ok-append.ensures.ok
