use Rattle.perdoaze_calls.proofs.Answering.{opened_in_front}
use Rattle.perdoaze_calls.proofs.requests.open_front.Goals as goal

pub returns-clause-opened : goal.returns-clause-opened
returns-clause-opened c =
    opened_in_front c.args.keyed.now c.args.iv.now c.args.aad.now c.open_whole.result c.args.buffer.now _ _ c.open_whole.new.whole c.args.n c.args.tag_size
    c.requires.tag_within c.requires.within c.split_at_mut-whole.ensures.front c.split_at_mut-whole.ensures.back c.open_whole.ensures.len c.open_whole.ensures.opened
