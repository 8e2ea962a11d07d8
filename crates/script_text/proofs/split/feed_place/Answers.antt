use Rattle.script_text.proofs.PendingLemmas.{feed_found}
use Rattle.script_text.proofs.split.feed_place.Goals as goal

pub returns : goal.returns
returns c = feed_found c.args.bytes.now c.memchr.result c.memchr.ensures
