use Rattle.std.proofs.Common.{rules}
use Rattle.reply_text.proofs.OriginLemmas.{ten-digits}
use Rattle.reply_text.proofs.origin.put_client.Goals as goal

pub write_digits-requires : goal.write_digits-requires
write_digits-requires c = search (rules, ten-digits c.args.client c.ranges.client.fits)
