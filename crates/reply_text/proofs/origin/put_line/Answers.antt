use Rattle.std.proofs.Common.{rules, arith}
use Rattle.reply_text.proofs.OriginLemmas.{ten-digits}
use Rattle.reply_text.proofs.origin.put_line.Goals as goal

pub write_digits-requires : goal.write_digits-requires
write_digits-requires c = search (rules, ten-digits c.args.line c.ranges.line.fits)

pub returns-clause-start : goal.returns-clause-start
returns-clause-start c = (omega (arith, ten-digits c.from.result (omega (arith, c.from.ensures, c.ranges.line.fits)), c.write_digits.ensures.start), omega (arith, c.write_digits.ensures.start))
