use Rattle.std.proofs.Common.{◌-◌, length, take, ap, arith}
use Rattle.script_text.proofs.ShortLemmas.{said_short, without_return_le}
use Rattle.script_text.proofs.line_parser.read_line.Goals as goal

pub returns-in-10-clause-short : goal.returns-in-10-clause-short
returns-in-10-clause-short c =
    let before = take (length c.args.line.now - 1) c.args.line.now in
    let kept = without_return_le before in
    said_short (length before) c.text_before_feed.result.now _ (omega (arith, ap length c.text_before_feed.ensures, kept)) c.read_text.ensures

pub returns-in_default-clause-short : goal.returns-in_default-clause-short
returns-in_default-clause-short c = said_short (length c.args.line.now) c.args.line.now _ (omega arith) c.read_text-in_default.ensures
