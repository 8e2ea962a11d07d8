use Rattle.script_text.proofs.CuttingLemmas.{line-to-feed, line-to-end}
use Rattle.script_text.proofs.split.line_len.Goals as goal

pub returns-in-Some-clause-line : goal.returns-in-Some-clause-line
returns-in-Some-clause-line c = line-to-feed c.args.bytes.now c.in-Some.place c.in-Some.ensures

pub returns-in-None-clause-line : goal.returns-in-None-clause-line
returns-in-None-clause-line c = line-to-end c.args.bytes.now c.requires c.in-None.ensures
