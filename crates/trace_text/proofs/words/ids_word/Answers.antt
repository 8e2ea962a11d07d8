use Rattle.trace_text.proofs.FittingIds.{fit_where_ok}
use Rattle.trace_text.proofs.words.ids_word.Goals as goal

pub returns-in-len1-up-clause-fits : goal.returns-in-len1-up-clause-fits
returns-in-len1-up-clause-fits c = fit_where_ok c.more_ids.result c.args.ids.now c.type_inv.ids
