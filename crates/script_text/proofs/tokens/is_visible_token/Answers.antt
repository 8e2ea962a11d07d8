use Rattle.std.proofs.Common.{◌∙◌, true, rules}
use Rattle.std.specs.Prelude.{◌&&◌}
use Rattle.std.proofs.lemmas.Iterator.{YieldsList-from_slice}
use Rattle.std.proofs.lemmas.Iterator.Consumers.{fold_from_yields_List}
use borrow.Author.Tests.{tests}
use Rattle.script_text.specs.Tokens.{is_visible}
use Rattle.script_text.proofs.PlaceLemmas.{all_folded}
use Rattle.script_text.proofs.tokens.is_visible_token.Goals as goal

pub returns : goal.returns
returns c =
    fold_from_yields_List _ (λ all b. all && is_visible b) true _ c.fold.ensures.ran (YieldsList-from_slice c.args.token.now cc) (λ a x b q k. search (rules, tests))
    ∙ all_folded is_visible true c.args.token.now
