use Rattle.std.proofs.Common.{sym, ◌∙◌, rules}
use Rattle.std.specs.List.{list_all}
use Rattle.std.proofs.lemmas.Iterator.{YieldsList-from_slice}
use Rattle.std.proofs.lemmas.Iterator.Search.{all_from_yields_List}
use Rattle.std.proofs.lemmas.List.Folds.{list_all-map}
use borrow.Author.Tests.{tests}
use Rattle.script_text.specs.Tokens.{is_visible}
use Rattle.script_text.proofs.tokens.are_visible.Goals as goal

pub returns : goal.returns
returns c =
    all_from_yields_List (λ token. list_all is_visible token.now) _ _ _ c.all.ensures.ran (YieldsList-from_slice c.args.tokens.now cc) (λ x b q k. search (rules, tests))
    ∙ sym (list_all-map (list_all is_visible) (λ token. token.now) c.args.tokens.now)
