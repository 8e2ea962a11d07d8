use Rattle.std.proofs.Common.{◌∙◌, true, rules}
use Rattle.std.specs.Prelude.{◌&&◌}
use Rattle.std.proofs.lemmas.Iterator.{YieldsList-from_slice}
use Rattle.std.proofs.lemmas.Iterator.Consumers.{fold_from_yields_List}
use borrow.Author.Tests.{tests}
use Rattle.hex.specs.Hex.{is_hex_digit}
use Rattle.script_text.proofs.PlaceLemmas.{all_folded}
use Rattle.script_text.proofs.HexLemmas.{hex_digit_in}
use Rattle.script_text.proofs.hexadecimal.are_hex_digits.Goals as goal

pub returns : goal.returns
returns c =
    fold_from_yields_List _ (λ all b. all && is_hex_digit b) true _ c.fold.ensures.ran (YieldsList-from_slice c.args.text.now cc) (λ a x b q k. search (rules, tests, hex_digit_in))
    ∙ all_folded is_hex_digit true c.args.text.now
