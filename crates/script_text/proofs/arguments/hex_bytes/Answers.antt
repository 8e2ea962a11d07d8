use Rattle.std.proofs.Common.{◌≡◌, ◌∙◌, sym, ap, List, ℕ, Some, rules}
use Rattle.std.proofs.lemmas.List.{take_at}
use Rattle.std.specs.Result.{result_ok}
use Rattle.hex.specs.Hex.{decode_of}
use Rattle.script_text.specs.Arguments.{hex_of}
use Rattle.script_text.proofs.HexLemmas.{spelled, not_spelled}
use Rattle.script_text.proofs.PartLemmas.{hex_by_digits}
use Rattle.script_text.proofs.arguments.hex_bytes.Goals as goal

pub returns-then-not-are_pairs : goal.returns-then-not-are_pairs
returns-then-not-are_pairs c = λ _.
    hex_by_digits c.args.token.now
    ∙ ap (λ (digits : List ℕ). result_ok (decode_of digits)) (sym c.digits_of-digits.ensures)
    ∙ not_spelled c.digits_of-digits.result.now (sym c.are_pairs.ensures ∙ c.if-not-are_pairs.true)

pub returns : goal.returns
returns c =
    let digits = c.digits_of-digits.result.now in
    let is : hex_of c.args.token.now ≡ Some c.write_bytes.new.bytes =
    hex_by_digits c.args.token.now
    ∙ ap (λ (digits : List ℕ). result_ok (decode_of digits)) (sym c.digits_of-digits.ensures)
    ∙ spelled digits c.write_bytes.new.bytes (sym c.are_pairs.ensures ∙ c.if-not-are_pairs.false) c.write_bytes.ensures in
    let long = c.write_bytes.auto.bytes in
    is ∙ ap Some (sym (c.from_vec.ensures ∙ take_at c.write_bytes.new.bytes _ c.resize.new.self.len (search rules)))
