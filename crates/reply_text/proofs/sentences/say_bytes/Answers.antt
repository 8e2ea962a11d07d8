use Rattle.std.proofs.Common.{rules, arith, ◌≡◌, [], ◌++◌, ◌∙◌, ap}
use Rattle.reply_text.proofs.SentenceLemmas.{digits_said, digits_line_length}
use Rattle.reply_text.proofs.sentences.say_bytes.Goals as goal

pub returns-in_err-reserve : goal.returns-in_err-reserve
returns-in_err-reserve c =
    let some : ¬ (c.args.bytes.now ≡ []) = λ none. grind (arith, none) in
    search (rules, digits_line_length c.args.first.now c.args.word.now c.args.bytes.now some)

pub returns : goal.returns
returns c =
    let some : ¬ (c.args.bytes.now ≡ []) = λ none. grind (arith, none) in
    let text = digits_said c.args.reply.now.text c.args.first.now c.args.word.now c.args.bytes.now c.append-5.new.self.text _ _ _ _ _ some
    (c.append.ensures.text ∙ ap (λ t. t ++ c.args.first.now) c.reserve.ensures.text) c.append-2.ensures.text c.append-3.ensures.text c.append-4.ensures.text c.append_digits.ensures.text c.append-5.ensures.text in
    (text, search (rules, digits_line_length c.args.first.now c.args.word.now c.args.bytes.now some))
