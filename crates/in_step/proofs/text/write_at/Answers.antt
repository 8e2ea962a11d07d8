use Rattle.std.proofs.Common.{◌∙◌, ◌+◌, ◌++◌, ℕ, List, ap, arith, length, take, drop}
use Rattle.in_step.proofs.Chains.{text_at, text_set, text_others}
use Rattle.in_step.proofs.text.write_at.Goals as goal

pub returns-then-n-texts-clause-text : goal.returns-then-n-texts-clause-text
returns-then-n-texts-clause-text g c =
    text_set g.T.Text.bytes_of c.args.texts.now c.args.n c.write.new.self (omega (arith, c.if-n-texts.true)) ∙ c.write.ensures
    ∙ ap (λ (t : List ℕ). take c.args.at t ++ c.args.from.now ++ drop (c.args.at + length c.args.from.now) t)
    (text_at g.T.Text.bytes_of c.args.texts.now c.args.n c.index-texts-n.result (omega (arith, c.if-n-texts.true)))

pub returns-then-n-texts-clause-others : goal.returns-then-n-texts-clause-others
returns-then-n-texts-clause-others g c = λ k other. text_others g.T.Text.bytes_of c.args.texts.now c.args.n k c.write.new.self other
