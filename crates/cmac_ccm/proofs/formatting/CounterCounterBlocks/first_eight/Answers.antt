use Rattle.std.proofs.Common.{◌∙◌, refl, arith}
use Rattle.cmac_ccm.proofs.Fields.{cons, same_counter}
use Rattle.cmac_ccm.proofs.formatting.CounterCounterBlocks.first_eight.Goals as goal

pub returns : goal.returns
returns c =
    cons (c.counter_block.ensures ∙ same_counter c.args.self.now.iv _ _ c.args.self.now.taken (omega arith))
    (cons (c.counter_block-2.ensures ∙ same_counter c.args.self.now.iv _ _ c.args.self.now.taken (omega arith))
    (cons (c.counter_block-3.ensures ∙ same_counter c.args.self.now.iv _ _ c.args.self.now.taken (omega arith))
    (cons (c.counter_block-4.ensures ∙ same_counter c.args.self.now.iv _ _ c.args.self.now.taken (omega arith))
    (cons (c.counter_block-5.ensures ∙ same_counter c.args.self.now.iv _ _ c.args.self.now.taken (omega arith))
    (cons (c.counter_block-6.ensures ∙ same_counter c.args.self.now.iv _ _ c.args.self.now.taken (omega arith))
    (cons (c.counter_block-7.ensures ∙ same_counter c.args.self.now.iv _ _ c.args.self.now.taken (omega arith))
    (cons (c.counter_block-8.ensures ∙ same_counter c.args.self.now.iv _ _ c.args.self.now.taken (omega arith)) refl)))))))
