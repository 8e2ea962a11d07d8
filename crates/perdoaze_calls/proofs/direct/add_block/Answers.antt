use Rattle.std.proofs.Common.{ℕ, ◌∙◌, arith, get_or, bit_xor}
use Rattle.std.proofs.lemmas.List.FromFn.{fill_by_all}
use Rattle.std.proofs.lemmas.Nat.{xor_comm}
use Rattle.std_defs.specs.Blocks.{xor_blocks}
use Rattle.perdoaze_calls.proofs.direct.add_block.Goals as goal

pub returns : goal.returns
unfolding xor_blocks
returns c =
    fill_by_all (λ (k : ℕ). bit_xor (get_or c.args.b.now k 0) (get_or c.args.chain.now k 0)) c.xor_block.new.text 16 0 (c.xor_block.auto.text ∙ c.told-chain)
    (λ k below. c.xor_block.ensures k (omega arith) ∙ xor_comm (get_or c.args.chain.now k 0) (get_or c.args.b.now k 0))
