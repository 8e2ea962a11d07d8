use Rattle.std.proofs.Common.{◌∙◌, ◌++◌, ℕ, List, ap, ap₂, drop, length}
use Rattle.std_defs.specs.Blocks.{xor_blocks}
use Rattle.std_defs.proofs.Joined.{xor_blocks-length}
use Rattle.perdoaze_calls.proofs.macs.add_chain.Goals as goal

pub returns : goal.returns
returns c =
    let sum = c.add_block.ensures ∙ ap (xor_blocks c.args.chain.now) c.block_at.ensures in
    c.copy_front.ensures
    ∙ ap₂ (λ (b : List ℕ) (k : ℕ). b ++ drop k c.args.bytes.now) sum (ap length c.add_block.ensures ∙ xor_blocks-length c.args.chain.now c.block_at.result)
