use Rattle.std.proofs.Common.{ap, ◌∙◌}
use Rattle.std_defs.specs.Blocks.{block_number}
use Rattle.ctr_mode.proofs.Growing.{on_none, nothing}
use Rattle.ctr_mode.proofs.text.CtrText.new.Goals as goal

pub returns : goal.returns
returns c = λ sealed. (
  on_none (block_number c.args.first) c.new.result.0.next c.new.result.1 (ap (λ s. s.0.next) c.new.ensures ∙ c.from_block.ensures) (ap (λ s. s.1) c.new.ensures),
  nothing sealed c.args.first,
)
