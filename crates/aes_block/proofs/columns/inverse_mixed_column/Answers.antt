use Rattle.std.proofs.Common.{arith, ap, ◌∙◌}
use Rattle.std_defs.specs.Aes.{mul8}
use Rattle.aes_block.proofs.Mixing.{column_mixed_back}
use Rattle.aes_block.proofs.columns.inverse_mixed_column.Goals as goal

pub returns : goal.returns
returns c =
    c.mixed_column.ensures
    ∙ column_mixed_back c.args.a c.args.b c.args.c c.args.d _ _ (omega arith) (omega arith) (omega arith) (omega arith)
    (c.double-u.ensures ∙ ap (mul8 2) c.double.ensures) (c.double-v.ensures ∙ ap (mul8 2) c.double-2.ensures)
