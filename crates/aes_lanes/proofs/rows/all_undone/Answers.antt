use Rattle.std.specs.Prelude.{[], ◌∷◌}
use Rattle.std.proofs.Common.{◌∙◌, sym, arith}
use Rattle.std_defs.specs.Aes.{inverse_sbox}
use Rattle.aes_lanes.specs.Tower.{state_byte, term_byte}
use Rattle.aes_lanes.specs.Rows.{eight_blocks}
use Rattle.aes_lanes.proofs.Transposed.{mapped_blocks, mapped_twice}
use Rattle.aes_lanes.proofs.rows.all_undone.Goals as goal

pub returns : goal.returns
returns c =
    let s = c.args.s in
    mapped_blocks term_byte c.undone.result c.undone-2.result c.undone-3.result c.undone-4.result (omega arith) (omega arith) (omega arith) (omega arith)
    ∙ (λ j. eight_blocks (c.undone.ensures j ∷ c.undone-2.ensures j ∷ c.undone-3.ensures j ∷ c.undone-4.ensures j ∷ []))
    ∙ sym (mapped_twice inverse_sbox state_byte s.first s.second s.third s.fourth (omega arith) (omega arith) (omega arith) (omega arith))
