use Rattle.std.specs.Prelude.{List, ℕ, slice_index, take, bit_xor}
use Rattle.std.proofs.Common.{◌∙◌, ap, arith, length-take}
use Rattle.std.proofs.lemmas.List.{get_or-take}
use Rattle.std.proofs.lemmas.Simd.{get_or-zip2}
use Rattle.ctr_mode.proofs.key_stream.xor_whole.Goals as goal

pub returns : goal.returns
returns c k h =
    let text = c.args.text.now in
    let block = c.args.block.now in
    ap (λ (v : List ℕ). slice_index v k) c.copy_from_slice.ensures.after
    ∙ get_or-zip2 bit_xor (take 16 text) block k 0 0 0 (omega (arith, h, c.requires, length-take 16 text)) (omega (arith, h, c.requires, c.told-block))
    ∙ ap (λ (a : ℕ). bit_xor a (slice_index block k)) (get_or-take 16 text k 0 (omega (arith, h, c.requires)))
