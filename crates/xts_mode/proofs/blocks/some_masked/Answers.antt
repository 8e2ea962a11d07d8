use Rattle.std.proofs.Common.{◌≡◌, ◌∙◌, ℕ, List, [], ◌+◌, ◌-◌, ◌*◌, refl, ap, arith, slice_index_or, take, drop}
use Rattle.std_defs.specs.Blocks.{xor_blocks, text_block}
use Rattle.xts_mode.proofs.Eight.{filled_none, filled_more}
use Rattle.xts_mode.proofs.blocks.some_masked.Goals as goal

pub loop-j-init : goal.loop-j-init
loop-j-init c = filled_none _ _ refl

pub loop-j-preserved : goal.loop-j-preserved
unfolding text_block
loop-j-preserved c =
    let wide : 16 * c.loop-j.j + 16 - 16 * c.loop-j.j ≡ 16 = omega arith in
    filled_more _ _ c.loop-j.j c.add_mask.new.block c.loop-j.invariant (omega arith)
    (c.add_mask.ensures ∙ ap (λ (t : List ℕ). xor_blocks t (slice_index_or c.args.masks.now c.loop-j.j []))
    (c.copy_from_slice.ensures.after ∙ ap (λ (k : ℕ). take k (drop (16 * c.loop-j.j) c.args.text.now)) wide))

pub returns : goal.returns
returns c = λ j below. c.loop-j.invariant.made j (omega arith)
