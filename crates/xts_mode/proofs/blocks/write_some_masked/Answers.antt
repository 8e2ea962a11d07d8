use Rattle.std.proofs.Common.{◌≡◌, ◌∙◌, ℕ, List, [], ◌++◌, ◌*◌, ◌/◌, refl, ap, ap₂, arith, length, slice_index_or}
use Rattle.std.proofs.lemmas.List.{append-nil, drop_all}
use Rattle.std_defs.specs.Blocks.{xor_blocks, joined}
use Rattle.std_defs.proofs.Joined.{block_made}
use Rattle.xts_mode.proofs.blocks.write_some_masked.Goals as goal

pub loop-j-init : goal.loop-j-init
unfolding joined
loop-j-init c = refl

pub loop-j-preserved : goal.loop-j-preserved
loop-j-preserved c =
    block_made (λ k. xor_blocks (slice_index_or c.args.blocks.now k []) (slice_index_or c.args.masks.now k [])) c.args.text.now c.loop-j.text c.loop-j.j c.copy_from_slice.new.self
    c.loop-j.invariant c.loop-j.auto.text (c.copy_from_slice.ensures.after ∙ c.add_mask.ensures) (omega arith)

pub returns : goal.returns
returns c =
    let blocks : ℕ → List ℕ = λ k. xor_blocks (slice_index_or c.args.blocks.now k []) (slice_index_or c.args.masks.now k []) in
    let at_end : c.loop-j.j ≡ length c.args.text.now / 16 = omega arith in
    c.loop-j.invariant
    ∙ ap₂ (λ (x y : List ℕ). x ++ y) (ap (joined blocks) at_end) (drop_all (16 * c.loop-j.j) c.args.text.now (omega (arith, c.requires.whole)))
    ∙ append-nil (joined blocks (length c.args.text.now / 16))
