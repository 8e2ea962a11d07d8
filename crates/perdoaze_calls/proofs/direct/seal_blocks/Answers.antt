use Rattle.std.proofs.Common.{◌≡◌, ℕ, suc, List, ◌+◌, ◌*◌, ◌/◌, ◌≤◌, ◌++◌, drop, length, arith, refl, ap, ap₂, ◌∙◌, add-one}
use Rattle.std_defs.specs.Blocks.{xor_blocks, joined}
use Rattle.std_defs.specs.Modes.{cbc_block}
use Rattle.cbc_mode.proofs.InPlace.{one_more}
use Rattle.perdoaze_calls.proofs.direct.seal_blocks.Goals as goal

pub loop-i-init : goal.loop-i-init
unfolding joined cbc_block
loop-i-init g c = record { made = refl; last = refl }

pub loop-i-preserved : goal.loop-i-preserved
unfolding cbc_block
loop-i-preserved g c =
    let sealed : List ℕ → List ℕ = g.C.BlockCipher.sealed c.args.cipher.now in
    let blocks : ℕ → List ℕ = λ j. cbc_block sealed c.args.iv.now c.args.from.now (suc j) in
    let within : 16 * c.loop-i.i + 16 ≤ length c.args.into.now = omega (arith, c.requires.room) in
    let block : c.seal_block.new.b ≡ blocks c.loop-i.i =
    c.seal_block.ensures ∙ ap sealed (c.add_block.ensures ∙ ap₂ xor_blocks c.block_at.ensures c.loop-i.invariant.last) in
    record {
      made = one_more c.args.into.now c.loop-i.into blocks c.loop-i.i c.loop-i.invariant.made c.loop-i.auto.into c.copy_from_slice.new.self (c.copy_from_slice.ensures.after ∙ block) within;
      last = rw add-one block;
    }

pub returns : goal.returns
returns g c =
    let blocks : ℕ → List ℕ = λ j. cbc_block (g.C.BlockCipher.sealed c.args.cipher.now) c.args.iv.now c.args.from.now (suc j) in
    let at_end : c.loop-i.i ≡ length c.args.from.now / 16 = omega (arith, c.loop-i-test.false, c.loop-i.auto.i-end) in
    let past : 16 * c.loop-i.i ≡ length c.args.from.now = omega (arith, c.requires.whole, c.loop-i-test.false, c.loop-i.auto.i-end) in
    c.loop-i.invariant.made ∙ ap₂ (λ (k m : ℕ). joined blocks k ++ drop m c.args.into.now) at_end past
