use Rattle.std.proofs.Common.{◌≡◌, ℕ, List, [], ◌+◌, ◌*◌, ◌/◌, ◌≤◌, length, get_or, arith, refl, ap, ap₂, ◌∙◌, add-one}
use Rattle.std_defs.specs.Blocks.{xor_blocks, text_block, joined}
use Rattle.std_defs.specs.Modes.{cbc_before, cbc_plain_block}
use Rattle.cbc_mode.proofs.Filled.{opened_at}
use Rattle.cbc_mode.proofs.InPlace.{one_more, all_made}
use Rattle.cbc_mode.proofs.blocks.unseal_some.Goals as goal

pub loop-j-init : goal.loop-j-init
unfolding joined cbc_before
loop-j-init g c = record { made = refl; last = refl }

pub loop-j-preserved : goal.loop-j-preserved
unfolding cbc_before cbc_plain_block
loop-j-preserved g c =
    let unsealed : List ℕ → List ℕ = g.C.BlockCipher.unsealed c.args.cipher.now in
    let blocks : ℕ → List ℕ = cbc_plain_block unsealed c.args.before.now c.args.text.now in
    let within : 16 * c.loop-j.j + 16 ≤ length c.args.text.now = omega arith in
    let read : get_or c.some_blocks-sealed.result c.loop-j.j [] ≡ text_block c.args.text.now c.loop-j.j = c.some_blocks-sealed.ensures c.loop-j.j (omega arith) in
    let block : c.sum_of-plain.result ≡ blocks c.loop-j.j =
    c.sum_of-plain.ensures
    ∙ ap₂ xor_blocks
    (opened_at unsealed c.some_blocks-sealed.result c.unseal_some.new.b (length c.args.text.now / 16) c.loop-j.j (omega arith) (omega arith) (omega arith) c.unseal_some.ensures ∙ ap unsealed read)
    c.loop-j.invariant.last in
    record {
      made = one_more c.args.text.now c.loop-j.text blocks c.loop-j.j c.loop-j.invariant.made c.loop-j.auto.text c.copy_from_slice.new.self (c.copy_from_slice.ensures.after ∙ block) within;
      last = rw add-one read;
    }

pub returns : goal.returns
returns g c =
    all_made c.args.text.now c.loop-j.text (cbc_plain_block (g.C.BlockCipher.unsealed c.args.cipher.now) c.args.before.now c.args.text.now) c.loop-j.j
    c.loop-j.invariant.made c.loop-j.auto.text c.requires.whole c.loop-j-test.false c.loop-j.auto.j-end
