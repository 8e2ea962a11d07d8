use Rattle.std.proofs.Common.{◌≡◌, ℕ, List, [], map, ◌+◌, ◌*◌, ◌≤◌, length, arith, refl, ap, ap₂, ◌∙◌, add-one, get_or, zero-add, ◌<◌, ◌/◌}
use Rattle.std.specs.List.{range_with_len}
use Rattle.std.proofs.lemmas.List.{get_or-map}
use Rattle.std.proofs.lemmas.List.FromFn.{get_or-map-range_with_len, length-map-range_with_len}
use Rattle.std_defs.specs.Blocks.{xor_blocks, text_block, joined}
use Rattle.std_defs.specs.Modes.{cbc_before, cbc_plain_block}
use Rattle.cbc_mode.proofs.InPlace.{one_more, all_made}
use Rattle.cbc_mode.proofs.blocks.unseal_eight.Goals as goal

block_in : (text : List ℕ) (blocks : List (List ℕ)) (j : ℕ) → blocks ≡ map (text_block text) (range_with_len 0 8) → j < 8 → get_or blocks j [] ≡ text_block text j
block_in text blocks j e h = ap (λ (bs : List (List ℕ)). get_or bs j []) e ∙ get_or-map-range_with_len (text_block text) 0 8 j j [] h (zero-add j)

opened_in : (u : List ℕ → List ℕ) (text : List ℕ) (sealed blocks : List (List ℕ)) (j : ℕ) → sealed ≡ map (text_block text) (range_with_len 0 8) → blocks ≡ map u sealed → j < 8
    → get_or blocks j [] ≡ u (text_block text j)
opened_in u text sealed blocks j e f h =
    ap (λ (bs : List (List ℕ)). get_or bs j []) f
    ∙ get_or-map u sealed j [] [] (omega (arith, ap length e, length-map-range_with_len (text_block text) 0 8))
    ∙ ap u (block_in text sealed j e h)

pub loop-j-init : goal.loop-j-init
unfolding joined cbc_before
loop-j-init g c = record { made = refl; last = refl }

pub loop-j-preserved : goal.loop-j-preserved
unfolding cbc_before cbc_plain_block
loop-j-preserved g c =
    let unsealed : List ℕ → List ℕ = g.C.BlockCipher.unsealed c.args.cipher.now in
    let blocks : ℕ → List ℕ = cbc_plain_block unsealed c.args.before.now c.args.text.now in
    let within : 16 * c.loop-j.j + 16 ≤ length c.args.text.now = omega arith in
    let read : get_or c.eight_blocks-sealed.result c.loop-j.j [] ≡ text_block c.args.text.now c.loop-j.j = block_in c.args.text.now c.eight_blocks-sealed.result c.loop-j.j c.eight_blocks-sealed.ensures (omega arith) in
    let block : c.sum_of-plain.result ≡ blocks c.loop-j.j =
    c.sum_of-plain.ensures
    ∙ ap₂ xor_blocks (opened_in unsealed c.args.text.now c.eight_blocks-sealed.result c.unseal_eight.new.b c.loop-j.j c.eight_blocks-sealed.ensures c.unseal_eight.ensures (omega arith)) c.loop-j.invariant.last in
    record {
      made = one_more c.args.text.now c.loop-j.text blocks c.loop-j.j c.loop-j.invariant.made c.loop-j.auto.text c.copy_from_slice.new.self (c.copy_from_slice.ensures.after ∙ block) within;
      last = rw add-one read;
    }

pub returns-clause-text : goal.returns-clause-text
returns-clause-text g c =
    let blocks : ℕ → List ℕ = cbc_plain_block (g.C.BlockCipher.unsealed c.args.cipher.now) c.args.before.now c.args.text.now in
    let eight : length c.args.text.now / 16 ≡ 8 = omega arith in
    all_made c.args.text.now c.loop-j.text blocks c.loop-j.j c.loop-j.invariant.made c.loop-j.auto.text (omega arith) (omega arith) (omega arith) ∙ ap (joined blocks) eight

pub returns-clause-last : goal.returns-clause-last
returns-clause-last g c =
    let eight : c.loop-j.j ≡ 8 = omega arith in
    c.loop-j.invariant.last ∙ ap (cbc_before c.args.before.now c.args.text.now) eight
