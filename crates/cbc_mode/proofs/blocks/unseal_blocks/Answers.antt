use Rattle.std.proofs.Common.{◌≡◌, ℕ, List, ◌+◌, ◌-◌, ◌*◌, ◌/◌, length, arith, refl, ap, ◌∙◌, ◌≤◌, take, drop}
use Rattle.std.proofs.lemmas.Grind.{common_steps}
use Rattle.std_defs.specs.Blocks.{joined}
use Rattle.std_defs.specs.Modes.{cbc_plain_block}
use Rattle.cbc_mode.proofs.Pieces.{Opened, opened_none, opened_more, opened_all}
use Rattle.cbc_mode.proofs.blocks.unseal_blocks.Goals as goal

piece_long : (xs : List ℕ) (a m : ℕ) → a + m ≤ length xs → length (take m (drop a xs)) ≡ m
piece_long xs a m h = grind (arith, common_steps)

pub loop-i-init : goal.loop-i-init
loop-i-init g c = opened_none (g.C.BlockCipher.unsealed c.args.cipher.now) c.args.iv.now c.args.text.now

pub loop-i-preserved : goal.loop-i-preserved
loop-i-preserved g c =
    let a : ℕ = 128 * c.loop-i.i in
    opened_more (g.C.BlockCipher.unsealed c.args.cipher.now) c.args.iv.now c.args.text.now c.loop-i.text c.loop-i.before _ c.unseal_eight-before.new.text a (8 * c.loop-i.i) 8 (a + 128 - a)
    c.loop-i.invariant (omega arith) (omega arith) (omega arith) refl c.unseal_eight-before.ensures.text
    c.unseal_eight-before.result (8 * (c.loop-i.i + 1)) c.unseal_eight-before.ensures.last (omega (arith, c.unseal_eight-before.auto.text)) (omega arith)

pub returns : goal.returns
returns g c =
    let a : ℕ = 128 * (length c.args.text.now / 128) in
    let k : ℕ = 8 * (length c.args.text.now / 128) in
    let m : ℕ = length c.loop-i.text - a in
    let at : c.loop-i.i ≡ length c.args.text.now / 128 = omega arith in
    let o : Opened (g.C.BlockCipher.unsealed c.args.cipher.now) c.args.iv.now c.args.text.now c.loop-i.text c.loop-i.before k =
    rw (← at) c.loop-i.invariant in
    let piece : List ℕ = take m (drop a c.loop-i.text) in
    let count : length piece / 16 ≡ m / 16 = ap (λ (n : ℕ). n / 16) (piece_long c.loop-i.text a m (omega (arith, c.loop-i.auto.text))) in
    opened_all (g.C.BlockCipher.unsealed c.args.cipher.now) c.args.iv.now c.args.text.now c.loop-i.text c.loop-i.before _ c.unseal_some.new.text a k (m / 16) m
    o (omega arith) (omega (arith, c.requires, c.loop-i.auto.text)) (omega (arith, c.loop-i.auto.text)) refl (c.unseal_some.ensures ∙ ap (joined (cbc_plain_block (g.C.BlockCipher.unsealed c.args.cipher.now) c.loop-i.before piece)) count)
    (omega (arith, c.requires, c.loop-i.auto.text))
