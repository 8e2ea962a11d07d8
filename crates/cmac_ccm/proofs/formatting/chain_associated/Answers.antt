use Rattle.std.proofs.Common.{◌∙◌, ◌+◌, ◌-◌, ◌<◌, ◌++◌, refl, sym, arith, length, replicate}
use Rattle.std.proofs.lemmas.Bool.{eqb-true, eqb-false}
use borrow.Rule.Slice.PartMut.{put_mid}
use Rattle.cmac_ccm.proofs.Associated.{no_associated, with_associated}
use Rattle.cmac_ccm.proofs.formatting.chain_associated.Goals as goal

pub returns-then-is_empty : goal.returns-then-is_empty
returns-then-is_empty g c =
    no_associated (g.C.BlockCipher.sealed c.args.cipher.now) c.args.chain.now c.args.aad.now (eqb-true _ _ (sym c.is_empty.ensures ∙ c.if-is_empty.true))

pub returns : goal.returns
returns g c =
    let differ = eqb-false (length c.args.aad.now) 0 (sym c.is_empty.ensures ∙ c.if-is_empty.false) in
    let some : 0 < length c.args.aad.now = omega arith in
    let front = c.min-front.result in
    with_associated (g.C.BlockCipher.sealed c.args.cipher.now) c.args.chain.now c.args.aad.now c.copy_from_slice.new.self c.copy_from_slice-2.new.self
    (put_mid 2 (2 + front - 2) (c.copy_from_slice.new.self ++ replicate 14 0) c.copy_from_slice-2.new.self) c.chain_block.new.chain c.chain_padded.new.chain
    front (2 + front - 2) (length c.args.aad.now - front) some (omega arith) (omega arith) (λ h. omega arith) (λ h. omega arith)
    (c.copy_from_slice.ensures.after ∙ c.to_be_bytes.ensures) c.copy_from_slice-2.ensures.after (omega arith) refl c.chain_block.ensures refl c.chain_padded.ensures
