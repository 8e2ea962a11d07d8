use Rattle.std.proofs.Common.{◌∙◌, ◌-◌, ◌*◌, ◌/◌, ℕ, List, refl, ap, arith, take, replicate}
use Rattle.std_defs.specs.Cmac.{chained, cmac, zero_block}
use Rattle.perdoaze_calls.specs.Pieces.{text_in}
use Rattle.perdoaze_calls.proofs.Answering.{whole_gathered, text_copied}
use Rattle.perdoaze_calls.proofs.Chained.{cmac_of_last}
use Rattle.perdoaze_calls.proofs.macs.cmac_of.Goals as goal

pub returns-then-n-le32 : goal.returns-then-n-le32
returns-then-n-le32 g c =
    let text = text_in c.args.pieces.now in
    let gathered : List ℕ = c.gather.new.into in
    c.mac.ensures ∙ ap (cmac (g.C.BlockCipher.sealed c.args.mac.now))
    (ap (λ (k : ℕ). take k gathered) c.requires.all ∙ text_copied text (replicate 32 0) gathered (whole_gathered text (replicate 32 0) gathered c.args.n c.requires.all c.gather.ensures))

pub returns : goal.returns
returns g c =
    cmac_of_last (g.C.BlockCipher.sealed c.args.mac.now) (text_in c.args.pieces.now) c.chain_of.result c.gather-2.new.into c.add_chain.new.bytes _
    c.args.n ((c.args.n - 17) / 16) (c.args.n - 16 * ((c.args.n - 17) / 16))
    c.requires.all (omega arith) refl refl
    (c.chain_of.ensures ∙ ap (λ a. chained (g.C.BlockCipher.sealed a) zero_block (text_in c.args.pieces.now) ((c.args.n - 17) / 16)) c.cipher.ensures)
    c.gather-2.ensures c.add_chain.ensures c.mac-2.ensures
