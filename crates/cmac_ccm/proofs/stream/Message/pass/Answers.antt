use Rattle.std.proofs.Common.{◌≡◌, ℕ, List, [], ◌++◌, ◌+◌, ◌-◌, ◌*◌, ◌/◌, length, take, refl, subst}
use Rattle.std.proofs.lemmas.List.{take_rest}
use Rattle.cmac_ccm.proofs.Streamed.{takes_passed}
use Rattle.cmac_ccm.proofs.stream.Message.pass.Goals as goal

pub returns : goal.returns
returns g c = λ m held.
    let d : List ℕ = c.args.bytes.now in
    let b : ℕ = (length d - 1) / 16 in
    takes_passed (g.C.BlockCipher.sealed c.args.cipher.now) c.args.self.now _ m d c.chain_block.new.chain b held c.requires.full c.requires.some refl
    refl c.chain_block.ensures c.chain_blocks.ensures c.place.ensures.long
    (subst (λ (t : List ℕ). take (0 + length t) c.place.new.rest ≡ [] ++ t) (take_rest d (16 * b)) c.place.ensures.placed)
