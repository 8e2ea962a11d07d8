use Rattle.std.proofs.Common.{◌≡◌, ◌++◌, ◌∙◌, List, ℕ, Some, ap, subst, arith, take}
use Rattle.std_defs.specs.Hmac.{hmac_under}
use Rattle.sg_walk.proofs.Joined.{same_rest}
use Rattle.piece_modes.specs.Pieces.{text_over}
use Rattle.transforms.specs.Ciphers as ciphers
use Rattle.transforms.specs.declared.any_cipher.AnyCipher.{AnyCipher}
use Rattle.perdoaze_calls.proofs.Overs.{same_total, authenc_made_over}
use Rattle.perdoaze_calls.proofs.over_pieces.seal_authenc.Goals as goal

pub put_mac_behind-requires-clause-within : goal.put_mac_behind-requires-clause-within
put_mac_behind-requires-clause-within c = omega (arith, c.requires.within, same_total c.args.pieces.now c.seal_cipher.new.pieces c.seal_cipher.ensures.sizes)

pub returns-clause-sealed : goal.returns-clause-sealed
returns-clause-sealed c = λ yes.
    let n : ℕ = c.args.n in
    let iv : List ℕ = c.args.iv.now in
    let aad : List ℕ = c.args.aad.now in
    let text : List ℕ = take n (text_over c.args.pieces.now) in
    let mid : List ℕ = text_over c.seal_cipher.new.pieces in
    let sealed = subst (λ (a : AnyCipher). ciphers.seals_of a iv text ≡ Some (take n mid)) c.cipher-cipher.ensures (c.seal_cipher.ensures.sealed c.if-not-seal_cipher.false) in
    let made = c.put_mac_behind.ensures.made ∙ ap (λ (b : List ℕ). take n mid ++ take c.args.tag_size (hmac_under b (aad ++ take n mid))) c.mac.ensures in (
      c.if-iv-iv_len.false ∙ c.iv_len.ensures ∙ ap ciphers.iv_size_of c.cipher-cipher.ensures,
      authenc_made_over c.args.mode.now.0 iv aad text mid (text_over c.put_mac_behind.new.pieces) (ciphers.seals_of c.args.mode.now.1) n c.args.tag_size sealed made,
    )

pub returns-clause-rest : goal.returns-clause-rest
returns-clause-rest c =
    c.put_mac_behind.ensures.rest ∙ same_rest (text_over c.seal_cipher.new.pieces) (text_over c.args.pieces.now) c.args.n c.args.tag_size c.seal_cipher.ensures.rest
