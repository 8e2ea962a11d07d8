use Rattle.std.proofs.Common.{◌≡◌, ◌++◌, ◌∙◌, List, ℕ, Some, refl, sym, ap, subst, length, take, bytes_eq}
use Rattle.std.proofs.lemmas.Bool.{not-true, not-false}
use Rattle.std_defs.specs.Hmac.{hmac_under}
use Rattle.piece_modes.specs.Pieces.{text_over}
use Rattle.transforms.specs.Ciphers as ciphers
use Rattle.transforms.specs.declared.any_cipher.AnyCipher.{AnyCipher}
use Rattle.perdoaze_calls.proofs.Overs.{authenc_refused, authenc_opened}
use Rattle.perdoaze_calls.proofs.over_pieces.open_authenc.Goals as goal

pub returns-then-tags_differ-clause-opened : goal.returns-then-tags_differ-clause-opened
returns-then-tags_differ-clause-opened c =
    let text : List ℕ = take c.args.n (text_over c.args.pieces.now) in
    let full : List ℕ = c.mac_of_front-full.result in
    let is : c.mac_of_front-full.result ≡ hmac_under c.args.mode.now.0 (c.args.aad.now ++ take c.args.n (text_over c.args.pieces.now)) =
    c.mac_of_front-full.ensures ∙ ap (λ (b : List ℕ). hmac_under b (c.args.aad.now ++ take c.args.n (text_over c.args.pieces.now))) c.mac.ensures in (
      c.if-iv-iv_len.false ∙ c.iv_len.ensures ∙ ap ciphers.iv_size_of c.cipher-cipher.ensures,
      (
        authenc_refused c.args.mode.now.0 c.args.iv.now c.args.aad.now text full c.args.tag.now (ciphers.unseals_of c.args.mode.now.1) is
            (not-true (bytes_eq (take (length c.args.tag.now) c.mac_of_front-full.result) c.args.tag.now) (sym c.tags_differ.ensures ∙ c.if-tags_differ.true)),
        refl,
      ),
    )

pub returns-clause-opened : goal.returns-clause-opened
returns-clause-opened c =
    let n : ℕ = c.args.n in
    let iv : List ℕ = c.args.iv.now in
    let text : List ℕ = take n (text_over c.args.pieces.now) in
    let new : List ℕ = take n (text_over c.open_cipher.new.pieces) in
    let full : List ℕ = c.mac_of_front-full.result in
    let is : c.mac_of_front-full.result ≡ hmac_under c.args.mode.now.0 (c.args.aad.now ++ take c.args.n (text_over c.args.pieces.now)) =
    c.mac_of_front-full.ensures ∙ ap (λ (b : List ℕ). hmac_under b (c.args.aad.now ++ take c.args.n (text_over c.args.pieces.now))) c.mac.ensures in
    let opened = subst (λ (a : AnyCipher). ciphers.unseals_of a iv text ≡ Some new) c.cipher-cipher.ensures (c.open_cipher.ensures.opened c.if-not-open_cipher.false) in (
      c.if-iv-iv_len.false ∙ c.iv_len.ensures ∙ ap ciphers.iv_size_of c.cipher-cipher.ensures,
      authenc_opened c.args.mode.now.0 iv c.args.aad.now text full c.args.tag.now (ciphers.unseals_of c.args.mode.now.1) is new
          (not-false (bytes_eq (take (length c.args.tag.now) c.mac_of_front-full.result) c.args.tag.now) (sym c.tags_differ.ensures ∙ c.if-tags_differ.false)) opened,
    )
