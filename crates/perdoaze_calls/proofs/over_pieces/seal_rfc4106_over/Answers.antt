use Rattle.std.proofs.Common.{◌≡◌, ◌+◌, ◌∙◌, List, ℕ, ap, sym, subst, take}
use Rattle.std_defs.specs.Rfc4106.{rfc4106_iv}
use Rattle.std_defs.specs.Value.Value.{bytes}
use Rattle.piece_modes.specs.Pieces.{text_over}
use Rattle.transforms.specs.Forms.{key_of}
use Rattle.transforms.specs.Modes.{gcm_seals}
use Rattle.perdoaze_calls.proofs.Overs.{rfc4106_made}
use Rattle.perdoaze_calls.proofs.over_pieces.seal_rfc4106_over.Goals as goal

pub returns-clause-sealed : goal.returns-clause-sealed
returns-clause-sealed g c = λ yes.
    let text : List ℕ = take c.args.n (text_over c.args.pieces.now) in
    let new : List ℕ = take (c.args.n + c.args.tag_size) (text_over c.seal_by_gcm.new.pieces) in
    let salt : List ℕ = c.args.mode.now.1 in
    let nonce : List ℕ = c.nonce-nonce.result in
    let part : List ℕ = c.authenticated_bytes-associated.result.now in (
      c.if-iv-ne8.false,
      rfc4106_made (key_of c.args.mode.now.0) salt c.args.iv.now c.args.aad.now text nonce part
          (sym c.takes_rfc4106_associated.ensures ∙ c.if-not-takes_rfc4106_associated.false)
          (c.nonce-nonce.ensures ∙ ap (rfc4106_iv salt) c.copy_from_slice.ensures.after) c.authenticated_bytes-associated.ensures c.args.tag_size (bytes new)
          (subst (λ a. gcm_seals (key_of a) c.args.tag_size nonce part text ≡ bytes new) c.gcm.ensures c.seal_by_gcm.ensures.sealed),
    )
