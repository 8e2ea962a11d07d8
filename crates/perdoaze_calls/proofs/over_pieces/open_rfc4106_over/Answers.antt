use Rattle.std.proofs.Common.{◌∙◌, List, ℕ, ap, sym, subst, take}
use Rattle.std_defs.specs.Rfc4106.{rfc4106_iv}
use Rattle.piece_modes.specs.Pieces.{text_over}
use Rattle.transforms.specs.Forms.{key_of}
use Rattle.transforms.specs.Modes.{gcm_opens}
use Rattle.perdoaze_calls.specs.Over.{OpensOver}
use Rattle.perdoaze_calls.proofs.Overs.{rfc4106_by}
use Rattle.perdoaze_calls.proofs.over_pieces.open_rfc4106_over.Goals as goal

pub returns-clause-opened : goal.returns-clause-opened
returns-clause-opened g c =
    let n : ℕ = c.args.n in
    let old : List ℕ = text_over c.args.pieces.now in
    let new : List ℕ = text_over c.open_by_gcm.new.pieces in
    let salt : List ℕ = c.args.mode.now.1 in
    let nonce : List ℕ = c.nonce-nonce.result in
    let part : List ℕ = c.authenticated_bytes-associated.result.now in (
      c.if-iv-ne8.false,
      subst (λ v. OpensOver c.open_by_gcm.result v n old new)
          (sym (rfc4106_by (key_of c.args.mode.now.0) salt c.args.iv.now c.args.aad.now (take n old) nonce part
          (sym c.takes_rfc4106_associated.ensures ∙ c.if-not-takes_rfc4106_associated.false)
          (c.nonce-nonce.ensures ∙ ap (rfc4106_iv salt) c.copy_from_slice.ensures.after) c.authenticated_bytes-associated.ensures c.args.tag.now))
          (subst (λ a. OpensOver c.open_by_gcm.result (gcm_opens (key_of a) nonce part (take n old) c.args.tag.now) n old new) c.gcm.ensures c.open_by_gcm.ensures.opened),
    )
