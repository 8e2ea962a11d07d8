use Rattle.std.proofs.Common.{◌≡◌, List, ℕ, ◌∙◌, ap, arith, refl, length, take}
use Rattle.std.proofs.lemmas.List.{length-take-le}
use Rattle.piece_modes.specs.Pieces.{text_over}
use Rattle.std_defs.specs.Aes.{seal}
use Rattle.std_defs.specs.Gcm.{gcm_seal}
use Rattle.transforms.specs.Forms.{key_of}
use Rattle.perdoaze_calls.proofs.Overs.{front_tagged, rest_tagged, gcm_made, same_total}
use Rattle.perdoaze_calls.proofs.over_pieces.seal_by_gcm.Goals as goal

pub returns-clause-sealed : goal.returns-clause-sealed
returns-clause-sealed g c =
    let tag : List ℕ = c.seal_gcm-tag.result in
    let piece : List ℕ = take c.args.tag_size c.seal_gcm-tag.result in
    let mid : List ℕ = text_over c.seal_gcm-tag.new.pieces in
    let long : length (take c.args.tag_size c.seal_gcm-tag.result) ≡ c.args.tag_size = length-take-le c.args.tag_size tag (omega arith) in
    let room = same_total c.args.pieces.now c.seal_gcm-tag.new.pieces c.seal_gcm-tag.ensures.sizes in
    gcm_made (key_of c.args.gcm.now) c.args.iv.now c.args.aad.now (take c.args.n (text_over c.args.pieces.now)) mid (text_over c.write_at.new.pieces) tag piece c.args.n c.args.tag_size
    (c.seal_gcm-tag.ensures.sealed ∙ ap (λ (v : List ℕ). gcm_seal (seal (key_of c.args.gcm.now)) v c.args.aad.now (take c.args.n (text_over c.args.pieces.now))) c.copy_from_slice.ensures.after)
    refl
    (front_tagged mid (text_over c.write_at.new.pieces) piece c.args.n c.args.tag_size c.write_at.ensures.text long (omega (arith, room, c.requires.within)))

pub returns-clause-rest : goal.returns-clause-rest
returns-clause-rest g c =
    let tag : List ℕ = c.seal_gcm-tag.result in
    let long : length (take c.args.tag_size c.seal_gcm-tag.result) ≡ c.args.tag_size = length-take-le c.args.tag_size tag (omega arith) in
    let room = same_total c.args.pieces.now c.seal_gcm-tag.new.pieces c.seal_gcm-tag.ensures.sizes in
    rest_tagged (text_over c.seal_gcm-tag.new.pieces) (text_over c.write_at.new.pieces) (take c.args.tag_size tag) c.args.n c.args.tag_size c.write_at.ensures.text long (omega (arith, room, c.requires.within))
    (text_over c.args.pieces.now) c.seal_gcm-tag.ensures.rest

pub write_at-requires : goal.write_at-requires
write_at-requires g c =
    let tag : List ℕ = c.seal_gcm-tag.result in
    let long : length (take c.args.tag_size c.seal_gcm-tag.result) ≡ c.args.tag_size = length-take-le c.args.tag_size tag (omega arith) in
    omega (arith, long, c.requires.within, same_total c.args.pieces.now c.seal_gcm-tag.new.pieces c.seal_gcm-tag.ensures.sizes)
