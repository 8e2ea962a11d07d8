use Rattle.std.proofs.Common.{◌≡◌, List, ℕ, ◌++◌, ◌∙◌, refl, ap, arith, length, take}
use Rattle.std.proofs.lemmas.List.{length-take-le}
use Rattle.piece_modes.specs.Pieces.{text_over}
use Rattle.perdoaze_calls.proofs.Overs.{front_tagged, rest_tagged}
use Rattle.perdoaze_calls.proofs.over_pieces.put_mac_behind.Goals as goal

pub returns-clause-made : goal.returns-clause-made
returns-clause-made c =
    let old : List ℕ = text_over c.args.pieces.now in
    let tag : List ℕ = c.mac_of_front-tag.result in
    let long : length (take c.args.tag_size c.mac_of_front-tag.result) ≡ c.args.tag_size = length-take-le c.args.tag_size tag (omega arith) in
    front_tagged old (text_over c.write_at.new.pieces) (take c.args.tag_size tag) c.args.n c.args.tag_size c.write_at.ensures.text long c.requires.within
    ∙ ap (λ (m : List ℕ). take c.args.n old ++ take c.args.tag_size m) c.mac_of_front-tag.ensures

pub returns-clause-rest : goal.returns-clause-rest
returns-clause-rest c =
    let old : List ℕ = text_over c.args.pieces.now in
    let tag : List ℕ = c.mac_of_front-tag.result in
    let long : length (take c.args.tag_size c.mac_of_front-tag.result) ≡ c.args.tag_size = length-take-le c.args.tag_size tag (omega arith) in
    rest_tagged old (text_over c.write_at.new.pieces) (take c.args.tag_size tag) c.args.n c.args.tag_size c.write_at.ensures.text long c.requires.within old refl
