use Rattle.std.proofs.Common.{length, take, refl, arith}
use Rattle.std.proofs.lemmas.List.{length-take-le}
use Rattle.perdoaze_calls.proofs.Making.{authenc_made, tagged_rest}
use Rattle.perdoaze_calls.proofs.direct.seal_authenc.Goals as goal

pub returns-clause-sealed : goal.returns-clause-sealed
returns-clause-sealed c =
    authenc_made c.args.mac.now c.args.mode.now c.args.iv.now c.args.aad.now c.args.text.now c.seal_cbc.new.into c.put_behind.new.into c.mac-tag.result
    (take c.args.tag_size c.mac-tag.result) c.args.tag_size
    c.seal_cbc.ensures.sealed c.mac-tag.ensures refl (length-take-le c.args.tag_size c.mac-tag.result (omega arith)) (omega arith) c.put_behind.ensures

pub returns-clause-rest : goal.returns-clause-rest
returns-clause-rest c =
    tagged_rest c.seal_cbc.new.into c.put_behind.new.into (take c.args.tag_size c.mac-tag.result) (length c.args.text.now) c.args.tag_size
    c.put_behind.ensures (length-take-le c.args.tag_size c.mac-tag.result (omega arith)) (omega arith) c.args.out.now c.seal_cbc.ensures.rest
