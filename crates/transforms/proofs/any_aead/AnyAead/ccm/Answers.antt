use Rattle.std.proofs.Common.{length}
use Rattle.transforms.proofs.Under.{is_key_length-true}
use Rattle.transforms.proofs.UnderTag.{under_ccm}
use Rattle.transforms.proofs.any_aead.AnyAead.ccm.Goals as goal

pub returns : goal.returns
returns c =
    let h = c.in_ok-new.ensures in
    rw (c.new-2.ensures)
    (is_key_length-true (length c.args.key.now) h.0, under_ccm c.in_ok-new.field-0 c.args.form c.args.key.now h.1 h.2)
