use Rattle.std.proofs.Common.{length}
use Rattle.transforms.proofs.Under.{is_key_length-true}
use Rattle.transforms.proofs.UnderMac.{under_cmac}
use Rattle.transforms.proofs.any_mac.AnyMac.cmac.Goals as goal

pub returns : goal.returns
returns c =
    let h = c.in_ok-new.ensures in
    rw (c.new-2.ensures)
    (is_key_length-true (length c.args.key.now) h.0, under_cmac c.in_ok-new.field-0 c.args.form c.args.key.now h.1 h.2)
