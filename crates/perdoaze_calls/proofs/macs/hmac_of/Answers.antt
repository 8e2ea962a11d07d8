use Rattle.std.proofs.Common.{◌∙◌, ap, arith}
use Rattle.std.proofs.lemmas.List.{take_all}
use Rattle.std_defs.specs.Hmac.{hmac_under}
use Rattle.perdoaze_calls.specs.Pieces.{text_in}
use Rattle.perdoaze_calls.proofs.macs.hmac_of.Goals as goal

pub returns : goal.returns
returns c = c.mac_of_front.ensures ∙ ap (hmac_under c.args.mac.now) (take_all c.args.n (text_in c.args.pieces.now) (omega (arith, c.requires)))
