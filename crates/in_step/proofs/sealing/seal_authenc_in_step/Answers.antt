use Rattle.std.proofs.Common.{◌∙◌, ◌++◌, ℕ, List, Some, ap, sym}
use Rattle.std_defs.specs.Authenc.{authenc_seal}
use Rattle.std_defs.specs.Hmac.{hmac_under}
use Rattle.in_step.specs.Pieces.{piece}
use Rattle.in_step.specs.Texts.{front_in}
use Rattle.in_step.proofs.sealing.seal_authenc_in_step.Goals as goal

pub returns-clause-sealed : goal.returns-clause-sealed
unfolding authenc_seal
returns-clause-sealed g c = λ n lt.
    let made : List ℕ = front_in g.T.Text.bytes_of c.args.lengths.now c.seal_cbc_in_step.new.texts n in
    rw (c.seal_cbc_in_step.ensures.sealed n lt)
    (ap (λ (t : List ℕ). Some (made, t)) (ap (λ (x : List ℕ). hmac_under c.args.mac.now (piece c.args.aads.now n ++ x)) (sym (c.fronts.ensures n lt)) ∙ sym (c.macs_in_step.ensures n lt)))
