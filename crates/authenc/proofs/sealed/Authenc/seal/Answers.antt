use Rattle.std.proofs.Common.{ap, sym, refl, Some, ℕ, List}
use Rattle.std.proofs.lemmas.Result.{err_from_is_err_and}
use Rattle.std_defs.specs.Authenc.{authenc_seal}
use Rattle.authenc.proofs.sealed.Authenc.seal.Goals as goal

pub returns-in_err-seal : goal.returns-in_err-seal
unfolding authenc_seal
returns-in_err-seal g c =
    let failed = err_from_is_err_and c.from_residual.result c.from_residual.ensures.1 in
    let refused = c.in_err-seal.ensures in
    rw (← c.self.view_is) (rw (failed.1, failed.2) (refused.0, rw refused.1 refl, ap (λ (b : List ℕ). (b, c.args.tag.now)) refused.2))

pub returns : goal.returns
unfolding authenc_seal
returns g c = rw (← c.self.view_is) (rw c.in_ok-seal.ensures (ap (λ (t : List ℕ). Some (c.seal.new.b, t)) (sym c.mac.ensures)))
