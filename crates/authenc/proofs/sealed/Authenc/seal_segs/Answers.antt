use Rattle.std.proofs.Common.{ap, sym, refl, Some, ℕ, List}
use Rattle.std.proofs.lemmas.Result.{err_from_is_err_and}
use Rattle.std_defs.specs.Authenc.{authenc_seal}
use Rattle.authenc.proofs.sealed.Authenc.seal_segs.Goals as goal

pub returns-in_err-seal_segs-clause-text : goal.returns-in_err-seal_segs-clause-text
unfolding authenc_seal
returns-in_err-seal_segs-clause-text g c =
    let failed = err_from_is_err_and c.from_residual.result c.from_residual.ensures.1 in
    let refused = c.in_err-seal_segs.ensures.text in
    rw (← c.self.view_is) (rw (failed.1, failed.2) (refused.0, rw refused.1 refl, ap (λ (b : List ℕ). (b, c.args.tag.now)) refused.2))

pub returns-clause-text : goal.returns-clause-text
unfolding authenc_seal
returns-clause-text g c = rw (← c.self.view_is) (rw c.in_ok-seal_segs.ensures.text (ap (λ (t : List ℕ). Some (c.seal_segs.new.b.text, t)) (sym c.mac_segs.ensures)))
