use Rattle.std.proofs.Common.{ℕ, List, subst, sym, ap, ◌∙◌, []}
use Rattle.gcm_mode.specs.Guarded.{PhaseHolds, IsLive, text_in}
use Rattle.gcm_mode.specs.Streams.{Holds}
use Rattle.gcm_mode.proofs.guarded.Phase.take.Goals as goal

pub returns-in-Associated-clause-taken : goal.returns-in-Associated-clause-taken
returns-in-Associated-clause-taken g c =
    let cipher = g.C.BlockCipher.sealed c.args.gcm.now in
    let is = c.in-Associated.ensures.value in (
      subst IsLive is tt,
      (
        c.text.ensures.len ∙ ap text_in is,
        λ iv a t sealed held.
            let h = subst (PhaseHolds cipher iv a t sealed) (sym is) held in
            subst (λ (v : List ℕ). Holds cipher iv a v sealed c.text.result) (sym h.0)
            (subst (λ (v : List ℕ). Holds cipher iv a [] v c.text.result) (sym h.1.0) (c.text.ensures.none iv a h.1.1)),
      ),
    )
