use Rattle.std.proofs.Common.{sym, ◌∙◌, ap, true, false, length, take, bytes_eq}
use Rattle.std.proofs.lemmas.Bool.{not-true, not-false}
use Rattle.std.specs.Prelude.{Some}
use Rattle.gcm_mode.proofs.Guards.{opened_so}
use Rattle.gcm_mode.proofs.guarded.GcmOpening.verify.Goals as goal

pub returns-then-tags_differ-clause-told : goal.returns-then-tags_differ-clause-told
returns-then-tags_differ-clause-told g c =
    let tag = c.args.tag.now in
    let taken = c.in_ok-text.ensures.taken in
    let differ = not-true (bytes_eq (take (length tag) c.tag.result) tag) (sym c.tags_differ.ensures ∙ c.if-tags_differ.true) in
    (taken.0, λ iv a t made held. opened_so (g.C.BlockCipher.sealed c.args.gcm.now) iv a t c.tag.result tag false (c.tag.ensures iv a t t (taken.1.1 iv a t t held.0)) differ)

pub returns-clause-told : goal.returns-clause-told
returns-clause-told g c =
    let tag = c.args.tag.now in
    let taken = c.in_ok-text.ensures.taken in
    let same = not-false (bytes_eq (take (length tag) c.tag.result) tag) (sym c.tags_differ.ensures ∙ c.if-tags_differ.false) in (
      taken.0,
      λ iv a t made held.
          opened_so (g.C.BlockCipher.sealed c.args.gcm.now) iv a t c.tag.result tag true (c.tag.ensures iv a t t (taken.1.1 iv a t t held.0)) same ∙ ap Some (sym held.1),
    )
