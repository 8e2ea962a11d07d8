use Rattle.std.proofs.Common.{◌≡◌, ◌∙◌, true, length, sym, ap}
use Rattle.transforms.specs.Asked.{TakesInput}
use Rattle.transforms.specs.Ciphers.{iv_size_of}
use Rattle.transforms.specs.Keys.{kind_in, iv_size_in, takes_input_in}
use Rattle.transforms.specs.Plans.{kind_of, iv_size, takes_input}
use Rattle.transforms.specs.Plans.PlanKind.{aead}
use Rattle.transforms.specs.declared.inner.Inner.{Inner}
use Rattle.transforms.specs.declared.inner.Inner.TheVariants.{Aead}
use Rattle.transforms.specs.declared.any_aead.AnyAead.TheVariants.{Authenc}
use Rattle.jobs_in_step.proofs.TaggedFronts.{authenc_takes}
use Rattle.jobs_in_step.proofs.keys.step_key.Goals as goal

pub returns-in-Cbc-clause-taken : goal.returns-in-Cbc-clause-taken
returns-in-Cbc-clause-taken c = λ n q dir iv ok.
    let p = c.args.key.now.0 in
    let inner : Inner = c.inner.result.now in
    let whole : inner ≡ Aead (Authenc c.in-Authenc.both) = c.in-Aead.is ∙ ap (λ a. Aead a) c.in-Authenc.is in
    let kind : kind_of p ≡ aead = sym c.inner.ensures.kind ∙ ap kind_in whole in
    let size : iv_size p ≡ 16 = sym c.inner.ensures.iv ∙ ap iv_size_in whole ∙ ap iv_size_of (sym c.cipher.ensures ∙ c.in-Cbc.is) in
    let input : takes_input p q.iv (length q.aad) (length q.text.text) ≡ true =
    ap (λ (f : TakesInput). f q.iv (length q.aad) (length q.text.text)) (sym c.inner.ensures.input)
    ∙ ap (λ (i : Inner). takes_input_in i q.iv (length q.aad) (length q.text.text)) whole in
    authenc_takes (kind_of p) (takes_input p) (iv_size p) n q kind size input dir iv
