use Rattle.std.proofs.Common.{◌≡◌, ◌∙◌, ap}
use Rattle.transforms.specs.Forms.{key_of, form_of}
use Rattle.transforms.proofs.Under.{is_salted_length-true}
use Rattle.transforms.proofs.UnderTag.{under_bits_salted, under_lanes_salted}
use Rattle.transforms.proofs.any_aead.AnyAead.rfc4106.Goals as goal

pub returns-in-GhashGeneric : goal.returns-in-GhashGeneric
returns-in-GhashGeneric c =
    let h = c.in_ok-aes.ensures in
    let split = c.in_ok-front.ensures in
    let key = c.args.key.now in
    rw (c.in-GhashGeneric.is, c.new-in-GhashGeneric-2.ensures, c.new-in-GhashGeneric.ensures) (
      is_salted_length-true key c.in_ok-front.front.now split.0 split.1 h.0,
      under_bits_salted (c.in_ok-aes.aes, c.in_ok-front.salt) c.args.form _ key (h.1 ∙ split.1) h.2 split.2,
    )

pub returns-in_ok-new-in-GhashTable : goal.returns-in_ok-new-in-GhashTable
returns-in_ok-new-in-GhashTable c =
    let h = c.in_ok-aes.ensures in
    let split = c.in_ok-front.ensures in
    let key = c.args.key.now in
    let boxed = c.in_ok-new-in-GhashTable.field-0 in
    let same : boxed.value ≡ (c.in_ok-aes.aes, c.in_ok-front.salt) =
    c.in_ok-new-in-GhashTable.ensures.ok ∙ (c.new-mode.ensures ∙ ap (λ aes. (aes, c.in_ok-front.salt)) c.new-in-GhashTable.ensures) in (
      is_salted_length-true key c.in_ok-front.front.now split.0 split.1 h.0,
      under_lanes_salted boxed c.args.form _ key (ap (λ m. key_of m.0) same ∙ (h.1 ∙ split.1)) (ap (λ m. form_of m.0) same ∙ h.2) (ap (λ m. m.1) same ∙ split.2),
    )
