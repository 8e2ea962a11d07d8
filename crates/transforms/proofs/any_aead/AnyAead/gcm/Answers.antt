use Rattle.std.proofs.Common.{◌≡◌, ◌∙◌, ap, length}
use Rattle.transforms.specs.Forms.{key_of, form_of}
use Rattle.transforms.proofs.Under.{is_key_length-true}
use Rattle.transforms.proofs.UnderTag.{under_bits, under_lanes}
use Rattle.transforms.proofs.any_aead.AnyAead.gcm.Goals as goal

pub returns-in-GhashGeneric : goal.returns-in-GhashGeneric
returns-in-GhashGeneric c =
    let h = c.in_ok-aes.ensures in
    rw (c.in-GhashGeneric.is, c.new-in-GhashGeneric.ensures)
    (is_key_length-true (length c.args.key.now) h.0, under_bits c.in_ok-aes.aes c.args.form _ c.args.key.now h.1 h.2)

pub returns-in_ok-new-in-GhashTable : goal.returns-in_ok-new-in-GhashTable
returns-in_ok-new-in-GhashTable c =
    let h = c.in_ok-aes.ensures in
    let boxed = c.in_ok-new-in-GhashTable.field-0 in
    let same : boxed.value ≡ c.in_ok-aes.aes = c.in_ok-new-in-GhashTable.ensures.ok ∙ c.new-in-GhashTable.ensures in
    (is_key_length-true (length c.args.key.now) h.0, under_lanes boxed c.args.form _ c.args.key.now (ap key_of same ∙ h.1) (ap form_of same ∙ h.2))
