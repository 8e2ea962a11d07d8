use Rattle.std.proofs.Common.{refl, sym, ap, ◌∙◌, inl, length, take, bytes_eq}
use Rattle.std.proofs.lemmas.Bool.{not-true, not-false}
use Rattle.std_defs.specs.Gcm.{gcm_text}
use Rattle.piece_modes.specs.Pieces.{text_over}
use Rattle.piece_modes.proofs.Openings.{refused, opened}
use Rattle.piece_modes.proofs.gcm.open_gcm.Goals as goal

pub returns-then-tags_differ-clause-text : goal.returns-then-tags_differ-clause-text
returns-then-tags_differ-clause-text g c = (
  inl (
    refl,
    refused (g.C.BlockCipher.sealed c.args.gcm.now) c.args.iv.now c.args.associated.now (take c.args.n (text_over c.args.pieces.now)) c.tag_over-full.result c.args.tag.now c.tag_over-full.ensures.tag
        (not-true (bytes_eq (take (length c.args.tag.now) c.tag_over-full.result) c.args.tag.now) (sym c.tags_differ.ensures ∙ c.if-tags_differ.true)),
  ),
  c.tag_over-full.ensures.text,
)

pub returns-clause-text : goal.returns-clause-text
returns-clause-text g c =
    let cipher = g.C.BlockCipher.sealed c.args.gcm.now in
    opened cipher c.args.iv.now c.args.associated.now (take c.args.n (text_over c.args.pieces.now)) c.tag_over-full.result c.args.tag.now c.tag_over-full.ensures.tag
    (take c.args.n (text_over c.count_over.new.pieces))
    (not-false (bytes_eq (take (length c.args.tag.now) c.tag_over-full.result) c.args.tag.now) (sym c.tags_differ.ensures ∙ c.if-tags_differ.false))
    ((rw c.cipher.ensures at c.count_over.ensures.text) ∙ ap (gcm_text cipher c.args.iv.now) c.tag_over-full.ensures.text)
