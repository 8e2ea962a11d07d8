use Rattle.std.proofs.Common.{ap, ◌∙◌, refl, sym, cond, Some, None, length, take, bytes_eq, inl, arith}
use Rattle.std.proofs.lemmas.Bool.{not-true, not-false}
use Rattle.std_defs.specs.Gcm.{counter_block, gcm_text, gcm_open}
use Rattle.std_defs.specs.Value.{or_bad_message}
use Rattle.gcm_mode.proofs.gcm.Gcm.unseal.Goals as goal

pub returns-then-tags_differ : goal.returns-then-tags_differ
unfolding gcm_open counter_block
returns-then-tags_differ g c =
    let first = (rw c.self.view_is at (c.first_ciphers-first.ensures 0 (omega arith) (omega arith))) in
    let differ = not-true (bytes_eq (take (length c.args.tag.now) c.tag-full.result) c.args.tag.now) (sym c.tags_differ.ensures ∙ c.if-tags_differ.true) in (
      inl (
        refl,
        ap (λ t. or_bad_message (cond (bytes_eq (take (length c.args.tag.now) t) c.args.tag.now) (Some (gcm_text (g.C.BlockCipher.sealed c.args.self.now) c.args.iv.now c.args.text.now)) None)) (sym (c.tag-full.ensures c.args.iv.now first))
            ∙ ap (λ b. or_bad_message (cond b (Some (gcm_text (g.C.BlockCipher.sealed c.args.self.now) c.args.iv.now c.args.text.now)) None)) differ,
      ),
      refl,
    )

pub apply_behind_first-requires : goal.apply_behind_first-requires
apply_behind_first-requires g c = c.first_ciphers-first.ensures

pub returns : goal.returns
unfolding gcm_open counter_block
returns g c =
    let first = (rw c.self.view_is at (c.first_ciphers-first.ensures 0 (omega arith) (omega arith))) in
    let same = not-false (bytes_eq (take (length c.args.tag.now) c.tag-full.result) c.args.tag.now) (sym c.tags_differ.ensures ∙ c.if-tags_differ.false) in
    let text = (rw c.self.view_is at c.apply_behind_first.ensures) in
    ap (λ t. or_bad_message (cond (bytes_eq (take (length c.args.tag.now) t) c.args.tag.now) (Some (gcm_text (g.C.BlockCipher.sealed c.args.self.now) c.args.iv.now c.args.text.now)) None)) (sym (c.tag-full.ensures c.args.iv.now first))
    ∙ ap (λ b. or_bad_message (cond b (Some (gcm_text (g.C.BlockCipher.sealed c.args.self.now) c.args.iv.now c.args.text.now)) None)) same
    ∙ ap (λ t. or_bad_message (Some t)) (sym text)
