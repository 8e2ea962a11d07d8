use Rattle.std.proofs.Common.{ap, ◌∙◌, arith}
use Rattle.std_defs.specs.Gcm.{counter_block, gcm_tag, gcm_seal}
use Rattle.std_defs.proofs.GcmOpened.{gcm_open-seal}
use Rattle.gcm_mode.proofs.Whole.{gcm_open-seal_whole}
use Rattle.gcm_mode.proofs.gcm.Gcm.seal.Goals as goal

pub apply_behind_first-requires : goal.apply_behind_first-requires
apply_behind_first-requires g c = c.first_ciphers-first.ensures

pub returns-clause-sealed : goal.returns-clause-sealed
unfolding gcm_seal counter_block
returns-clause-sealed g c =
    let text = (rw c.self.view_is at c.apply_behind_first.ensures) in
    let first = (rw c.self.view_is at (c.first_ciphers-first.ensures 0 (omega arith) (omega arith))) in
    let tag = c.tag.ensures c.args.iv.now first ∙ ap (gcm_tag (g.C.BlockCipher.sealed c.args.self.now) c.args.iv.now c.args.associated.now) text in
    λ i. (text i, tag i)

pub returns-clause-opens_whole : goal.returns-clause-opens_whole
unfolding counter_block
returns-clause-opens_whole g c =
    let text = (rw c.self.view_is at c.apply_behind_first.ensures) in
    let first = (rw c.self.view_is at (c.first_ciphers-first.ensures 0 (omega arith) (omega arith))) in
    gcm_open-seal_whole (g.C.BlockCipher.sealed c.args.self.now) c.args.iv.now c.args.associated.now c.args.text.now
    c.apply_behind_first.new.text c.tag.result text (c.tag.ensures c.args.iv.now first)

pub returns-clause-opens : goal.returns-clause-opens
unfolding counter_block
returns-clause-opens g c = λ n short.
    let text = (rw c.self.view_is at c.apply_behind_first.ensures) in
    let first = (rw c.self.view_is at (c.first_ciphers-first.ensures 0 (omega arith) (omega arith))) in
    gcm_open-seal (g.C.BlockCipher.sealed c.args.self.now) c.args.iv.now c.args.associated.now c.args.text.now
    c.apply_behind_first.new.text c.tag.result n text (c.tag.ensures c.args.iv.now first) short
