use Rattle.std.proofs.Common.{ℕ, suc, ◌/◌, List, ◌++◌, length, drop, ap₂, ◌∙◌}
use Rattle.std_defs.specs.Aes.{seal}
use Rattle.std_defs.specs.Blocks.{joined}
use Rattle.std_defs.specs.Modes.{cbc_block}
use Rattle.transforms.specs.Forms.{key_of}
use Rattle.transforms.specs.declared.any_aes.AnyAes.{AnyAes}
use Rattle.perdoaze_calls.proofs.Making.{cbc_made, cbc_rest}
use Rattle.perdoaze_calls.proofs.direct.seal_cbc.Goals as goal

pub returns-clause-sealed : goal.returns-clause-sealed
returns-clause-sealed c =
    let from : List ℕ = c.args.from.now in
    let made = c.seal_under.ensures
    ∙ ap₂ (λ (a : AnyAes) (v : List ℕ). joined (λ j. cbc_block (seal (key_of a)) v from (suc j)) (length from / 16) ++ drop (length from) c.args.into.now)
    c.cipher.ensures c.copy_from_slice.ensures.after in
    cbc_made (seal (key_of c.args.mode.now)) c.args.iv.now from c.args.into.now c.seal_under.new.into c.requires.whole made c.seal_under.auto.into c.requires.room

pub returns-clause-rest : goal.returns-clause-rest
returns-clause-rest c =
    let from : List ℕ = c.args.from.now in
    let made = c.seal_under.ensures
    ∙ ap₂ (λ (a : AnyAes) (v : List ℕ). joined (λ j. cbc_block (seal (key_of a)) v from (suc j)) (length from / 16) ++ drop (length from) c.args.into.now)
    c.cipher.ensures c.copy_from_slice.ensures.after in
    cbc_rest (seal (key_of c.args.mode.now)) c.args.iv.now from c.args.into.now c.seal_under.new.into made c.seal_under.auto.into c.requires.room
