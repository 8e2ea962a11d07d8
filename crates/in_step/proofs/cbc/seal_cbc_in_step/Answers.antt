use Rattle.std.proofs.Common.{◌/◌, ℕ, List, [], subst, arith, slice_index, slice_index_or}
use Rattle.in_step.specs.Texts.{text_in, Sealed}
use Rattle.in_step.proofs.Chains.{front_sealed, rest_kept}
use Rattle.in_step.proofs.cbc.seal_cbc_in_step.Goals as goal

pub returns-clause-sealed : goal.returns-clause-sealed
returns-clause-sealed g c = λ n lt.
    let iv : List ℕ = slice_index_or c.args.ivs.now n [] in
    let orig : List ℕ = text_in g.T.Text.bytes_of c.args.texts.now n in
    let new : List ℕ = text_in g.T.Text.bytes_of c.seal_rests.new.texts n in
    let len : ℕ = slice_index c.args.lengths.now n in
    let ready = c.requires n lt in
    let all = c.seal_rests.ensures.sealed n iv orig lt (c.seal_steps-chains.ensures.texts n lt) (c.seal_steps-chains.ensures.chains n lt) in
    front_sealed (g.C.BlockCipher.sealed c.args.mode.now) iv orig new (len / 16) len (omega (arith, ready.0)) ready.1
    (subst (λ m. Sealed (g.C.BlockCipher.sealed m) iv orig new (len / 16)) c.cipher-cipher.ensures all)

pub returns-clause-rest : goal.returns-clause-rest
returns-clause-rest g c = λ n lt.
    let iv : List ℕ = slice_index_or c.args.ivs.now n [] in
    let orig : List ℕ = text_in g.T.Text.bytes_of c.args.texts.now n in
    let len : ℕ = slice_index c.args.lengths.now n in
    let ready = c.requires n lt in
    rest_kept (g.C.BlockCipher.sealed c.cipher-cipher.result.now) iv orig (text_in g.T.Text.bytes_of c.seal_rests.new.texts n) (len / 16) len (omega (arith, ready.0)) ready.1
    (c.seal_rests.ensures.sealed n iv orig lt (c.seal_steps-chains.ensures.texts n lt) (c.seal_steps-chains.ensures.chains n lt))

pub returns-clause-length : goal.returns-clause-length
returns-clause-length g c = λ n lt.
    (c.seal_rests.ensures.sealed n (slice_index_or c.args.ivs.now n []) (text_in g.T.Text.bytes_of c.args.texts.now n) lt (c.seal_steps-chains.ensures.texts n lt)
    (c.seal_steps-chains.ensures.chains n lt)).long
