use Rattle.std.proofs.Common.{◌≡◌, ◌∙◌, ◌+◌, ◌*◌, ◌/◌, ◌≤◌, ◌++◌, ℕ, suc, List, ap, ap₂, refl, min, arith, length, take, drop, length-append, length-take, length-drop, add-one}
use Rattle.std_defs.specs.Blocks.{text_block, xor_blocks}
use Rattle.std_defs.specs.Modes.{cbc_block}
use Rattle.in_step.specs.Texts.{text_in, Sealed}
use Rattle.in_step.proofs.Chains.{sealed_kept, sealed_more, sealed_next}
use Rattle.in_step.proofs.cbc.seal_rest.Goals as goal

pub loop-i-preserved : goal.loop-i-preserved
unfolding cbc_block
loop-i-preserved g c =
    let s : List ℕ → List ℕ = g.C.BlockCipher.sealed c.args.cipher.now in
    let i = c.loop-i.i in
    let n = c.args.n in
    let held = c.loop-i.invariant in
    let now : List ℕ = text_in g.T.Text.bytes_of c.loop-i.texts n in
    let new : List ℕ = text_in g.T.Text.bytes_of c.write_at.new.texts n in
    let block : List ℕ = c.seal_block.new.b in
    let at = c.loop-i-test.true in
    let place : 16 * i + length block ≡ 16 * i + 16 = omega (arith, c.seal_block.array_long) in
    let written : new ≡ take (16 * i) now ++ block ++ drop (16 * i + 16) now = c.write_at.ensures.text ∙ ap (λ (k : ℕ). take (16 * i) now ++ block ++ drop k now) place in
    let same : length new ≡ length now =
    omega (
      arith,
      ap length written,
      length-append (take (16 * i) now ++ block) (drop (16 * i + 16) now),
      length-append (take (16 * i) now) block,
      length-take (16 * i) now,
      length-drop (16 * i + 16) now,
      c.seal_block.array_long,
      at,
      c.requires,
      held.same,
    ) in
    let so_far : (iv orig : List ℕ) → Sealed s iv orig now (min i (c.args.len / 16)) → Sealed s iv orig now i =
    λ iv orig was. sealed_kept s iv orig now now (min i (c.args.len / 16)) i was refl (omega (arith, at)) in
    let within : (iv orig : List ℕ) → Sealed s iv orig now i → 16 * i + 16 ≤ length orig = λ iv orig was. omega (arith, at, was.long, c.requires, held.same) in
    let next : (iv orig : List ℕ) → Sealed s iv orig now i → c.loop-i.chain ≡ cbc_block s iv orig i → block ≡ cbc_block s iv orig (suc i) =
    λ iv orig was chain. c.seal_block.ensures ∙ ap s (c.add_block.ensures
    ∙ ap₂ xor_blocks (c.block_at.ensures ∙ ap (λ (t : List ℕ). text_block t i) c.bytes_at.ensures ∙ sealed_next s iv orig now i was (within iv orig was)) chain) in
    record {
      sealed = λ iv orig begun chain.
          let was : Sealed s iv orig now i = so_far iv orig (held.sealed iv orig begun chain) in
          sealed_kept s iv orig new new (i + 1) (min (i + 1) (c.args.len / 16))
          (sealed_more s iv orig now new block i was (within iv orig was) (next iv orig was (held.chain iv orig begun chain (omega (arith, at)))) same written) refl (omega (arith, at));
      chain = λ iv orig begun chain le.
          rw add-one (next iv orig (so_far iv orig (held.sealed iv orig begun chain)) (held.chain iv orig begun chain (omega (arith, at))));
      others = λ k other. c.write_at.ensures.others k other ∙ held.others k other;
      same = same ∙ held.same;
      count = c.write_at.ensures.count ∙ held.count;
    }
