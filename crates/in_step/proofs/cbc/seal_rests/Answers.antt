use Rattle.std.proofs.Common.{◌≡◌, ◌∙◌, ◌/◌, ◌≤◌, ℕ, List, [], min, arith, sym, subst, slice_index, slice_index_or, inl, inr}
use Rattle.std.proofs.lemmas.Bool.{cases_lt}
use Rattle.std_defs.specs.Modes.{cbc_block}
use Rattle.in_step.specs.Texts.{text_in, Sealed}
use Rattle.in_step.proofs.cbc.seal_rests.Goals as goal

pub loop-n-preserved : goal.loop-n-preserved
loop-n-preserved g c =
    let s : List ℕ → List ℕ = g.C.BlockCipher.sealed c.args.cipher.now in
    let n = c.loop-n.n in
    let steps = c.args.steps in
    let held = c.loop-n.invariant in
    let others = c.seal_rest.ensures.others in
    let old : ℕ → List ℕ = λ k. text_in g.T.Text.bytes_of c.args.texts.now k in
    let new : ℕ → List ℕ = λ k. text_in g.T.Text.bytes_of c.seal_rest.new.texts k in
    let blocks : ℕ → ℕ = λ k. slice_index c.args.lengths.now k / 16 in
    record {
      sealed = λ k iv orig below begun chain. elim (cases_lt k n) [
        | inl before ↦ subst (λ (t : List ℕ). Sealed s iv orig t (blocks k)) (sym (others k (omega (arith, before)))) (held.sealed k iv orig before begun chain)
        | inr from ↦
            let is : k ≡ n = omega (arith, below, from) in
            let begun_here : Sealed s iv orig (old n) (min steps (blocks n)) = subst (λ (j : ℕ). Sealed s iv orig (old j) (min steps (blocks j))) is begun in
            let chain_here : steps ≤ blocks n → slice_index_or c.args.chains.now n [] ≡ cbc_block s iv orig steps =
            subst (λ (j : ℕ). steps ≤ blocks j → slice_index_or c.args.chains.now j [] ≡ cbc_block s iv orig steps) is chain in
            let now_here = subst (λ (t : List ℕ). Sealed s iv orig t (min steps (blocks n))) (sym (held.left n (omega arith))) begun_here in
            subst (λ (j : ℕ). Sealed s iv orig (new j) (blocks j)) (sym is) (c.seal_rest.ensures.sealed iv orig now_here chain_here)
      ];
      left = λ k from. others k (omega (arith, from)) ∙ held.left k (omega (arith, from));
      count = c.seal_rest.ensures.count ∙ held.count;
    }
