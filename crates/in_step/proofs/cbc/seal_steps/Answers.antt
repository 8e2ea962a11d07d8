use Rattle.std.proofs.Common.{◌≡◌, ◌∙◌, ◌+◌, ◌*◌, ◌/◌, ◌<◌, ◌≤◌, ℕ, suc, List, [], ap, ap₂, refl, min, arith, length, slice_index, slice_index_or, inl, inr, add-one}
use Rattle.std.proofs.lemmas.Bool.{cases_lt}
use Rattle.std.proofs.lemmas.List.{get_or-map}
use Rattle.std_defs.specs.Blocks.{xor_blocks}
use Rattle.std_defs.specs.Modes.{cbc_block}
use Rattle.in_step.specs.Texts.{text_in, Sealed}
use Rattle.in_step.proofs.Chains.{begun, sealed_kept, sealed_more, sealed_next, sealed_none}
use Rattle.in_step.proofs.cbc.seal_steps.Goals as goal

pub loop-i-init : goal.loop-i-init
loop-i-init g c =
    let s : List ℕ → List ℕ = g.C.BlockCipher.sealed c.args.cipher.now in
    let orig : ℕ → List ℕ = λ n. text_in g.T.Text.bytes_of c.args.texts.now n in
    record {
      texts = λ n lt. sealed_kept s (slice_index_or c.args.ivs.now n []) (orig n) (orig n) (orig n) 0 (min 0 (slice_index c.args.lengths.now n / 16))
          (sealed_none s (slice_index_or c.args.ivs.now n []) (orig n)) refl (omega arith);
      chains = λ n lt le. begun s (slice_index_or c.args.ivs.now n []) (orig n);
      count = refl;
    }

pub loop-i-preserved : goal.loop-i-preserved
unfolding cbc_block
loop-i-preserved g c =
    let s : List ℕ → List ℕ = g.C.BlockCipher.sealed c.args.cipher.now in
    let i = c.loop-i.i in
    let held = c.loop-i.invariant in
    let count : ℕ → ℕ = λ n. slice_index c.args.lengths.now n / 16 in
    let iv : ℕ → List ℕ = λ n. slice_index_or c.args.ivs.now n [] in
    let orig : ℕ → List ℕ = λ n. text_in g.T.Text.bytes_of c.args.texts.now n in
    let now : ℕ → List ℕ = λ n. text_in g.T.Text.bytes_of c.loop-i.texts n in
    let new : ℕ → List ℕ = λ n. text_in g.T.Text.bytes_of c.put_blocks.new.texts n in
    let within : (n : ℕ) → n < 8 → i < count n → 16 * i + 16 ≤ length (orig n) = λ n lt at. omega (arith, at, (c.requires n lt).1) in
    let so_far : (n : ℕ) → n < 8 → i < count n → Sealed s (iv n) (orig n) (now n) i =
    λ n lt at. sealed_kept s (iv n) (orig n) (now n) (now n) (min i (count n)) i (held.texts n lt) refl (omega (arith, at)) in
    let chain : (n : ℕ) → n < 8 → i < count n → slice_index_or c.seal_eight.new.b n [] ≡ cbc_block s (iv n) (orig n) (suc i) =
    λ n lt at. ap (λ (b : List (List ℕ)). slice_index_or b n []) c.seal_eight.ensures ∙ get_or-map s c.add_blocks.new.chains n [] [] (omega (arith, lt, c.add_blocks.array_long))
    ∙ ap s (c.add_blocks.ensures n lt at ∙ ap₂ xor_blocks (sealed_next s (iv n) (orig n) (now n) i (so_far n lt at) (within n lt at)) (held.chains n lt (omega (arith, at)))) in
    record {
      texts = λ n lt. elim (cases_lt i (count n)) [
        | inl at ↦
            sealed_kept s (iv n) (orig n) (new n) (new n) (i + 1) (min (i + 1) (count n))
            (sealed_more s (iv n) (orig n) (now n) (new n) (slice_index_or c.seal_eight.new.b n []) i (so_far n lt at) (within n lt at) (chain n lt at)
            (c.put_blocks.ensures.same n) (c.put_blocks.ensures.put n lt at)) refl (omega (arith, at))
        | inr past ↦
            sealed_kept s (iv n) (orig n) (now n) (new n) (min i (count n)) (min (i + 1) (count n)) (held.texts n lt) (c.put_blocks.ensures.kept n lt past) (omega (arith, past))
      ];
      chains = λ n lt le. rw add-one (chain n lt (omega (arith, le)));
      count = c.put_blocks.ensures.count ∙ held.count;
    }

pub returns-clause-texts : goal.returns-clause-texts
returns-clause-texts g c = λ n lt.
    sealed_kept (g.C.BlockCipher.sealed c.args.cipher.now) (slice_index_or c.args.ivs.now n []) (text_in g.T.Text.bytes_of c.args.texts.now n) (text_in g.T.Text.bytes_of c.loop-i.texts n)
    (text_in g.T.Text.bytes_of c.loop-i.texts n) (min c.loop-i.i (slice_index c.args.lengths.now n / 16)) (min c.args.steps (slice_index c.args.lengths.now n / 16))
    (c.loop-i.invariant.texts n lt) refl (omega arith)

pub returns-clause-chains : goal.returns-clause-chains
returns-clause-chains g c = λ n lt le.
    let all : c.loop-i.i ≡ c.args.steps = omega arith in
    c.loop-i.invariant.chains n lt (omega (arith, le, all))
    ∙ ap (cbc_block (g.C.BlockCipher.sealed c.args.cipher.now) (slice_index_or c.args.ivs.now n []) (text_in g.T.Text.bytes_of c.args.texts.now n)) all
