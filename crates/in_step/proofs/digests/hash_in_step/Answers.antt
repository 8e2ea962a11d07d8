use Rattle.std.proofs.Common.{◌≡◌, ◌∙◌, ◌+◌, ℕ, List, ap, ap₂, sym, arith, slice_index, inl, inr}
use Rattle.std.proofs.lemmas.Bool.{cases_lt}
use Rattle.sha2.specs.Sha256.{compress, hash_after}
use Rattle.sha_lanes.proofs.HashedBlocks.{none, next}
use Rattle.in_step.specs.Pieces.{behind, piece}
use Rattle.in_step.proofs.digests.hash_in_step.Goals as goal

pub loop-i-init : goal.loop-i-init
loop-i-init c = record {
  live = λ n lt le. c.in_all_lanes-values.ensures n lt ∙ none c.args.start.now (behind c.args.taken (piece c.args.firsts.now n) (piece c.args.seconds.now n));
  done = λ n lt le. absurd (omega (arith, le, c.requires.counts n lt));
}

pub loop-i-preserved : goal.loop-i-preserved
loop-i-preserved c =
    let h = c.args.start.now in
    let i = c.loop-i.i in
    let held = c.loop-i.invariant in
    let stream : ℕ → List ℕ = λ n. behind c.args.taken (piece c.args.firsts.now n) (piece c.args.seconds.now n) in
    record {
      live = λ n lt le. c.compress_in_step-next.ensures n lt ∙ ap₂ compress (held.live n lt (omega (arith, le))) (c.put_blocks.ensures n lt (omega (arith, le))) ∙ sym (next h (stream n) i);
      done = λ n lt le. elim (cases_lt (slice_index c.args.counts.now n) (i + 1)) [
        | inl before ↦ c.keep.ensures.below n lt before ∙ held.done n lt (omega (arith, before))
        | inr from ↦
            let is : i + 1 ≡ slice_index c.args.counts.now n = omega (arith, le, from) in
            c.keep.ensures.taken n lt from le ∙ c.compress_in_step-next.ensures n lt
            ∙ ap₂ compress (held.live n lt (omega (arith, from))) (c.put_blocks.ensures n lt (omega (arith, from))) ∙ sym (next h (stream n) i) ∙ ap (hash_after h (stream n)) is
      ];
    }
