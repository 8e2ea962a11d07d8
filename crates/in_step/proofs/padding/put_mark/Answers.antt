use Rattle.std.proofs.Common.{◌∙◌, ◌-◌, List, ℕ, ap, slice_index, slice_set}
use Rattle.std.proofs.lemmas.Simd.{get_or-replicate}
use Rattle.in_step.proofs.Padded.{unmarked}
use Rattle.in_step.proofs.padding.put_mark.Goals as goal

pub returns-then-len-at-lt64-clause-zeros : goal.returns-then-len-at-lt64-clause-zeros
returns-then-len-at-lt64-clause-zeros c = λ k lt other.
    ap (λ (b : List ℕ). slice_index (slice_set b (c.args.len - c.args.at) 0x80) k) c.copy_from_slice.ensures.after
    ∙ unmarked c.args.at c.args.len k c.if-at-len.true lt other

pub returns-else-at-len-clause-zeros : goal.returns-else-at-len-clause-zeros
returns-else-at-len-clause-zeros c = λ k lt other.
    ap (λ (b : List ℕ). slice_index b k) c.copy_from_slice.ensures.after ∙ get_or-replicate 64 k 0 0 lt
