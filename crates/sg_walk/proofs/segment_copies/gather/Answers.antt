use Rattle.std.proofs.Common.{◌≡◌, ◌+◌, ◌-◌, ◌≤◌, ℕ, List, [], ap, ◌∙◌, arith, rules, length, take, drop, get_or, min, length-take, length-drop, length-append}
use Rattle.std.proofs.lemmas.List.{drop_all, get_or_default}
use Rattle.std.specs.List.{concat}
use Rattle.sg_walk.proofs.Joined.{copied_more, copied_rest, same_rest}
use Rattle.sg_walk.proofs.segment_copies.gather.Goals as goal

pub loop-i-preserved : goal.loop-i-preserved
loop-i-preserved c =
    let parts = c.args.parts.now in
    let n : ℕ = length c.args.into.now in
    let part : c.as_slice-part.result.now ≡ get_or parts c.loop-i.i [] =
    c.as_slice-part.ensures ∙ (c.index-parts-i.is ∙ get_or_default parts c.loop-i.i c.index-parts-i.result [] c.loop-i-test.true) in
    let from : c.min-begin.result ≡ min c.loop-i.skip (length c.as_slice-part.result.now) = c.min-begin.ensures in
    let many : c.min-count.result ≡ min (length c.as_slice-part.result.now - c.min-begin.result) (n - c.loop-i.done) =
    c.min-count.ensures ∙ ap (λ (k : ℕ). min (length c.as_slice-part.result.now - c.min-begin.result) (k - c.loop-i.done)) c.loop-i.invariant.long in
    let room : c.loop-i.done + c.min-count.result ≤ length c.loop-i.into = omega (arith, many, c.loop-i.invariant.room, c.loop-i.invariant.long) in
    let rest = copied_rest parts c.loop-i.i c.loop-i.skip c.loop-i.done c.min-begin.result c.min-count.result n c.loop-i.into c.copy_from_slice.new.self c.as_slice-part.result.now c.loop-i-test.true part from many room c.copy_from_slice.ensures.after in
    record {
      copied = copied_more parts c.loop-i.i c.loop-i.skip c.loop-i.done c.min-begin.result c.min-count.result n c.loop-i.into c.copy_from_slice.new.self c.as_slice-part.result.now c.loop-i-test.true part from many room c.copy_from_slice.ensures.after
          ∙ c.loop-i.invariant.copied;
      rest = rest ∙ same_rest c.loop-i.into c.args.into.now c.loop-i.done c.min-count.result c.loop-i.invariant.rest;
      long = search rules;
      room = omega (arith, room, c.loop-i.invariant.long);
    }

pub returns-clause-count : goal.returns-clause-count
returns-clause-count c =
    let past : length (concat (drop c.loop-i.i c.args.parts.now)) ≡ 0 = ap (λ (ps : List (List ℕ)). length (concat ps)) (drop_all c.loop-i.i c.args.parts.now c.loop-i-test.false) in
    let n : ℕ = length c.args.into.now in
    let all : List ℕ = concat (drop c.args.first c.args.parts.now) in
    let left : List ℕ = drop c.loop-i.skip (concat (drop c.loop-i.i c.args.parts.now)) in
    omega (
      arith,
      ap length c.loop-i.invariant.copied,
      length-append (take c.loop-i.done c.loop-i.into) (take (n - c.loop-i.done) left),
      length-take c.loop-i.done c.loop-i.into,
      length-take (n - c.loop-i.done) left,
      length-drop c.loop-i.skip (concat (drop c.loop-i.i c.args.parts.now)),
      length-take n (drop c.args.at all),
      length-drop c.args.at all,
      c.loop-i.invariant.room,
      c.loop-i.invariant.long,
    )
