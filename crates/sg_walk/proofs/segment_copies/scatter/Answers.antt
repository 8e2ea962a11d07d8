use Rattle.std.proofs.Common.{◌≡◌, ◌+◌, ◌-◌, ◌<◌, ◌≤◌, ℕ, List, [], refl, sym, ap, ◌∙◌, arith, length, take, drop, get_or, min, length-drop}
use Rattle.std.proofs.lemmas.List.{drop_all, get_or_default}
use Rattle.std.specs.List.{concat}
use Rattle.sg_walk.specs.Segments.{written}
use Rattle.sg_walk.proofs.Joined.{concat_at, written_behind, length_from, written_sizes, behind_same, written_more, written_end, same_total}
use Rattle.sg_walk.proofs.segment_copies.scatter.Goals as goal

pub loop-i-init : goal.loop-i-init
loop-i-init c =
    let parts = c.args.parts.now in
    record {
      text = sym (ap (written (length (concat (take c.args.first parts)) + c.args.at) c.args.piece.now) (concat_at parts c.args.first)
          ∙ written_behind (concat (take c.args.first parts)) c.args.at c.args.piece.now (concat (drop c.args.first parts)));
      sizes = refl;
      room = omega arith;
      within = omega arith;
    }

pub returns-then-done-piece-clause-text : goal.returns-then-done-piece-clause-text
returns-then-done-piece-clause-text c =
    sym (written_end c.loop-i.parts c.loop-i.i c.loop-i.skip (drop c.loop-i.done c.args.piece.now) (omega (arith, length-drop c.loop-i.done c.args.piece.now)))
    ∙ c.loop-i.invariant.text

pub loop-i-preserved : goal.loop-i-preserved
loop-i-preserved c =
    let parts : List (List ℕ) = c.loop-i.parts in
    let p : List ℕ = get_or c.loop-i.parts c.loop-i.i c.index-parts-i-in-loop-i.result in
    let within : c.loop-i.i < length c.loop-i.parts = omega (arith, c.loop-i.auto.parts) in
    let part : get_or c.loop-i.parts c.loop-i.i c.index-parts-i-in-loop-i.result ≡ get_or c.loop-i.parts c.loop-i.i [] = get_or_default parts c.loop-i.i c.index-parts-i-in-loop-i.result [] within in
    let same : get_or c.loop-i.parts c.loop-i.i c.index-parts-i.result ≡ get_or c.loop-i.parts c.loop-i.i [] = get_or_default parts c.loop-i.i c.index-parts-i.result [] within in
    let long : c.len-len.result ≡ length (get_or c.loop-i.parts c.loop-i.i c.index-parts-i-in-loop-i.result) = c.len-len.ensures ∙ ap length (same ∙ sym part) in
    let from : c.min-begin.result ≡ min c.loop-i.skip (length (get_or c.loop-i.parts c.loop-i.i c.index-parts-i-in-loop-i.result)) = c.min-begin.ensures ∙ ap (min c.loop-i.skip) long in
    let many : c.min-count.result ≡ min (length (get_or c.loop-i.parts c.loop-i.i c.index-parts-i-in-loop-i.result) - c.min-begin.result) (length c.args.piece.now - c.loop-i.done) =
    c.min-count.ensures ∙ ap (λ (n : ℕ). min (n - c.min-begin.result) (length c.args.piece.now - c.loop-i.done)) long in
    let behind = behind_same parts c.loop-i.i c.loop-i.skip c.loop-i.done c.min-begin.result c.min-count.result c.args.piece.now p c.overwrite.new.part within part from many c.overwrite.ensures in
    record {
      text = written_more parts c.loop-i.i c.loop-i.skip c.loop-i.done c.min-begin.result c.min-count.result c.args.piece.now p c.overwrite.new.part within part from many c.overwrite.ensures
          ∙ c.loop-i.invariant.text;
      sizes = written_sizes parts c.loop-i.i c.loop-i.skip c.loop-i.done c.min-begin.result c.min-count.result c.args.piece.now p c.overwrite.new.part within part from many c.overwrite.ensures
          ∙ c.loop-i.invariant.sizes;
      room = omega (arith, many, c.loop-i.invariant.room);
      within = omega (arith, many, from, c.loop-i.invariant.within, ap length part, length_from parts c.loop-i.i within, ap (λ (ps : List (List ℕ)). length (concat ps)) behind);
    }

pub returns-clause-text : goal.returns-clause-text
returns-clause-text c =
    let past : length c.loop-i.parts ≤ c.loop-i.i = omega (arith, c.loop-i.auto.parts) in
    let none : length (concat (drop c.loop-i.i c.loop-i.parts)) ≡ 0 = ap (λ (ps : List (List ℕ)). length (concat ps)) (drop_all c.loop-i.i c.loop-i.parts past) in
    sym (written_end c.loop-i.parts c.loop-i.i c.loop-i.skip (drop c.loop-i.done c.args.piece.now) (omega (arith, length-drop c.loop-i.done c.args.piece.now, c.loop-i.invariant.within)))
    ∙ c.loop-i.invariant.text

pub returns-then-done-piece-clause-len : goal.returns-then-done-piece-clause-len
returns-then-done-piece-clause-len c = same_total c.loop-i.parts c.args.parts.now c.loop-i.invariant.sizes

pub returns-clause-len : goal.returns-clause-len
returns-clause-len c = same_total c.loop-i.parts c.args.parts.now c.loop-i.invariant.sizes
