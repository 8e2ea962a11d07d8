use Rattle.std.proofs.Common.{◌≡◌, ◌+◌, ◌<◌, ◌≤◌, ℕ, List, refl, sym, ap, ◌∙◌, arith, length, take, drop, length-drop}
use Rattle.std.proofs.lemmas.List.{drop_all}
use Rattle.std.specs.List.{concat}
use Rattle.sg_walk.specs.Segments.{written}
use Rattle.sg_walk.proofs.Joined.{concat_at, written_behind, written_end, same_total}
use Rattle.piece_modes.proofs.Parts.{count_is, text_scattered, sizes_scattered, room_scattered}
use Rattle.piece_modes.specs.Pieces.{parts_of}
use Rattle.piece_modes.proofs.copies.scatter.Goals as goal

pub loop-i-init : goal.loop-i-init
loop-i-init c =
    let parts : List (List ℕ) = parts_of c.args.pieces.now in
    record {
      text = sym (ap (written (length (concat (take c.args.first parts)) + c.args.at) c.args.from.now) (concat_at parts c.args.first)
          ∙ written_behind (concat (take c.args.first parts)) c.args.at c.args.from.now (concat (drop c.args.first parts)));
      sizes = refl;
      room = omega arith;
      within = omega arith;
    }

pub returns-then-done-from-clause-text : goal.returns-then-done-from-clause-text
returns-then-done-from-clause-text c =
    sym (written_end (parts_of c.loop-i.pieces) c.loop-i.i c.loop-i.skip (drop c.loop-i.done c.args.from.now) (omega (arith, length-drop c.loop-i.done c.args.from.now)))
    ∙ c.loop-i.invariant.text

pub loop-i-preserved : goal.loop-i-preserved
loop-i-preserved c =
    let at = c.loop-i in
    let inside : c.loop-i.i < length c.loop-i.pieces = omega (arith, c.loop-i-test.true, c.loop-i.auto.pieces) in
    record {
      text = text_scattered at.pieces at.i at.skip at.done c.min-begin.result c.min-count.result c.len_of-len.result c.args.from.now _ _ c.overwrite.new.piece inside
          c.len_of-len.ensures c.min-begin.ensures c.min-count.ensures refl c.overwrite.ensures
          ∙ at.invariant.text;
      sizes = sizes_scattered at.pieces at.i at.skip at.done c.min-begin.result c.min-count.result c.len_of-len.result c.args.from.now _ _ c.overwrite.new.piece inside
          c.len_of-len.ensures c.min-begin.ensures c.min-count.ensures refl c.overwrite.ensures
          ∙ at.invariant.sizes;
      room = omega (arith, c.min-count.ensures, at.invariant.room);
      within = room_scattered at.pieces at.i at.skip at.done c.min-begin.result c.min-count.result c.len_of-len.result c.args.from.now _ _ c.overwrite.new.piece inside
          c.len_of-len.ensures c.min-begin.ensures c.min-count.ensures refl c.overwrite.ensures at.invariant.within;
    }

pub returns-clause-text : goal.returns-clause-text
returns-clause-text c =
    let parts : List (List ℕ) = parts_of c.loop-i.pieces in
    let past : length (parts_of c.loop-i.pieces) ≤ c.loop-i.i = omega (arith, c.loop-i.auto.pieces, count_is c.loop-i.pieces) in
    let none : length (concat (drop c.loop-i.i (parts_of c.loop-i.pieces))) ≡ 0 = ap (λ (ps : List (List ℕ)). length (concat ps)) (drop_all c.loop-i.i parts past) in
    sym (written_end parts c.loop-i.i c.loop-i.skip (drop c.loop-i.done c.args.from.now) (omega (arith, length-drop c.loop-i.done c.args.from.now, c.loop-i.invariant.within)))
    ∙ c.loop-i.invariant.text

pub returns-then-done-from-clause-len : goal.returns-then-done-from-clause-len
returns-then-done-from-clause-len c = same_total (parts_of c.loop-i.pieces) (parts_of c.args.pieces.now) c.loop-i.invariant.sizes

pub returns-clause-len : goal.returns-clause-len
returns-clause-len c = same_total (parts_of c.loop-i.pieces) (parts_of c.args.pieces.now) c.loop-i.invariant.sizes
