use Rattle.std.proofs.Common.{◌≡◌, ◌+◌, ◌-◌, ◌≤◌, ◌<◌, ℕ, List, [], ap, ◌∙◌, arith, rules, length, take, drop, get_or, min, length-take, length-drop, length-append}
use Rattle.std.proofs.lemmas.List.{drop_all}
use Rattle.std.specs.List.{concat}
use Rattle.sg_walk.proofs.Joined.{copied_more, copied_rest, same_rest}
use Rattle.piece_modes.proofs.Parts.{part_at, count_is}
use Rattle.piece_modes.specs.Pieces.{parts_of}
use Rattle.piece_modes.specs.declared.piece.PieceMut.{PieceMut}
use Rattle.piece_modes.proofs.copies.gather.Goals as goal

pub loop-i-preserved : goal.loop-i-preserved
loop-i-preserved c =
    let ps = c.args.pieces.now in
    let parts : List (List ℕ) = parts_of c.args.pieces.now in
    let n : ℕ = length c.args.into.now in
    let inside : c.loop-i.i < length (parts_of c.args.pieces.now) = omega (arith, c.loop-i-test.true, count_is c.args.pieces.now) in
    let part : c.bytes-piece.result.now ≡ get_or (parts_of c.args.pieces.now) c.loop-i.i [] =
    c.bytes-piece.ensures ∙ (ap (λ (p : PieceMut). p.bytes.now) c.index-pieces-i.is ∙ part_at ps c.loop-i.i c.index-pieces-i.result c.loop-i-test.true) in
    let from : c.min-begin.result ≡ min c.loop-i.skip (length c.bytes-piece.result.now) = c.min-begin.ensures in
    let many : c.min-count.result ≡ min (length c.bytes-piece.result.now - c.min-begin.result) (n - c.loop-i.done) =
    c.min-count.ensures ∙ ap (λ (k : ℕ). min (length c.bytes-piece.result.now - c.min-begin.result) (k - c.loop-i.done)) c.loop-i.invariant.long in
    let room : c.loop-i.done + c.min-count.result ≤ length c.loop-i.into = omega (arith, many, c.loop-i.invariant.room, c.loop-i.invariant.long) in
    let rest = copied_rest parts c.loop-i.i c.loop-i.skip c.loop-i.done c.min-begin.result c.min-count.result n c.loop-i.into c.copy_from_slice.new.self c.bytes-piece.result.now inside part from many room c.copy_from_slice.ensures.after in
    record {
      copied = copied_more parts c.loop-i.i c.loop-i.skip c.loop-i.done c.min-begin.result c.min-count.result n c.loop-i.into c.copy_from_slice.new.self c.bytes-piece.result.now inside part from many room c.copy_from_slice.ensures.after
          ∙ c.loop-i.invariant.copied;
      rest = rest ∙ same_rest c.loop-i.into c.args.into.now c.loop-i.done c.min-count.result c.loop-i.invariant.rest;
      long = search rules;
      room = omega (arith, room, c.loop-i.invariant.long);
    }

pub returns-clause-count : goal.returns-clause-count
returns-clause-count c =
    let parts : List (List ℕ) = parts_of c.args.pieces.now in
    let past : length (concat (drop c.loop-i.i (parts_of c.args.pieces.now))) ≡ 0 = ap (λ (ps : List (List ℕ)). length (concat ps)) (drop_all c.loop-i.i parts (omega (arith, c.loop-i-test.false, count_is c.args.pieces.now))) in
    let n : ℕ = length c.args.into.now in
    let all : List ℕ = concat (drop c.args.first (parts_of c.args.pieces.now)) in
    let left : List ℕ = drop c.loop-i.skip (concat (drop c.loop-i.i (parts_of c.args.pieces.now))) in
    omega (
      arith,
      ap length c.loop-i.invariant.copied,
      length-append (take c.loop-i.done c.loop-i.into) (take (n - c.loop-i.done) left),
      length-take c.loop-i.done c.loop-i.into,
      length-take (n - c.loop-i.done) left,
      length-drop c.loop-i.skip (concat (drop c.loop-i.i (parts_of c.args.pieces.now))),
      length-take n (drop c.args.at all),
      length-drop c.args.at all,
      c.loop-i.invariant.room,
      c.loop-i.invariant.long,
      past,
    )
