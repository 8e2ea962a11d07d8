use Rattle.std.proofs.Common.{◌≡◌, ◌+◌, ◌-◌, ◌*◌, ◌/◌, ◌≤◌, ℕ, [], refl, arith, length, get_or}
use borrow.Rule.Slice.Mut.{set_vals}
use Rattle.sg_walk.proofs.Steps.{stepped_same, stepped_both}
use Rattle.piece_modes.specs.Pieces.{parts_of}
use Rattle.piece_modes.specs.declared.piece.PieceMut.{PieceMut}
use Rattle.piece_modes.proofs.Parts.{of_first, inside_stepped, count_stepped, stepped_first}
use Rattle.piece_modes.proofs.walks.walk_piece.Goals as goal

pub returns-then-at-len-clause-stepped : goal.returns-then-at-len-clause-stepped
returns-then-at-len-clause-stepped g c =
    let makes = g.W.Walker.makes in
    let ps = c.args.pieces.now in
    let k : ℕ = (c.len_of-len.result - c.args.skip) / 16 * 16 in
    let within : c.args.skip + (c.len_of-len.result - c.args.skip) / 16 * 16 ≤ length (get_or (parts_of c.args.pieces.now) c.args.i []) = omega (arith, c.len_of-len.ensures, c.requires.inside) in
    let d : PieceMut = record { bytes = record { ref_ptr = (0, 0); ghost_name = 0; now = [] } } in
    let p : PieceMut = record { bytes = set_vals c.step_within.new.piece (get_or ps c.args.i d).bytes } in
    let all : (c.len_of-len.result - c.args.skip) / 16 * 16 ≡ length (get_or (parts_of c.args.pieces.now) c.args.i []) + 0 - c.args.skip = omega (arith, c.len_of-len.ensures, c.if-at-len.true) in
    stepped_same makes c.args.walker.now c.step_within.new.walker (parts_of ps) _ _ _ k _ refl all
    (stepped_first makes c.args.walker.now c.step_within.new.walker ps c.args.i c.args.skip k d p c.step_within.new.piece c.requires.within within refl c.step_within.ensures.rest c.step_within.ensures.len c.step_within.ensures.made)

pub step_across-count-requires-clause-inside : goal.step_across-count-requires-clause-inside
step_across-count-requires-clause-inside g c =
    let makes = g.W.Walker.makes in
    let ps = c.args.pieces.now in
    let k : ℕ = (c.len_of-len.result - c.args.skip) / 16 * 16 in
    let within : c.args.skip + (c.len_of-len.result - c.args.skip) / 16 * 16 ≤ length (get_or (parts_of c.args.pieces.now) c.args.i []) = omega (arith, c.len_of-len.ensures, c.requires.inside) in
    let d : PieceMut = record { bytes = record { ref_ptr = (0, 0); ghost_name = 0; now = [] } } in
    let p : PieceMut = record { bytes = set_vals c.step_within.new.piece (get_or ps c.args.i d).bytes } in
    let of = of_first ps c.args.i c.requires.within in
    inside_stepped makes c.args.walker.now c.step_within.new.walker ps c.args.i c.args.skip k d p c.step_within.new.piece c.requires.within within refl c.step_within.ensures.rest c.step_within.ensures.len (c.args.skip + (c.len_of-len.result - c.args.skip) / 16 * 16) (omega (arith, c.len_of-len.ensures, c.requires.inside, of))

pub overflow_sub-result-2 : goal.overflow_sub-result-2
overflow_sub-result-2 g c =
    let makes = g.W.Walker.makes in
    let ps = c.args.pieces.now in
    let k : ℕ = (c.len_of-len.result - c.args.skip) / 16 * 16 in
    let within : c.args.skip + (c.len_of-len.result - c.args.skip) / 16 * 16 ≤ length (get_or (parts_of c.args.pieces.now) c.args.i []) = omega (arith, c.len_of-len.ensures, c.requires.inside) in
    let d : PieceMut = record { bytes = record { ref_ptr = (0, 0); ghost_name = 0; now = [] } } in
    let p : PieceMut = record { bytes = set_vals c.step_within.new.piece (get_or ps c.args.i d).bytes } in
    let of = of_first ps c.args.i c.requires.within in
    let count = count_stepped makes c.args.walker.now c.step_within.new.walker ps c.args.i c.args.skip k d p c.step_within.new.piece c.requires.within within refl c.step_within.ensures.rest c.step_within.ensures.len (c.args.skip + (c.len_of-len.result - c.args.skip) / 16 * 16) c.step_across-count.result c.step_across-count.ensures.count in
    omega (arith, c.len_of-len.ensures, c.requires.inside, of, count)

pub returns-clause-stepped : goal.returns-clause-stepped
returns-clause-stepped g c =
    let makes = g.W.Walker.makes in
    let ps = c.args.pieces.now in
    let k : ℕ = (c.len_of-len.result - c.args.skip) / 16 * 16 in
    let within : c.args.skip + (c.len_of-len.result - c.args.skip) / 16 * 16 ≤ length (get_or (parts_of c.args.pieces.now) c.args.i []) = omega (arith, c.len_of-len.ensures, c.requires.inside) in
    let d : PieceMut = record { bytes = record { ref_ptr = (0, 0); ghost_name = 0; now = [] } } in
    let p : PieceMut = record { bytes = set_vals c.step_within.new.piece (get_or ps c.args.i d).bytes } in
    let of = of_first ps c.args.i c.requires.within in
    let count = count_stepped makes c.args.walker.now c.step_within.new.walker ps c.args.i c.args.skip k d p c.step_within.new.piece c.requires.within within refl c.step_within.ensures.rest c.step_within.ensures.len (c.args.skip + (c.len_of-len.result - c.args.skip) / 16 * 16) c.step_across-count.result c.step_across-count.ensures.count in
    let total : k + c.step_across-count.result
    ≡ length (get_or (parts_of c.args.pieces.now) c.args.i []) + (c.step_across-count.result - (c.len_of-len.result - (c.args.skip + (c.len_of-len.result - c.args.skip) / 16 * 16))) - c.args.skip =
    omega (arith, c.len_of-len.ensures, c.requires.inside, of, count) in
    let first = stepped_first makes c.args.walker.now c.step_within.new.walker ps c.args.i c.args.skip k d p c.step_within.new.piece c.requires.within within refl c.step_within.ensures.rest c.step_within.ensures.len c.step_within.ensures.made in
    stepped_same makes c.args.walker.now c.step_across-count.new.walker (parts_of ps) (parts_of c.step_across-count.new.pieces) _ _ (k + c.step_across-count.result) _ refl total
    (stepped_both makes c.args.walker.now c.step_within.new.walker c.step_across-count.new.walker (parts_of ps) _ (parts_of c.step_across-count.new.pieces) c.args.i c.args.skip c.len_of-len.result k c.step_across-count.result
    g.met.W.Walker.joins (omega arith) first c.step_across-count.ensures.stepped)

pub returns-clause-whole : goal.returns-clause-whole
returns-clause-whole g c =
    let makes = g.W.Walker.makes in
    let ps = c.args.pieces.now in
    let k : ℕ = (c.len_of-len.result - c.args.skip) / 16 * 16 in
    let within : c.args.skip + (c.len_of-len.result - c.args.skip) / 16 * 16 ≤ length (get_or (parts_of c.args.pieces.now) c.args.i []) = omega (arith, c.len_of-len.ensures, c.requires.inside) in
    let d : PieceMut = record { bytes = record { ref_ptr = (0, 0); ghost_name = 0; now = [] } } in
    let p : PieceMut = record { bytes = set_vals c.step_within.new.piece (get_or ps c.args.i d).bytes } in
    let of = of_first ps c.args.i c.requires.within in
    let count = count_stepped makes c.args.walker.now c.step_within.new.walker ps c.args.i c.args.skip k d p c.step_within.new.piece c.requires.within within refl c.step_within.ensures.rest c.step_within.ensures.len (c.args.skip + (c.len_of-len.result - c.args.skip) / 16 * 16) c.step_across-count.result c.step_across-count.ensures.count in
    λ more. omega (arith, c.len_of-len.ensures, c.requires.inside, of, count, more)
