use Rattle.std.proofs.Common.{◌≡◌, ◌+◌, ℕ, List, sym, ap, ◌∙◌, arith, length, take, drop, subst, length-take, take_at}
use Rattle.std.specs.List.{concat}
use Rattle.sg_walk.specs.Segments.{written}
use Rattle.sg_walk.proofs.Steps.{piece_at, piece_within, stepped_over}
use Rattle.piece_modes.specs.Pieces.{parts_of}
use Rattle.piece_modes.proofs.walks.step_across.Goals as goal

pub returns-clause-stepped : goal.returns-clause-stepped
returns-clause-stepped g c =
    let parts : List (List ℕ) = parts_of c.args.pieces.now in
    let at : ℕ = length (concat (take c.args.i parts)) + c.args.at in
    let n : ℕ = c.gather-count.result in
    let makes = g.W.Walker.makes in
    let long : length c.step.new.piece ≡ n =
    omega (arith, c.step.auto.piece, length-take n c.gather-count.new.into, c.gather-count.auto.into, c.gather-count.ensures.count) in
    let given : take n c.gather-count.new.into ≡ take n (drop at (concat parts)) =
    c.gather-count.ensures.copied ∙ sym (piece_at parts c.args.i c.args.at 128 n c.gather-count.ensures.count) in
    stepped_over makes c.args.walker.now c.step.new.self parts (parts_of c.scatter.new.pieces) c.step.new.piece at n
    (piece_within parts c.args.i c.args.at 128 n c.gather-count.ensures.count c.requires.inside) long
    (c.scatter.ensures.text ∙ ap (λ (t : List ℕ). written at t (concat parts)) (take_at c.step.new.piece (drop n c.gather-count.new.into) n long))
    c.scatter.ensures.sizes
    (subst (λ (t : List ℕ). makes c.args.walker.now t c.step.new.piece c.step.new.self) given c.step.ensures)
