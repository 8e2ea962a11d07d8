use Rattle.std.proofs.Common.{◌≡◌, ◌∙◌, ◌+◌, ◌++◌, ℕ, [], ap, sym, arith, length, take, drop, replicate, length-append}
use Rattle.sha2.specs.Sha256.{padding}
use Rattle.in_step.proofs.Behind.{filled_none, filled_more}
use Rattle.in_step.proofs.Padded.{later, over_padding}
use Rattle.in_step.proofs.padding.put_edge.Goals as goal

pub returns : goal.returns
returns c =
    let f = c.args.first.now in
    let s = c.args.second.now in
    let at = c.args.at in
    let zero = c.put_padding.new.block in
    let one = c.add_piece-used.new.block in
    let two = c.add_piece.new.block in
    let used = c.add_piece-used.result in
    let both : length (f ++ s) ≡ length f + length s = length-append f s in
    let first = filled_more zero one [] f at 0 used at (filled_none zero at) (omega arith) c.add_piece-used.ensures.used c.add_piece-used.ensures.bytes in
    let second = filled_more one two f s at used c.add_piece.result c.saturating_sub.result first c.saturating_sub.ensures c.add_piece.ensures.used c.add_piece.ensures.bytes in
    over_padding two zero (f ++ s) (padding (c.args.taken + length (f ++ s))) at c.add_piece.result second
    (c.add_piece.ensures.rest ∙ later one zero used c.add_piece.result (omega (arith, c.add_piece.ensures.used)) c.add_piece-used.ensures.rest)
    (c.put_padding.ensures ∙ ap (λ (l : ℕ). take 64 (drop at (replicate {A = ℕ} l 0 ++ padding (c.args.taken + l)))) (sym both))
