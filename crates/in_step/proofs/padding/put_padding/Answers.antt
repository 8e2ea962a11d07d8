use Rattle.std.proofs.Common.{◌≡◌, ◌∙◌, ◌+◌, ◌-◌, ◌*◌, ◌%◌, ◌^◌, ◌≤◌, ◌++◌, ℕ, [], ap, arith, drop, length, refl, take}
use Rattle.std.proofs.lemmas.List.{append-nil, drop_all, length-drop}
use Rattle.std.specs.Int.{w64, to_be_bytes}
use borrow.Rule.Slice.PartMut.{post_of}
use Rattle.in_step.proofs.Padded.{Marked, inner_padding, last_padding}
use Rattle.in_step.proofs.padding.put_padding.Goals as goal

pub returns-then-len-at : goal.returns-then-len-at
returns-then-len-at c =
    let b = c.put_mark.new.block in
    let len = c.args.len in
    let at = c.args.at in
    let n : ℕ = c.args.taken + c.args.len in
    let marked : Marked b len at = record { long = c.put_mark.ensures.long; mark = c.put_mark.ensures.mark; zeros = c.put_mark.ensures.zeros } in
    let same : len % 64 ≡ n % 64 = omega (arith, c.requires.edge) in
    let counted : (c.args.taken + c.args.len) % 2 ^ 64 * 8 % 2 ^ 64 ≡ n * 8 % 2 ^ 64 = omega arith in
    let bits : c.copy_from_slice.new.self ≡ to_be_bytes w64 (n * 8 % 2 ^ 64) = c.copy_from_slice.ensures.after ∙ c.to_be_bytes.ensures ∙ ap (to_be_bytes w64) counted in
    let rest : post_of 56 (length b - 56) b ≡ [] = drop_all (length b - 56) (drop 56 b) (omega (arith, length-drop 56 b)) in
    let block : take 56 b ++ (c.copy_from_slice.new.self ++ post_of 56 (length b - 56) b) ≡ take 56 b ++ to_be_bytes w64 (n * 8 % 2 ^ 64) = rw (rest, append-nil, bits) refl in
    block ∙ last_padding b len n at marked same c.requires.place c.if-len-at.true c.requires.within

pub returns-else-len-at : goal.returns-else-len-at
returns-else-len-at c =
    let b = c.put_mark.new.block in
    let len = c.args.len in
    let at = c.args.at in
    let n : ℕ = c.args.taken + c.args.len in
    let marked : Marked b len at = record { long = c.put_mark.ensures.long; mark = c.put_mark.ensures.mark; zeros = c.put_mark.ensures.zeros } in
    let same : len % 64 ≡ n % 64 = omega (arith, c.requires.edge) in
    let short : at + 64 ≤ len + 8 = omega (arith, c.if-len-at.false) in
    inner_padding b len n at marked same c.requires.place short
