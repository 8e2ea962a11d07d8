use Rattle.std.specs.Prelude.{◌≡◌, ◌++◌, length, take, drop}
use Rattle.std.proofs.Common.{arith, ap, ◌∙◌}
use Rattle.std.proofs.lemmas.List.{length-append}
use Rattle.std.proofs.lemmas.Simd.{pick_l_whole}
use Rattle.aes_lanes.proofs.Halves.{front, back}
use Rattle.aes_lanes.proofs.pairs.joined.Goals as goal

pub returns-clause-both : goal.returns-clause-both
returns-clause-both c =
    let long : length (c.args.a ++ c.args.b) ≡ 32 = omega (arith, length-append c.args.a c.args.b) in
    pick_l_whole 0 (c.args.a ++ c.args.b) 32 long

pub returns-clause-first : goal.returns-clause-first
returns-clause-first c =
    let long : length (c.args.a ++ c.args.b) ≡ 32 = omega (arith, length-append c.args.a c.args.b) in
    ap (take 16) (pick_l_whole 0 (c.args.a ++ c.args.b) 32 long) ∙ front c.args.a c.args.b (omega arith)

pub returns-clause-second : goal.returns-clause-second
returns-clause-second c =
    let long : length (c.args.a ++ c.args.b) ≡ 32 = omega (arith, length-append c.args.a c.args.b) in
    ap (drop 16) (pick_l_whole 0 (c.args.a ++ c.args.b) 32 long) ∙ back c.args.a c.args.b (omega arith)
