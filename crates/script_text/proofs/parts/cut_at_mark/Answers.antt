use Rattle.std.proofs.Common.{rules, ◌∷◌, ◌≡◌, ◌≤◌, false, length, take, drop, subst}
use Rattle.script_text.specs.Lines.{lines_of}
use Rattle.script_text.specs.Parts.{is_mark}
use Rattle.script_text.proofs.CuttingLemmas.{passes-line}
use Rattle.script_text.proofs.parts.cut_at_mark.Goals as goal

pub loop-at-preserved : goal.loop-at-preserved
loop-at-preserved c =
    let len = c.line_len-len.result in
    let rest = c.from_place-rest.ensures in
    let other : is_mark (take len c.from_place-rest.result.now) ≡ false = search rules in
    passes-line c.args.bytes.now c.loop-at.at len c.loop-at.invariant (subst (λ r. len ≤ length r) rest c.line_len-len.ensures.within.1)
    (subst (λ r. lines_of r ≡ take len r ∷ lines_of (drop len r)) rest c.line_len-len.ensures.line) (subst (λ r. is_mark (take len r) ≡ false) rest other)
