use Rattle.std.proofs.Common.{rules, arith, ◌≡◌, ◌∷◌, ◌<◌, [], ◌++◌, ◌+◌, ◌-◌, ◌∙◌, ap, sym, append_assoc}
use Rattle.script_text.specs.Lines.{lines_of}
use Rattle.script_text.specs.Parts.{cut_lines, before_mark, behind_mark}
use Rattle.script_text.proofs.CuttingLemmas.{cut-on, all-lines}
use Rattle.script_text.proofs.parts.cut_parts.Goals as goal

pub loop-preserved : goal.loop-preserved
loop-preserved c =
    let below : c.loop.counter < c.args.clients = search (rules, arith) in
    let lines = lines_of c.loop.rest.now in
    let left = c.args.clients - (c.loop.counter + 1) in
    let part : c.push.new.self.items ≡ c.loop.parts.items ++ before_mark lines ∷ [] = search rules in
    let behind : lines_of c.in_ok-part.behind.now ≡ behind_mark lines = c.in_ok-part.ensures.behind in (
      omega (arith, below),
      c.loop.invariant.1
          ∙ (ap (λ more. c.loop.parts.items ++ more) (cut-on c.args.clients c.loop.counter lines below)
          ∙ (sym (append_assoc c.loop.parts.items (before_mark lines ∷ []) (cut_lines left (behind_mark lines)))
          ∙ (ap (λ items. items ++ cut_lines left (behind_mark lines)) (sym part) ∙ ap (λ ls. c.push.new.self.items ++ cut_lines left ls) (sym behind)))),
    )

pub returns : goal.returns
returns c =
    let none : c.args.clients - c.loop.counter ≡ 0 = search (rules, arith) in
    let last : c.push-2.new.self.items ≡ c.loop.parts.items ++ c.loop.rest.now ∷ [] = search rules in
    last ∙ (ap (λ rest. c.loop.parts.items ++ rest ∷ []) (sym (all-lines c.loop.rest.now))
    ∙ (ap (λ marks. c.loop.parts.items ++ cut_lines marks (lines_of c.loop.rest.now)) (sym none) ∙ sym c.loop.invariant.1))
