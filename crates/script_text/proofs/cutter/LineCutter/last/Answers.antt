use Rattle.std.proofs.Common.{◌≡◌, ◌-◌, false, [], Some, None, length, take, drop, sym, ap, subst, ◌∙◌, arith}
use Rattle.std.proofs.lemmas.Slice.{between_to_end}
use Rattle.std.proofs.lemmas.List.{drop_all}
use Rattle.script_text.specs.LineCutter.{CutterState, CutsLast, kept_in}
use Rattle.script_text.proofs.KeptLemmas.{says_rest, some_rest, begins_at, nothing_left}
use Rattle.script_text.proofs.PendingLemmas.{last_none, last_cut}
use Rattle.script_text.proofs.cutter.LineCutter.last.Goals as goal

pub returns-then-is_nothing-clause-line : goal.returns-then-is_nothing-clause-line
returns-then-is_nothing-clause-line c =
    let all = c.deref.result.now in
    let inside = c.self.inside in
    let items = inside.bytes.items in
    let rest : take (length all - inside.at) (drop inside.at all) ≡ drop inside.at items = between_to_end all inside.at (length all) (omega arith) ∙ ap (drop inside.at) c.deref.ensures.value in
    let none = nothing_left items (take (length all - inside.at) (drop inside.at all)) inside.at inside.seen inside.long c.self.invariant.0 rest (sym c.is_nothing.ensures ∙ c.if-is_nothing.true) in
    subst (λ (k : CutterState). CutsLast k k None) c.self.view_is (last_none (kept_in items inside.at inside.seen inside.long) none.0 none.1)

pub returns-clause-line : goal.returns-clause-line
returns-clause-line c =
    let all = c.deref.result.now in
    let inside = c.self.inside in
    let items = inside.bytes.items in
    let slice = take (length all - inside.at) (drop inside.at all) in
    let end = c.len-end.result in
    let old = kept_in items inside.at inside.seen inside.long in
    let rest : slice ≡ drop inside.at items = between_to_end all inside.at (length all) (omega arith) ∙ ap (drop inside.at) c.deref.ensures.value in
    let says = says_rest items slice inside.at inside.seen inside.long c.in_ok-said.said c.self.invariant.0 rest c.in_ok-said.ensures.long c.in_ok-said.ensures.line in
    let some = some_rest items slice inside.at inside.seen inside.long c.self.invariant.0 rest (sym c.is_nothing.ensures ∙ c.if-is_nothing.false) in
    let next : kept_in items end end false ≡ record { begun = Some []; unseen = [] } =
    begins_at items end ∙ (λ i. record { begun = Some []; unseen = drop_all end items (omega (arith, c.len-end.ensures, inside.bytes.ok.0)) i }) in
    subst (λ (k : CutterState). CutsLast k (kept_in items end end false) (Some c.in_ok-said.said)) c.self.view_is (last_cut old (kept_in items end end false) c.in_ok-said.said says some next)
