use Rattle.std.proofs.Common.{◌≡◌, false, ◌++◌, ◌∷◌, ◌+◌, ◌-◌, ℕ, List, [], Some, length, take, drop, Contains, sym, ap, subst, ◌∙◌, arith}
use Rattle.std.proofs.lemmas.Slice.{between_to_end}
use Rattle.std.proofs.lemmas.List.{drop-drop}
use Rattle.script_text.specs.LineCutter.{CutterState, IsFirstFeed, CutsNext, kept_in}
use Rattle.script_text.proofs.KeptLemmas.{says_in, begins_at}
use Rattle.script_text.proofs.PendingLemmas.{Says, nothing_ends, next_cut}
use Rattle.script_text.proofs.cutter.LineCutter.next.Goals as goal

pub returns-in_default-clause-line : goal.returns-in_default-clause-line
returns-in_default-clause-line c =
    let all = c.deref.result.now in
    let seen = c.self.inside.seen in
    let is : take (length all - seen) (drop seen all) ≡ c.args.self.now.unseen = between_to_end all seen (length all) (omega arith) ∙ (ap (drop seen) c.deref.ensures.value ∙ ap (λ (k : CutterState). k.unseen) c.self.view_is) in
    nothing_ends c.args.self.now c.see_all.new.self c.see_all.ensures (subst (λ (xs : List ℕ). Contains xs 10 → ⊥) is c.in_default.ensures)

pub returns-clause-line : goal.returns-clause-line
returns-clause-line c =
    let all = c.deref.result.now in
    let inside = c.self.inside in
    let items = inside.bytes.items in
    let place = c.in-Some.place in
    let end = inside.seen + place + 1 in
    let old = kept_in items inside.at inside.seen inside.long in
    let is : take (length all - inside.seen) (drop inside.seen all) ≡ drop inside.seen items = between_to_end all inside.seen (length all) (omega arith) ∙ ap (drop inside.seen) c.deref.ensures.value in
    let feed : IsFirstFeed (drop inside.seen items) place = subst (λ xs. IsFirstFeed xs place) is c.in-Some.ensures in
    let line : take (end - inside.at) (drop inside.at c.deref-2.result.now) ≡ take (end - inside.at) (drop inside.at items) = ap (λ xs. take (end - inside.at) (drop inside.at xs)) c.deref-2.ensures.value in
    let says : Says old.begun (take place (drop inside.seen items) ++ 10 ∷ []) c.in_ok-said.said =
    says_in items (take (end - inside.at) (drop inside.at c.deref-2.result.now)) inside.at inside.seen place inside.long c.in_ok-said.said c.self.invariant.0 feed line c.in_ok-said.ensures.long c.in_ok-said.ensures.line in
    let next : kept_in items end end false ≡ record { begun = Some []; unseen = drop (place + 1) (drop inside.seen items) } =
    begins_at items end ∙ (λ i. record { begun = Some []; unseen = ((ap (λ n. drop n items) (let e : end ≡ inside.seen + (place + 1) = omega arith in e)) ∙ sym (drop-drop (place + 1) inside.seen items)) i }) in
    subst (λ (k : CutterState). CutsNext k (kept_in items end end false) (Some c.in_ok-said.said)) c.self.view_is
    (next_cut old (kept_in items end end false) place c.in_ok-said.said feed says next)
