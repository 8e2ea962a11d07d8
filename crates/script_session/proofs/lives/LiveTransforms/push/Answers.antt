use Rattle.std.proofs.Common.{◌≡◌, ◌∙◌, false, Some, sym, subst, ap, refl}
use Rattle.std.specs.BTreeMap.{UpdatesBy, is_at}
use Rattle.std.specs.Cmp.Lexicographic.{slice_cmp}
use Rattle.std.specs.Map.{remove_entry, values_of}
use Rattle.std.specs.Ordering.{nat_cmp}
use Rattle.std.specs.Prelude.{is_err}
use Rattle.board.proofs.Kept.{on_err, on_ok}
use Rattle.script_session.proofs.Filed.{filed-push, filed-same, insert-last, listed-push, remove-last, updates-bytes}
use Rattle.script_session.proofs.lives.LiveTransforms.push.Goals as goal

-- it stands behind the others, and its label leads to it
pub returns-clause-filed : goal.returns-clause-filed
returns-clause-filed c =
    let placed : is_err c.insert.result ≡ false = sym c.if-is_err.ensures.value in
    let led : is_err c.insert-2.result ≡ false = sym c.if-is_err-2.ensures.value in
    let named = c.in_ok-label.ensures.items_if_clones_equal (λ x y e. e) ∙ c.label.ensures in
    let updates = subst (λ l. UpdatesBy (λ x y. slice_cmp nat_cmp x.items y.items) (λ key. slice_cmp nat_cmp l key.items) c.args.self.now.labels c.insert-2.new.self (Some c.args.self.now.next)) named (on_ok c.insert-2.result led c.insert-2.ensures.updates) in
    filed-push c.args.self.now _ c.args.live c.requires.filed c.requires.free c.insert.ensures.ordered (on_ok c.insert.result placed c.insert.ensures.entries)
    (λ label. updates-bytes (λ key. key.items) c.args.live.label c.args.self.now.labels c.insert-2.new.self (Some c.args.self.now.next) updates label) c.in-Some.ensures.1

pub returns-clause-added : goal.returns-clause-added
returns-clause-added c = listed-push c.args.self.now c.args.live _ c.requires.filed (on_ok c.insert.result (sym c.if-is_err.ensures.value) c.insert.ensures.entries)

-- the map of transforms had no room
pub returns-then-is_err-clause-filed : goal.returns-then-is_err-clause-filed
returns-then-is_err-clause-filed c =
    filed-same c.args.self.now _ c.requires.filed refl (on_err c.insert.result (sym c.if-is_err.ensures.value) c.insert.ensures.err) refl

pub returns-then-is_err-clause-unchanged : goal.returns-then-is_err-clause-unchanged
returns-then-is_err-clause-unchanged c = ap values_of (on_err c.insert.result (sym c.if-is_err.ensures.value) c.insert.ensures.err)

-- the map of labels had none, so the transform goes again
pub returns-then-is_err-2-clause-filed : goal.returns-then-is_err-2-clause-filed
returns-then-is_err-2-clause-filed c =
    let placed : is_err c.insert.result ≡ false = sym c.if-is_err.ensures.value in
    let undone =
    c.remove.ensures.entries
    ∙ (ap (remove_entry (is_at (nat_cmp c.args.self.now.next))) (on_ok c.insert.result placed c.insert.ensures.entries ∙ insert-last c.args.self.now.next c.args.live c.args.self.now.transforms.entries c.requires.filed.below)
    ∙ remove-last c.args.self.now.next c.args.live c.args.self.now.transforms.entries c.requires.filed.below) in
    filed-same c.args.self.now _ c.requires.filed (on_err c.insert-2.result (sym c.if-is_err-2.ensures.value) c.insert-2.ensures.err) undone refl

pub returns-then-is_err-2-clause-unchanged : goal.returns-then-is_err-2-clause-unchanged
returns-then-is_err-2-clause-unchanged c =
    let placed : is_err c.insert.result ≡ false = sym c.if-is_err.ensures.value in
    let undone =
    c.remove.ensures.entries
    ∙ (ap (remove_entry (is_at (nat_cmp c.args.self.now.next))) (on_ok c.insert.result placed c.insert.ensures.entries ∙ insert-last c.args.self.now.next c.args.live c.args.self.now.transforms.entries c.requires.filed.below)
    ∙ remove-last c.args.self.now.next c.args.live c.args.self.now.transforms.entries c.requires.filed.below) in
    ap values_of undone
