use Rattle.std.proofs.Common.{◌∙◌, None, refl, sym, subst}
use Rattle.std.specs.BTreeMap.{UpdatesBy}
use Rattle.std.specs.Cmp.Lexicographic.{slice_cmp}
use Rattle.std.specs.Ordering.{nat_cmp}
use Rattle.std.specs.Prelude.{IsSome}
use Rattle.script_session.proofs.Filed.{filed-remove, updates-bytes}
use Rattle.script_session.proofs.lives.LiveTransforms.remove.Goals as goal

pub unwrap-live-requires : goal.unwrap-live-requires
unwrap-live-requires c = subst IsSome (sym c.remove.ensures.value) c.requires.there

pub returns-clause-value : goal.returns-clause-value
returns-clause-value c = sym c.remove.ensures.value ∙ c.unwrap-live.ensures

pub returns-clause-filed : goal.returns-clause-filed
returns-clause-filed c =
    filed-remove c.args.self.now _ c.args.place c.unwrap-live.result c.requires.filed (sym c.remove.ensures.value ∙ c.unwrap-live.ensures) c.remove.ensures.ordered c.remove.ensures.entries
    (λ label. updates-bytes (λ key. key.items) c.unwrap-live.result.label c.args.self.now.labels c.remove-2.new.self None (subst (λ l. UpdatesBy (λ x y. slice_cmp nat_cmp x.items y.items) (λ key. slice_cmp nat_cmp l key.items) c.args.self.now.labels c.remove-2.new.self None) c.label.ensures c.remove-2.ensures.updates) label) refl
