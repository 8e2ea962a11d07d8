use Rattle.std.proofs.Common.{◌∙◌, ◌++◌, ◌∷◌, [], sym, ap, arith, append-nil, append_assoc}
use Rattle.std.specs.Map.{values_of}
use Rattle.script_session.specs.Filed.{lives_of}
use Rattle.script_session.proofs.Filed.{filed-none, nothing-left}
use Rattle.script_session.proofs.lives.LiveTransforms.take_all.Goals as goal

pub loop-live-init : goal.loop-live-init
loop-live-init c =
    (ap (λ xs. xs ++ lives_of c.args.self.now) (c.in_ok-reserve.ensures.items ∙ c.new-all.ensures.items), omega (arith, c.in_ok-reserve.ensures.ok, c.in_ok-reserve.ensures.len, c.len.ensures.len), c.clear.ensures.empty)

pub loop-live-preserved : goal.loop-live-preserved
loop-live-preserved c = (
  ap (λ xs. xs ++ values_of c.pop_first.new.self.entries) c.push_reserved.ensures.items
      ∙ (append_assoc c.loop-live.all.items (c.in-Some.live ∷ []) (values_of c.pop_first.new.self.entries)
      ∙ (ap (λ es. c.loop-live.all.items ++ values_of es) (sym c.in-Some.ensures.removal) ∙ c.loop-live.invariant.0)),
  omega (arith, c.loop-live.invariant.1, c.push_reserved.ensures.len, c.push_reserved.ensures.capacity, c.in-Some.ensures.len),
  c.loop-live.invariant.2,
)

pub returns-clause-all : goal.returns-clause-all
returns-clause-all c =
    sym (append-nil c.loop-live.all.items)
    ∙ (ap (λ es. c.loop-live.all.items ++ values_of es) (sym (nothing-left c.loop-live.self.transforms.entries c.in_default.ensures.variant.1)) ∙ c.loop-live.invariant.0)

pub returns-clause-filed : goal.returns-clause-filed
returns-clause-filed c =
    filed-none _ c.pop_first.ensures.ordered c.loop-live.invariant.2 (c.in_default.ensures.unchanged ∙ nothing-left c.loop-live.self.transforms.entries c.in_default.ensures.variant.1)
