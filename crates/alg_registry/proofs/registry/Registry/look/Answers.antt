use Rattle.std.proofs.Common.{◌≡◌, List, ap, ◌∙◌, subst, ◌++◌, ◌∷◌, [], length}
use Rattle.alg_registry.specs.declared.entry.RegEntry.{RegEntry}
use Rattle.alg_registry.specs.Rows.{rows_of, larvals_of}
use Rattle.alg_registry.specs.Answers.{look_answer}
use Rattle.alg_registry.specs.Legal.{LegalReg}
use Rattle.alg_registry.proofs.Keeping.{kept-look, kept-began}
use Rattle.alg_registry.proofs.Sight.{seen-more}
use Rattle.alg_registry.proofs.registry.Registry.look.Goals as goal

-- the larval that begins is the last
pub invariant_of-self-in-Began : goal.invariant_of-self-in-Began
invariant_of-self-in-Began c = record {
  kept =
      let is : c.in_ok-answer.answer ≡ look_answer c.self.inside.rows.list c.self.inside.larvals.list c.args.text.now c.args.plain =
      c.in_ok-answer.ensures.ok in
      kept-began _ _ _ _ _ c.args.caller c.args.text.now c.args.plain c.in_ok-answer.answer c.in-Began.field-0 c.self.invariant.kept c.requires is c.in-Began.is
      (c.in_ok-record_look.ensures.ok) (cc (c.reserve.ensures.list, c.begin.ensures.list, c.in_ok-begun.ensures));
  seen_are = seen-more c.self.inside.rows.list c.self.inside.larvals.list c.begin.new.self.list c.self.inside.larvals.seen c.begin.new.self.seen c.args.text.now
      (cc (c.reserve.ensures.list, c.begin.ensures.list, c.in_ok-begun.ensures))
      (c.begin.ensures.seen ∙ (λ i. c.reserve.ensures.seen i ++ length (c.reserve.ensures.list i) ∷ [])) c.self.invariant.seen_are;
}

pub invariant_of-self-2 : goal.invariant_of-self-2
invariant_of-self-2 c = record {
  kept =
      let is : c.in_ok-answer.answer ≡ look_answer c.self.inside.rows.list c.self.inside.larvals.list c.args.text.now c.args.plain =
      c.in_ok-answer.ensures.ok in
      kept-look _ _ _ _ c.args.caller c.args.text.now c.args.plain c.in_ok-answer.answer c.self.invariant.kept c.requires is c.in_default.not-Began
      (c.in_ok-record_look-2.ensures.ok);
  seen_are = c.self.invariant.seen_are;
}

pub returns-in-Began-clause-legal : goal.returns-in-Began-clause-legal
returns-in-Began-clause-legal c = (invariant_of-self-in-Began c).kept.legal

pub returns : goal.returns
returns c =
    let rows : c.self.inside.rows.list ≡ rows_of c.args.self.now = (c.self.invariant.kept.rows_are ∙ ap (λ (h : List RegEntry). rows_of h) c.self.view_is) in
    let larvals : c.self.inside.larvals.list ≡ larvals_of c.args.self.now = c.self.invariant.kept.larvals_are ∙ ap (λ (h : List RegEntry). larvals_of h) c.self.view_is in
    record {
      answer = c.in_ok-answer.ensures.ok ∙ (λ i. look_answer (rows i) (larvals i) c.args.text.now c.args.plain);
      history = cc (c.in_ok-record_look-2.ensures.ok, c.self.view_is);
      memory = tt;
      unchanged = tt;
      legal_before = subst LegalReg c.self.view_is c.self.invariant.kept.legal;
      legal = (invariant_of-self-2 c).kept.legal;
    }
