use Rattle.std.proofs.Common.{◌≡◌, ℕ, List, [], ◌∷◌, ◌++◌, ◌^◌, true, sym, ap, subst, ◌∙◌, arith, Result}
use Rattle.std.specs.List.{All, list_all}
use Rattle.alg_registry.specs.declared.row.Row.{Row}
use Rattle.alg_registry.specs.declared.entry.Enlisted.{Enlisted}
use Rattle.alg_registry.specs.declared.entry.Enlisted.TheVariants as enlisted
use Rattle.alg_registry.specs.declared.entry.RegErr.{RegErr}
use Rattle.alg_registry.specs.declared.entry.RegEntry.{RegEntry}
use Rattle.alg_registry.specs.declared.entry.RegEntry.TheVariants.{Enlist}
use Rattle.alg_registry.specs.declared.spec.Spec.{Spec}
use Rattle.alg_registry.specs.Calls.{UnlessMemory, OnMemory, enlist_result, new_row}
use Rattle.alg_registry.specs.Rows.{listed_at, rows_of, standing}
use Rattle.alg_registry.proofs.Fresh.{IsUnder, few-rows_of}
use Rattle.alg_registry.specs.Answers.{enlist_answer}
use Rattle.alg_registry.proofs.Registering.{kept-made, kept-refused}
use Rattle.alg_registry.proofs.Restanding.{standing-rows_of}
use Rattle.alg_registry.proofs.Sight.{seen-added}
use Rattle.alg_registry.proofs.registry.Registry.enlist.Goals as goal

grown : {rows rows' : List Row} {spec spec' : Spec} → rows ≡ rows' → spec ≡ spec' → standing (rows ++ new_row spec ∷ []) ≡ standing (rows' ++ new_row spec' ∷ [])
grown e f = λ i. standing (e i ++ new_row (f i) ∷ [])

pub add-requires-clause-few : goal.add-requires-clause-few
add-requires-clause-few c = subst (λ (rows : List Row). All (IsUnder (2 ^ 61)) rows) (sym c.self.invariant.kept.rows_are ∙ sym c.reserve.ensures.list) (few-rows_of (2 ^ 61) c.self.inside.log (omega (arith, c.in_ok-record.ensures.short)))

pub invariant_of-self-in-Made : goal.invariant_of-self-in-Made
invariant_of-self-in-Made c = record {
  kept =
      kept-made _ _ c.self.inside.rows.list _ _ c.args.caller c.in-Made.field-0 c.args.spec c.self.invariant.kept c.requires.outsider c.requires.alone c.requires.plain
      (sym c.answer_to-answer.ensures ∙ c.in-Made.is)
      (cc (c.in_ok-record.ensures.ok, c.in-Made.is)) (c.add.ensures.list ∙ grown c.reserve.ensures.list c.in_ok-copy.ensures);
  seen_are =
      let alone : list_all (listed_at c.self.inside.rows.list) c.args.spec.below ≡ true = ap (λ (ids : List ℕ). list_all (listed_at c.self.inside.rows.list) ids) c.requires.alone in
      seen-added c.self.inside.log c.self.inside.rows.list _ c.self.inside.larvals.list c.self.inside.larvals.seen c.args.spec c.self.invariant.kept
      (standing-rows_of c.self.inside.log c.self.inside.rows.list c.self.invariant.kept.rows_are) alone (c.add.ensures.list ∙ grown c.reserve.ensures.list c.in_ok-copy.ensures) c.self.invariant.seen_are;
}

pub returns-in-Made-clause-legal : goal.returns-in-Made-clause-legal
returns-in-Made-clause-legal c = (invariant_of-self-in-Made c).kept.legal

pub invariant_of-self-2 : goal.invariant_of-self-2
invariant_of-self-2 c = record {
  kept =
      kept-refused _ _ _ _ c.args.caller c.args.spec c.answer_to-answer.result c.self.invariant.kept c.requires.outsider c.requires.alone c.requires.plain
      (sym c.answer_to-answer.ensures) c.in_default.not-Made c.in_ok-record-2.ensures.ok;
  seen_are = c.self.invariant.seen_are;
}

-- an enlisting that has an answer did not want memory
answered : (answer : Enlisted) (r : Result ℕ RegErr) (P Q : Type 0) → r ≡ enlist_result answer → P → UnlessMemory r P × OnMemory r Q
answered (enlisted.Made id) r P Q e p = subst (λ (x : Result ℕ RegErr). UnlessMemory x P × OnMemory x Q) (sym e) (p, tt)
answered enlisted.Exist r P Q e p = subst (λ (x : Result ℕ RegErr). UnlessMemory x P × OnMemory x Q) (sym e) (p, tt)
answered enlisted.NFile r P Q e p = subst (λ (x : Result ℕ RegErr). UnlessMemory x P × OnMemory x Q) (sym e) (p, tt)

pub returns : goal.returns
returns c =
    let rows : c.self.inside.rows.list ≡ rows_of c.args.self.now = c.self.invariant.kept.rows_are ∙ ap (λ (h : List RegEntry). rows_of h) c.self.view_is in
    let answer : c.answer_to-answer.result ≡ enlist_answer (rows_of c.args.self.now) c.args.spec = c.answer_to-answer.ensures ∙ ap (λ (rs : List Row). enlist_answer rs c.args.spec) rows in
    let grown' : c.record-2.new.self ≡ c.args.self.now ++ Enlist c.args.caller c.args.spec (enlist_answer (rows_of c.args.self.now) c.args.spec) ∷ [] =
    c.in_ok-record-2.ensures.ok ∙ (λ i. c.self.view_is i ++ Enlist c.args.caller c.args.spec (answer i) ∷ []) in
    let both = answered c.answer_to-answer.result c.result_of-2.result _ (c.record-2.new.self ≡ c.args.self.now) c.result_of-2.ensures grown' in
    record {
      answer = (answered c.answer_to-answer.result c.result_of-2.result _ (c.record-2.new.self ≡ c.args.self.now) c.result_of-2.ensures (c.result_of-2.ensures ∙ ap enlist_result answer)).0;
      history = both.0;
      memory = both.1;
      legal = (invariant_of-self-2 c).kept.legal;
    }
