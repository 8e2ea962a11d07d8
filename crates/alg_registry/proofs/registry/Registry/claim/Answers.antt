use Rattle.std.proofs.Common.{◌≡◌, List, [], Some, None, sym, ap, ◌∙◌, ℕ, ◌++◌, ◌∷◌, Option}
use Rattle.std.specs.Option.{option_map}
use Rattle.std.proofs.lemmas.List.{append-nil}
use Rattle.alg_registry.specs.declared.entry.RegEntry.TheVariants.{Claim}
use Rattle.alg_registry.specs.declared.row.Larval.{Larval}
use Rattle.alg_registry.specs.declared.entry.RegEntry.{RegEntry}
use Rattle.alg_registry.specs.Calls.{claimed_number, claimed_answer, claim_entries, text_at}
use Rattle.alg_registry.specs.Rows.{larvals_of}
use Rattle.alg_registry.proofs.Keeping.{kept-claim, claim-within, claimed_answer-is, claimed-to_end}
use Rattle.alg_registry.proofs.Sight.{seen-claimed}
use Rattle.alg_registry.proofs.registry.Registry.claim.Goals as goal

pub copy_text-requires : goal.copy_text-requires
copy_text-requires c =
    let found : claimed_number c.self.inside.larvals.list c.args.larval ≡ Some c.in-Some.number = sym c.to_claim.ensures ∙ c.in-Some.is in
    claim-within c.self.inside.larvals.list c.args.larval c.in-Some.number found

pub claim-requires : goal.claim-requires
claim-requires c =
    let found : claimed_number c.self.inside.larvals.list c.args.larval ≡ Some c.in-Some.number = sym c.to_claim.ensures ∙ c.in-Some.is in
    claim-within c.self.inside.larvals.list c.args.larval c.in-Some.number found

pub invariant_of-self-in-Some : goal.invariant_of-self-in-Some
invariant_of-self-in-Some c = record {
  kept =
      let none : Larval = record { text = []; claimed = None; ended = None } in
      let found : claimed_number c.self.inside.larvals.list c.args.larval ≡ Some c.in-Some.number = sym c.to_claim.ensures ∙ c.in-Some.is in
      kept-claim _ _ _ _ _ c.args.caller c.in-Some.number c.args.larval none c.self.invariant.kept found
      (c.in_ok-record-in-Some.ensures.ok) (c.claim.ensures.list none);
  seen_are = seen-claimed c.self.inside.rows.list c.self.inside.larvals.list _ c.self.inside.larvals.seen _ c.in-Some.number c.args.caller (record { text = []; claimed = None; ended = None }) (c.claim.ensures.list (record { text = []; claimed = None; ended = None })) c.claim.ensures.seen c.self.invariant.seen_are;
}

pub returns-in_ok-record-in-Some-clause-answer : goal.returns-in_ok-record-in-Some-clause-answer
returns-in_ok-record-in-Some-clause-answer c =
    let found : claimed_number c.self.inside.larvals.list c.args.larval ≡ Some c.in-Some.number = sym c.to_claim.ensures ∙ c.in-Some.is in
    let text : c.in_ok-text-in-Some.text ≡ text_at c.self.inside.larvals.list c.in-Some.number = c.in_ok-text-in-Some.ensures.ok in
    let larvals : c.self.inside.larvals.list ≡ larvals_of c.args.self.now = c.self.invariant.kept.larvals_are ∙ ap (λ (h : List RegEntry). larvals_of h) c.self.view_is in
    sym (claimed_answer-is c.self.inside.larvals.list c.args.larval c.in-Some.number c.in_ok-text-in-Some.text found text) ∙ ap (λ (ls : List Larval). claimed_answer ls c.args.larval) larvals

pub returns-in_ok-record-in-Some-clause-claimed : goal.returns-in_ok-record-in-Some-clause-claimed
returns-in_ok-record-in-Some-clause-claimed c =
    let none : Larval = record { text = []; claimed = None; ended = None } in
    let found : claimed_number c.self.inside.larvals.list c.args.larval ≡ Some c.in-Some.number = sym c.to_claim.ensures ∙ c.in-Some.is in
    (claimed-to_end _ _ c.self.inside.larvals.list _ c.args.caller c.in-Some.number c.args.larval none (invariant_of-self-in-Some c).kept found (c.claim.ensures.list none)).0

pub returns-in_ok-record-in-Some-clause-unended : goal.returns-in_ok-record-in-Some-clause-unended
returns-in_ok-record-in-Some-clause-unended c =
    let none : Larval = record { text = []; claimed = None; ended = None } in
    let found : claimed_number c.self.inside.larvals.list c.args.larval ≡ Some c.in-Some.number = sym c.to_claim.ensures ∙ c.in-Some.is in
    (claimed-to_end _ _ c.self.inside.larvals.list _ c.args.caller c.in-Some.number c.args.larval none (invariant_of-self-in-Some c).kept found (c.claim.ensures.list none)).1

pub returns-in_ok-record-in-Some-clause-legal : goal.returns-in_ok-record-in-Some-clause-legal
returns-in_ok-record-in-Some-clause-legal c = (invariant_of-self-in-Some c).kept.legal

-- what the larvals of the history answer
pub returns-in_ok-record-in-Some-clause-history : goal.returns-in_ok-record-in-Some-clause-history
returns-in_ok-record-in-Some-clause-history c =
    let found : claimed_number c.self.inside.larvals.list c.args.larval ≡ Some c.in-Some.number = sym c.to_claim.ensures ∙ c.in-Some.is in
    let larvals : c.self.inside.larvals.list ≡ larvals_of c.args.self.now = c.self.invariant.kept.larvals_are ∙ ap (λ (h : List RegEntry). larvals_of h) c.self.view_is in
    let number : claimed_number (larvals_of c.args.self.now) c.args.larval ≡ Some c.in-Some.number = ap (λ (ls : List Larval). claimed_number ls c.args.larval) (sym larvals) ∙ found in
    c.in_ok-record-in-Some.ensures.ok
    ∙ ((λ i. c.self.view_is i ++ Claim c.args.caller c.in-Some.number ∷ []) ∙ ap (λ (o : Option ℕ). c.args.self.now ++ claim_entries c.args.caller o) (sym number))

pub returns-in-None-clause-answer : goal.returns-in-None-clause-answer
returns-in-None-clause-answer c =
    let none : claimed_number c.self.inside.larvals.list c.args.larval ≡ None = sym c.to_claim.ensures ∙ c.in-None.is in
    let larvals : c.self.inside.larvals.list ≡ larvals_of c.args.self.now = c.self.invariant.kept.larvals_are ∙ ap (λ (h : List RegEntry). larvals_of h) c.self.view_is in
    ap (λ (o : Option ℕ). option_map (λ number. record { larval = number; text = text_at c.self.inside.larvals.list number }) o) (sym none) ∙ ap (λ (ls : List Larval). claimed_answer ls c.args.larval) larvals

pub returns-in-None-clause-history : goal.returns-in-None-clause-history
returns-in-None-clause-history c =
    let none : claimed_number c.self.inside.larvals.list c.args.larval ≡ None = sym c.to_claim.ensures ∙ c.in-None.is in
    let larvals : c.self.inside.larvals.list ≡ larvals_of c.args.self.now = c.self.invariant.kept.larvals_are ∙ ap (λ (h : List RegEntry). larvals_of h) c.self.view_is in
    let number : claimed_number (larvals_of c.args.self.now) c.args.larval ≡ None = ap (λ (ls : List Larval). claimed_number ls c.args.larval) (sym larvals) ∙ none in
    sym (ap (λ (o : Option ℕ). c.args.self.now ++ claim_entries c.args.caller o) number ∙ append-nil c.args.self.now)
