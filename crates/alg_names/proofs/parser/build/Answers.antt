use Rattle.std.proofs.Common.{◌≡◌, ◌+◌, ◌≤◌, sym, ap, subst, ◌∙◌}
use Rattle.std.proofs.lemmas.Result.{err_from_is_err_and}
use Rattle.std.proofs.lemmas.List.{take_all}
use Rattle.alg_names.specs.Name.{IsName, IsAllowed, node, end}
use Rattle.alg_names.specs.Built.{args_from}
use Rattle.alg_names.specs.Reader.{IsFine, reading, run, start, wide}
use Rattle.alg_names.specs.Drafts.{reading_of, frames, place_of, StopsAt}
use Rattle.alg_names.proofs.Building.{fine_front, read_more, stops_refused, end_begins, end_word, end_whole}
use Rattle.alg_names.proofs.parser.build.Goals as goal

pub advance-requires-clause-fine : goal.advance-requires-clause-fine
advance-requires-clause-fine c = subst IsFine (sym c.loop-byte.invariant.read) (fine_front c.args.text.now c.loop-byte.byte-index c.requires)

pub advance-requires-clause-next : goal.advance-requires-clause-next
advance-requires-clause-next c = subst IsFine (sym (read_more c.args.text.now c.loop-byte.byte-index (reading_of c.loop-byte.draft) c.loop-byte-test.true c.loop-byte.invariant.read)) (fine_front c.args.text.now (c.loop-byte.byte-index + 1) c.requires)

pub returns-in_err-draft-clause-refused : goal.returns-in_err-draft-clause-refused
returns-in_err-draft-clause-refused c =
    let p = err_from_is_err_and c.from_residual.result c.from_residual.ensures.1 in
    rw (p.1, p.2) (stops_refused c.in_err-draft.field-0.0 c.args.text.now (c.loop-byte.byte-index + 1) c.requires
    (subst (StopsAt c.in_err-draft.field-0.0) (read_more c.args.text.now c.loop-byte.byte-index (reading_of c.loop-byte.draft) c.loop-byte-test.true c.loop-byte.invariant.read) c.in_err-draft.ensures.err))

pub loop-byte-preserved : goal.loop-byte-preserved
loop-byte-preserved c = record {
  read = c.in_ok-draft.ensures.ok.0 ∙ read_more c.args.text.now c.loop-byte.byte-index (reading_of c.loop-byte.draft) c.loop-byte-test.true c.loop-byte.invariant.read;
  narrow = c.in_ok-draft.ensures.ok.1;
}

pub unreachable-requires : goal.unreachable-requires
unreachable-requires c =
    let fs = frames c.loop-byte.draft.templates.items in
    let all : reading fs (place_of c.loop-byte.draft.part) ≡ run start c.args.text.now = c.loop-byte.invariant.read ∙ ap (run start) (take_all c.loop-byte.byte-index c.args.text.now c.loop-byte-test.false) in
    end_begins c.args.text.now c.requires fs (ap (λ p. reading fs (place_of p)) (sym c.in-Nothing.is) ∙ all)

pub from_parts-requires : goal.from_parts-requires
from_parts-requires c =
    let fs = frames c.loop-byte.draft.templates.items in
    let w = c.in-Word.word in
    let all : reading fs (place_of c.loop-byte.draft.part) ≡ run start c.args.text.now = c.loop-byte.invariant.read ∙ ap (run start) (take_all c.loop-byte.byte-index c.args.text.now c.loop-byte-test.false) in
    let narrow : wide fs (place_of c.loop-byte.draft.part) ≤ 4 = c.loop-byte.invariant.narrow in
    let k : IsName c.args.text.now (node w end) × IsAllowed (node w end) = end_word c.args.text.now c.requires fs w (ap (λ p. reading fs (place_of p)) (sym c.in-Word.is) ∙ all) (subst (λ p. wide fs (place_of p) ≤ 4) c.in-Word.is narrow) in
    subst (λ xs. IsAllowed (node w (args_from xs))) (sym c.new-in-Word.ensures.items) k.1

pub returns-in-Word-clause-name : goal.returns-in-Word-clause-name
returns-in-Word-clause-name c =
    let fs = frames c.loop-byte.draft.templates.items in
    let w = c.in-Word.word in
    let all : reading fs (place_of c.loop-byte.draft.part) ≡ run start c.args.text.now = c.loop-byte.invariant.read ∙ ap (run start) (take_all c.loop-byte.byte-index c.args.text.now c.loop-byte-test.false) in
    let narrow : wide fs (place_of c.loop-byte.draft.part) ≤ 4 = c.loop-byte.invariant.narrow in
    let k : IsName c.args.text.now (node w end) × IsAllowed (node w end) = end_word c.args.text.now c.requires fs w (ap (λ p. reading fs (place_of p)) (sym c.in-Word.is) ∙ all) (subst (λ p. wide fs (place_of p) ≤ 4) c.in-Word.is narrow) in
    rw (c.from_parts.ensures) (subst (λ xs. IsName c.args.text.now (node w (args_from xs)) × IsAllowed (node w (args_from xs))) (sym c.new-in-Word.ensures.items) k)

pub returns-clause-name : goal.returns-clause-name
returns-clause-name c =
    let fs = frames c.loop-byte.draft.templates.items in
    let all : reading fs (place_of c.loop-byte.draft.part) ≡ run start c.args.text.now = c.loop-byte.invariant.read ∙ ap (run start) (take_all c.loop-byte.byte-index c.args.text.now c.loop-byte-test.false) in
    let narrow : wide fs (place_of c.loop-byte.draft.part) ≤ 4 = c.loop-byte.invariant.narrow in
    end_whole c.args.text.now c.requires fs c.in-Whole.name (ap (λ p. reading fs (place_of p)) (sym c.in-Whole.is) ∙ all) (subst (λ p. wide fs (place_of p) ≤ 4) c.in-Whole.is narrow)
