use Rattle.std.proofs.lemmas.Result.{err_from_is_err_and}
use Rattle.alg_names.specs.Built.{args_from}
use Rattle.alg_names.proofs.Drafted.{behind_stops, comma_behind, close_behind}
use Rattle.alg_names.proofs.draft.behind.Goals as goal

pub returns-in_err-template-in-Some-clause-err : goal.returns-in_err-template-in-Some-clause-err
returns-in_err-template-in-Some-clause-err c =
    let p = err_from_is_err_and c.from_residual.result c.from_residual.ensures.1 in
    rw (p.1, p.2) (behind_stops c.in_err-template-in-Some.field-0.0 c.args.templates.items c.pop.new.self.items c.in-Some.template c.args.name c.args.byte c.in-Some.ensures.items c.in_err-template-in-Some.ensures.err)

pub returns-in_ok-push-in-Some-clause-ok : goal.returns-in_ok-push-in-Some-clause-ok
returns-in_ok-push-in-Some-clause-ok c =
    let e = c.in_ok-template-in-Some.ensures.ok in
    comma_behind c.args.templates.items c.pop.new.self.items c.push.new.self.items c.in-Some.template c.in_ok-template-in-Some.template c.args.name c.args.byte c.in-Some.ensures.items c.in_ok-push-in-Some.ensures.items e.0 e.1 c.if-byte-eq44.true e.2 c.requires.narrow.0 c.requires.narrow.1

pub from_parts-name-requires : goal.from_parts-name-requires
from_parts-name-requires c =
    let e = c.in_ok-template-in-Some.ensures.ok in
    (close_behind c.args.templates.items c.pop.new.self.items c.in-Some.template c.in_ok-template-in-Some.template.word (args_from c.in_ok-template-in-Some.template.arguments.items) c.args.name c.args.byte c.in-Some.ensures.items e.0 e.1 c.if-byte-eq44.false c.requires.fine e.2 c.requires.narrow.0 c.requires.narrow.1).0

pub returns-else-byte-eq44-clause-ok : goal.returns-else-byte-eq44-clause-ok
returns-else-byte-eq44-clause-ok c =
    let e = c.in_ok-template-in-Some.ensures.ok in
    let k = close_behind c.args.templates.items c.pop.new.self.items c.in-Some.template c.in_ok-template-in-Some.template.word (args_from c.in_ok-template-in-Some.template.arguments.items) c.args.name c.args.byte c.in-Some.ensures.items e.0 e.1 c.if-byte-eq44.false c.requires.fine e.2 c.requires.narrow.0 c.requires.narrow.1 in
    rw (c.from_parts-name.ensures) (k.1, k.2)
