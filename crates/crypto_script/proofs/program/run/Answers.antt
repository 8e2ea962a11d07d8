use Rattle.std.proofs.Common.{◌≡◌, ap, sym, ◌∙◌, Some, Ok}
use Rattle.std.specs.Prelude.{map, string_bytes}
use Rattle.crypto_script.specs.Words.{script_asked, script_in_mode, clients_asked, clients_in_mode}
use Rattle.crypto_script.proofs.Answering.{answered-read, answered-long, answered-written, unwritten, wanting}
use Rattle.crypto_script.proofs.Refusing.{refused_by_lines, refused_broken}
use Rattle.crypto_script.proofs.Stopping.{load-reads, reaches-end}
use Rattle.crypto_script.proofs.program.run.Goals as goal

pub returns-in-Load-clause-too_long : goal.returns-in-Load-clause-too_long
returns-in-Load-clause-too_long g c = load-reads (g.S.Source.left c.args.src.now) c.run_load.result.answer c.outcome_of-in-Load.result.status c.run_load.ensures.causes c.outcome_of-in-Load.ensures.status

pub returns-clause-complete : goal.returns-clause-complete
returns-clause-complete g c =
    let left = g.S.Source.left in
    let ran = c.run_traced.ensures in
    λ asked no_read no_write.
    reaches-end (left c.args.src.now) (left c.run_traced.new.src) ran.first.given c.run_traced.result.answer c.outcome_of-2.result.status ran.first.reads.read ran.first.first.too_long.0
    ran.usage (λ e. no_read (ran.read_fault e)) (λ e. no_write (ran.write_fault e)) c.outcome_of-2.ensures.status

pub returns-clause-front : goal.returns-clause-front
returns-clause-front g c =
    let words = map string_bytes c.args.words.now in
    let asked : script_asked words ≡ Some c.in-Script.options = c.in-Ok.ensures.script ∙ ap (λ m. script_in_mode (Ok m)) c.in-Script.is in
    rw (asked, c.outcome_of-2.ensures.registry, c.outcome_of-2.ensures.board) c.run_traced.ensures.front

pub returns-clause-by_lines : goal.returns-clause-by_lines
returns-clause-by_lines g c =
    let words = map string_bytes c.args.words.now in
    let asked : script_asked words ≡ Some c.in-Script.options = c.in-Ok.ensures.script ∙ ap (λ m. script_in_mode (Ok m)) c.in-Script.is in
    rw (asked, c.outcome_of-2.ensures.registry, c.outcome_of-2.ensures.board) c.run_traced.ensures.by_lines

pub returns-in-Err-clause-by_lines : goal.returns-in-Err-clause-by_lines
returns-in-Err-clause-by_lines g c =
    refused_by_lines c.nothing_is_by_lines.ensures (script_asked (map string_bytes c.args.words.now)) (g.S.Source.left c.args.src.now) (g.K.Sink.held c.args.out.now)
    c.outcome_of.result.registry c.outcome_of.result.board

pub returns-clause-answered : goal.returns-clause-answered
returns-clause-answered g c =
    let words = map string_bytes c.args.words.now in
    let asked : script_asked words ≡ Some c.in-Script.options = c.in-Ok.ensures.script ∙ ap (λ m. script_in_mode (Ok m)) c.in-Script.is in
    rw (asked, c.outcome_of-2.ensures.registry, c.outcome_of-2.ensures.board)
    (answered-read c.in-Script.options.workers c.outcome_of-2.result.status (g.S.Source.left c.args.src.now) (g.S.Source.left c.run_traced.new.src) c.run_traced.result.registry c.run_traced.result.board c.run_traced.result.answer (g.K.Sink.held c.args.out.now) (g.K.Sink.held c.run_traced.new.out) c.run_traced.ensures.first c.outcome_of-2.ensures.status)

pub returns-clause-answered_up_to : goal.returns-clause-answered_up_to
returns-clause-answered_up_to g c =
    let words = map string_bytes c.args.words.now in
    let asked : script_asked words ≡ Some c.in-Script.options = c.in-Ok.ensures.script ∙ ap (λ m. script_in_mode (Ok m)) c.in-Script.is in
    rw (asked, c.outcome_of-2.ensures.registry, c.outcome_of-2.ensures.board)
    (answered-long c.in-Script.options.workers c.outcome_of-2.result.status (g.S.Source.left c.args.src.now) (g.S.Source.left c.run_traced.new.src) c.run_traced.result.registry c.run_traced.result.board c.run_traced.result.answer (g.K.Sink.held c.args.out.now) (g.K.Sink.held c.run_traced.new.out) c.run_traced.ensures.first c.outcome_of-2.ensures.status)

pub returns-clause-answered_front : goal.returns-clause-answered_front
returns-clause-answered_front g c =
    let words = map string_bytes c.args.words.now in
    let asked : script_asked words ≡ Some c.in-Script.options = c.in-Ok.ensures.script ∙ ap (λ m. script_in_mode (Ok m)) c.in-Script.is in
    rw (asked, c.outcome_of-2.ensures.registry, c.outcome_of-2.ensures.board)
    (answered-written c.in-Script.options.workers c.outcome_of-2.result.status (g.S.Source.left c.args.src.now) (g.S.Source.left c.run_traced.new.src) c.run_traced.result.registry c.run_traced.result.board c.run_traced.result.answer (g.K.Sink.held c.args.out.now) (g.K.Sink.held c.run_traced.new.out) c.run_traced.ensures.first c.outcome_of-2.ensures.status)

pub returns-clause-called : goal.returns-clause-called
returns-clause-called g c =
    let words = map string_bytes c.args.words.now in
    let asked : script_asked words ≡ Some c.in-Script.options = c.in-Ok.ensures.script ∙ ap (λ m. script_in_mode (Ok m)) c.in-Script.is in
    rw (asked, c.outcome_of-2.ensures.registry, c.outcome_of-2.ensures.board)
    (λ is. c.run_traced.ensures.cut (unwritten c.run_traced.result.answer (sym c.outcome_of-2.ensures.status ∙ is)))

pub returns-clause-stopped : goal.returns-clause-stopped
returns-clause-stopped g c =
    let words = map string_bytes c.args.words.now in
    let asked : script_asked words ≡ Some c.in-Script.options = c.in-Ok.ensures.script ∙ ap (λ m. script_in_mode (Ok m)) c.in-Script.is in
    rw (asked, c.outcome_of-2.ensures.registry, c.outcome_of-2.ensures.board)
    (λ is. c.run_traced.ensures.broken (wanting c.run_traced.result.answer (sym c.outcome_of-2.ensures.status ∙ is)))

pub returns-in-Err-clause-stopped : goal.returns-in-Err-clause-stopped
returns-in-Err-clause-stopped g c =
    let none = c.refused_run.ensures in
    rw (c.outcome_of.ensures.registry, c.outcome_of.ensures.board, none.1, none.2)
    (refused_broken c.nothing_is_broken_off.ensures c.outcome_of.result.status (script_asked (map string_bytes c.args.words.now)) (g.S.Source.left c.args.src.now) (g.K.Sink.held c.args.out.now))

pub returns-in-Clients-clause-one_list : goal.returns-in-Clients-clause-one_list
returns-in-Clients-clause-one_list g c =
    let words = map string_bytes c.args.words.now in
    let asked : clients_asked words ≡ Some c.in-Clients.options = c.in-Ok.ensures.clients ∙ ap (λ m. clients_in_mode (Ok m)) c.in-Clients.is in
    rw (asked, c.outcome_of-in-Clients.ensures.status, c.outcome_of-in-Clients.ensures.board) c.run_clients.ensures.ran.one_list

pub returns-in-Clients-clause-complete : goal.returns-in-Clients-clause-complete
returns-in-Clients-clause-complete g c =
    let left = g.S.Source.left in
    let ran = c.run_clients.ensures in
    let read = ran.too_long in
    λ asked no_read no_write.
    reaches-end (left c.args.src.now) (left c.run_clients.new.src) read.0 c.run_clients.result.answer c.outcome_of-in-Clients.result.status read.1 read.2.0
    ran.usage (λ e. no_read (ran.read_fault e)) (λ e. no_write (ran.write_fault e)) c.outcome_of-in-Clients.ensures.status
