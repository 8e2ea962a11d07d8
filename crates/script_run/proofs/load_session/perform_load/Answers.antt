use Rattle.std.proofs.Common.{inl, ◌∙◌}
use Rattle.script_run.proofs.Going.{goes-then}
use Rattle.script_run.proofs.LoadLines.{load-done}
use Rattle.script_run.proofs.load_session.perform_load.Goals as goal

pub returns-in_err-hold_opening-clause-unshut : goal.returns-in_err-hold_opening-clause-unshut
returns-in_err-hold_opening-clause-unshut g c =
    let opened = c.hold_opening.ensures in
    inl (opened.unshut (opened.goes_on.board.number ∙ c.requires.fresh.board.0))

pub returns-in_err-hold_requests-clause-goes_on : goal.returns-in_err-hold_requests-clause-goes_on
returns-in_err-hold_requests-clause-goes_on g c =
    goes-then c.args.session.now c.hold_opening.new.session c.hold_requests.new.session c.hold_opening.ensures.goes_on c.hold_requests.ensures.goes_on

pub returns-in_err-hold_requests-clause-unshut : goal.returns-in_err-hold_requests-clause-unshut
returns-in_err-hold_requests-clause-unshut g c =
    let asked = c.hold_requests.ensures in
    inl (asked.unshut (asked.goes_on.board.number ∙ (c.hold_opening.ensures.goes_on.board.number ∙ c.requires.fresh.board.0)))

pub hold_end-requires-clause-first : goal.hold_end-requires-clause-first
hold_end-requires-clause-first g c =
    c.hold_requests.ensures.goes_on.board.number ∙ (c.hold_opening.ensures.goes_on.board.number ∙ c.requires.fresh.board.0)

pub returns-in_err-hold_end-clause-goes_on : goal.returns-in_err-hold_end-clause-goes_on
returns-in_err-hold_end-clause-goes_on g c =
    goes-then c.args.session.now c.hold_requests.new.session c.hold_end.new.session
    (goes-then c.args.session.now c.hold_opening.new.session c.hold_requests.new.session c.hold_opening.ensures.goes_on c.hold_requests.ensures.goes_on) c.hold_end.ensures.goes_on

pub returns-clause-loaded : goal.returns-clause-loaded
returns-clause-loaded g c =
    load-done c.laws.ensures c.args.seed c.args.count c.args.session.now c.hold_opening.new.session c.hold_requests.new.session c.hold_end.new.session
    c.new-hasher.result c.hold_opening.new.hasher c.hold_requests.new.hasher c.hold_end.new.hasher c.finalize.result
    c.requires.fresh c.new-hasher.ensures c.hold_opening.ensures.goes_on
    c.in_ok-hold_opening.ensures.on c.in_ok-hold_requests.ensures.on c.in_ok-hold_end.ensures.on c.finalize.ensures

pub returns-clause-goes_on : goal.returns-clause-goes_on
returns-clause-goes_on g c =
    goes-then c.args.session.now c.hold_requests.new.session c.hold_end.new.session
    (goes-then c.args.session.now c.hold_opening.new.session c.hold_requests.new.session c.hold_opening.ensures.goes_on c.hold_requests.ensures.goes_on) c.hold_end.ensures.goes_on
