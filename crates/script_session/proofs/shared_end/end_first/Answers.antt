use Rattle.std.proofs.Common.{◌∙◌, sym, subst}
use Rattle.std.specs.Prelude.{MatchResult}
use Rattle.turn_lock.specs.Passes.{knows}
use Rattle.recorded_calls.specs.Passes.{known}
use Rattle.script_session.specs.SharedEnd.{EndsLent, SeesBeside, AreToMove}
use Rattle.script_session.specs.Loans.{HasLent}
use Rattle.script_session.proofs.Joined.{meets-first, to-move, may-leave, first-done, first-more, first-ended}
use Rattle.script_session.proofs.shared_end.end_first.Goals as goal

pub end_shared-held-requires-clause-lent : goal.end_shared-held-requires-clause-lent
end_shared-held-requires-clause-lent g c =
    let m = known c.meet.new.self in
    let meets = meets-first c.args.pass c.new-caller.result m c.new-caller.ensures c.requires.joined.ended c.meet.ensures.turn c.meet.ensures.kept c.meet.ensures.again c.meet.ensures.gone in
    subst (λ ls. AreToMove HasLent ls m) (sym (c.as_slice-lives.ensures.value ∙ c.shared.view_is)) (to-move c.args.shared.now (knows c.args.pass) m c.requires.joined meets)

pub leave_board-requires-clause-may : goal.leave_board-requires-clause-may
leave_board-requires-clause-may g c =
    let m = known c.meet.new.self in
    let text = c.args.reply.now.text in
    let meets = meets-first c.args.pass c.new-caller.result m c.new-caller.ensures c.requires.joined.ended c.meet.ensures.turn c.meet.ensures.kept c.meet.ensures.again c.meet.ensures.gone in
    may-leave c.end_shared-held.result c.as_slice-lives.result.now c.args.shared.now (knows c.args.pass) m (known c.end_shared-held.new.caller) text c.end_shared-held.new.reply.text c.requires.joined meets c.end_shared-held.ensures.done

pub returns : goal.returns
returns g c =
    let lives = c.args.shared.now in
    let j = knows c.args.pass in
    let m = known c.meet.new.self in
    let n = known c.end_shared-held.new.caller in
    let l = knows c.leave_board.result in
    let held = c.end_shared-held.result in
    let text = c.args.reply.now.text in
    let text' = c.end_shared-held.new.reply.text in
    let meets = meets-first c.args.pass c.new-caller.result m c.new-caller.ensures c.requires.joined.ended c.meet.ensures.turn c.meet.ensures.kept c.meet.ensures.again c.meet.ensures.gone in
    let done =
    first-done c.only_collects_hand_out.ensures.drained c.gathered_hand_out_all.ensures held lives j m n l text text' c.requires.joined meets
    (subst (λ ls. MatchResult held (λ _. EndsLent ls m n text text') (λ _. SeesBeside m n)) (c.as_slice-lives.ensures.value ∙ c.shared.view_is) c.end_shared-held.ensures.done) c.leave_board.ensures.left in
    record {
      lock = c.leave_board.ensures.lock;
      more = first-more held lives j l text text' done;
      ended = first-ended held lives j l text text' done;
      done = done;
      unwritten = c.end_shared-held.ensures.unwritten;
    }
