use Rattle.std.proofs.Common.{◌≡◌, ◌+◌, ◌-◌, rules}
use Rattle.crew.proofs.OnBoth.{next_none, next_through, both_crewed_none, both_crewed_more}
use Rattle.crew.proofs.crew.+add_workers+fn-add_workers-join+arg3.Goals as goal

pub returns-then-left-eq0-clause-main : goal.returns-then-left-eq0-clause-main
returns-then-left-eq0-clause-main g t c =
    (c.args.passes, c.run.result.0, c.requires.lock, next_none c.args.left c.args.passes c.if-left-eq0.true, c.run.ensures, both_crewed_none c.args.left c.args.passes c.run.result.0 c.if-left-eq0.true)

pub returns-clause-main : goal.returns-clause-main
returns-clause-main g t c =
    let p = c.args.passes in
    let own = c.split_both-own.result.0 in
    let other = c.split_both-own.result.1 in
    let one : c.args.left ≡ (c.args.left - 1) + 1 = search rules in
    let split = c.split_both-own.ensures.split in
    let s = c.join-other.ensures.second.1 in
    let w = c.join-other.ensures.first in (
      s.0,
      s.1,
      s.2,
      next_through c.args.left (c.args.left - 1) p own other s.0 one c.requires.room split s.3,
      s.4,
      both_crewed_more c.args.left (c.args.left - 1) p own other c.join-other.result.0 s.1 c.join-other.result.1.0 c.join_both.result one c.requires.room split w.1.0 w.1.1 s.5 c.join_both.ensures.joined,
    )
