use Rattle.std.proofs.Common.{rules, ◌≡◌, ◌+◌, [], ◌∷◌, ap, map, refl, ◌∙◌}
use Rattle.turn_lock.specs.Passes.{knows}
use Rattle.crew.proofs.Peering.{peered_more, outs_more, both_more}
use Rattle.crew.proofs.peers.+fn-run_peers-join+arg3+run_peers.Goals as goal

pub returns-then-left-eq0-clause-ran : goal.returns-then-left-eq0-clause-ran
returns-then-left-eq0-clause-ran g t c = ([], search rules, (search rules, tt, refl, refl))

pub returns-clause-ran : goal.returns-clause-ran
returns-clause-ran g t c =
    let from = c.args.number in
    let k = c.args.passes in
    let own = c.split_at-own.result.0 in
    let other = c.split_at-own.result.1 in
    let split = c.split_at-own.ensures in
    let first = c.join-other.ensures.first in
    let rest = c.join-other.ensures.second.1 in
    let w = c.join-other.result.0.0 in
    let x = c.join-other.result.0.1 in
    let rs = rest.0 in
    let m = c.join-other.result.1.0 in
    let l = c.join_both.result in
    let on_board : (knows w.board).number ≡ from = first.1.0.board ∙ ap (λ n. n.number) split.board_gets in
    let on_registry : (knows w.registry).number ≡ from = first.1.0.registry ∙ ap (λ n. n.number) split.registry_gets in
    let joined = c.join_both.ensures.joined in (
      (w, x) ∷ rs,
      outs_more (λ outs. outs.items) c.with_out.result c.join-other.result.1.1 (map (λ r. r.1) rs) x c.with_out.ensures rest.1,
      (
        search rules,
        both_more (g.P.Peer.gives c.args.peer.now) from (from + 1) k own other w x rs refl split.board_gives split.registry_gives split.board_gets split.registry_gets first.1.1 rest.2.1,
        peered_more from (from + 1) (knows k.board) (knows own.board) (knows m.board) (knows w.board) (knows l.board) (map (λ r. knows r.0.board) rs) refl split.board_gives on_board rest.2.2 joined.board joined.board_seen,
        peered_more from (from + 1) (knows k.registry) (knows own.registry) (knows m.registry) (knows w.registry) (knows l.registry) (map (λ r. knows r.0.registry) rs) refl split.registry_gives on_registry rest.2.3 joined.registry joined.registry_seen,
      ),
    )
