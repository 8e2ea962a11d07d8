use Rattle.std.proofs.Common.{◌≡◌, ◌^◌, ◌<◌, subst, sym, ◌∙◌}
use Rattle.turn_lock.specs.Passes.{knows, turn_value}
use Rattle.board.specs.declared.entry.BoardEntry.TheVariants as entry
use Rattle.board.specs.declared.board_core.BoardErr.TheVariants as error
use Rattle.turn_lock.specs.TurnLaws.{done_turn}
use Rattle.board.specs.Shapes.{is_pad}
use Rattle.board.specs.Entries.{entries_of, caller_of}
use Rattle.board.specs.Legal.{LegalBoard}
use Rattle.shared_board.proofs.Knowing.{itself, same_width}
use Rattle.shared_board.proofs.shared.SharedBoard.mask.Goals as goal

pub mask-answer-requires-clause-caller : goal.mask-answer-requires-clause-caller
mask-answer-requires-clause-caller g c κs within =
    let s = c.turn-turn.ensures.holds.known c.args.pipe c.requires.caller in
    rw (c.number-caller.ensures, c.get.ensures.value) s.managed

pub mask-answer-requires-clause-pipe : goal.mask-answer-requires-clause-pipe
mask-answer-requires-clause-pipe g c κs within =
    let s = c.turn-turn.ensures.holds.known c.args.pipe c.requires.caller in
    let o = s.opened is_pad c.requires.pipe in
    rw c.get.ensures.value o

pub mask-answer-requires-clause-alone : goal.mask-answer-requires-clause-alone
mask-answer-requires-clause-alone g c κs within =
    let s = c.turn-turn.ensures.holds.known c.args.pipe c.requires.caller in
    rw c.get.ensures.value (s.shared ∙ c.requires.alone)

pub mask-answer-requires-clause-bits : goal.mask-answer-requires-clause-bits
mask-answer-requires-clause-bits g c κs within =
    let s = c.turn-turn.ensures.holds.known c.args.pipe c.requires.caller in
    let w = same_width (entries_of c.args.pipe (knows c.args.pass).seen) (entries_of c.args.pipe (turn_value c.turn-turn.result)) s.opened c.requires.pipe in
    rw c.get.ensures.value (subst (λ n. c.args.mask < 2 ^ n) (sym w) c.requires.bits)

pub returns-clause-turn : goal.returns-clause-turn
returns-clause-turn g c =
    let t = c.turn-turn.ensures in
    let a = c.mask-answer.ensures in
    done_turn caller_of (λ xs. LegalBoard xs) itself (knows c.args.pass) _ (knows c.give-pass.result) _ _ c.mask-answer.new.self _ c.number-caller.ensures c.get.ensures.value t.sees t.meets a.legal c.mask-answer.result
    (λ j xs. entry.Mask j c.args.pipe c.args.mask) (λ e. e ≡ error.Memory) _ c.is_ok-added.ensures.value a.masked a.refused c.give-pass.ensures.view
