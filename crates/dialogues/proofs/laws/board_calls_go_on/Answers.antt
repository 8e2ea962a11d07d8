use Rattle.dialogues.proofs.BoardGrowing.{board_calls-append, board_calls_from-append, none-called}
use Rattle.dialogues.proofs.laws.board_calls_go_on.Goals as goal

pub returns : goal.returns
returns c = record { goes_on = board_calls-append; joins = board_calls_from-append; uncalled = none-called }
