use Rattle.shared_board.proofs.Knowing.{holds_here}
use Rattle.shared_board.proofs.laws.known_holds.Goals as goal

pub returns : goal.returns
returns g c meaning k h m =
    let law = c.others_leave.ensures in
    holds_here meaning (record { alone = law.alone; mine = law.mine; drained = law.drained; own = law.own; submitting = law.submitting; slips = λ h es p caller n out. law.slips meaning h es p caller n out }) k h m
