use Rattle.std.proofs.Common.{arith, ap, length}
use Rattle.perdoaze_calls.proofs.Encryptions.{came_from}
use Rattle.perdoaze_calls.proofs.transform.Transform.encrypt_many.Goals as goal

pub returns-then-not-encrypt_in_step-clause-came : goal.returns-then-not-encrypt_in_step-clause-came
returns-then-not-encrypt_in_step-clause-came c = λ i l m.
    let same = c.encrypt_in_step.ensures.undone c.if-not-encrypt_in_step.true in
    came_from c.args.self.now c.args.asked.now c.encrypt_in_step.new.asked c.answer_each.new.asked c.args.buffers.now c.encrypt_in_step.new.buffers c.answer_each.new.buffers i
    same.0 same.1 (c.answer_each.ensures.came i (omega (arith, l, ap length same.0)) (omega (arith, m, ap length same.1)))
