use Rattle.std.proofs.Common.{ap, arith}
use Rattle.trace_check.specs.Pipes.{state_of}
use Rattle.trace_check.proofs.Places.{told_fits}
use Rattle.trace_check.proofs.pipe.Pipeline.finish.Goals as goal

pub overflow_add-self : goal.overflow_add-self
overflow_add-self c =
    let fits = told_fits (state_of c.args.self.now) c.args.number c.end.new.self.told c.end.new.self.front c.requires (ap (λ s. s.told) c.end.ensures) (ap (λ s. s.front) c.end.ensures) in
    omega arith
