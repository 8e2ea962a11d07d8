use Rattle.std.proofs.Common.{arith, ◌-◌}
use Rattle.padata_core.specs.Pad.{kept_at}
use Rattle.padata_core.proofs.Tables.{length-outcomes}
use Rattle.padata_core.proofs.Padata.submitted.Goals as goal

pub returns : goal.returns
returns g c = (let l = c.self.invariant.1 in rw (← c.self.view_is) (omega (arith, length-outcomes (kept_at c.self.inside.rows.items c.self.inside.lists) c.self.inside.collected (c.self.inside.taken - c.self.inside.collected), c.len.ensures)))
